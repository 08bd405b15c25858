-- Numbers as hexadecimal digits (document 01, "Hexadecimal lines"): two a byte, larger numbers high byte first. Which characters the digits are stands in
-- crates/digits. And a byte as decimal digits (document 02, P1 and P13). Assumes nothing.
use Rattle.std.specs.Prelude.{ℕ, ◌+◌, ◌/◌, ◌%◌, List, [], ◌∷◌, ◌++◌, ltb}
use Rattle.sets.specs.Tests.{pick}
use Rattle.digits.specs.Digits.{character_of}

unfoldable pub hex_byte : (b : ℕ) → List ℕ
hex_byte b = character_of (b / 16) ∷ character_of (b % 16) ∷ []

-- a number in two bytes, and in three
unfoldable pub hex_pair : (v : ℕ) → List ℕ
hex_pair v = hex_byte (v / 256) ++ hex_byte (v % 256)

unfoldable pub hex_triple : (v : ℕ) → List ℕ
hex_triple v = hex_byte (v / 65536) ++ hex_pair (v % 65536)

-- a byte in decimal, by the table of characters (ISO 646, in which 0 to 9 are 48 to 57), without a leading zero
unfoldable pub decimal : (v : ℕ) → List ℕ
decimal v =
    pick (ltb v 10) ((48 + v) ∷ [])
    (pick (ltb v 100) ((48 + v / 10) ∷ (48 + v % 10) ∷ []) ((48 + v / 100) ∷ (48 + v / 10 % 10) ∷ (48 + v % 10) ∷ []))
