-- A line's bytes (document 01, "Hexadecimal lines"): two digits each, the high one first. Which characters are digits stands in crates/digits.
-- Assumes nothing.
use Rattle.std.specs.Prelude.{ℕ, ◌+◌, ◌*◌, ◌/◌, ◌%◌, Bool, true, List, [], ◌∷◌, leb, eqb, length, get_or}
use Rattle.sets.specs.Tests.{◌and◌}
use Rattle.sets.specs.Tables.{table}
use Rattle.digits.specs.Digits.{digit_of, value_of, is_digit}

unfoldable pub all_digits : (line : List ℕ) → Bool
all_digits [] = true
all_digits (b ∷ line) = is_digit b and all_digits line

-- a whole number of bytes, at least one, and nothing foreign
unfoldable pub well_formed : (line : List ℕ) → Bool
well_formed line = leb 1 (length line) and eqb (length line % 2) 0 and all_digits line

-- the value of digit i, 0 past the end
unfoldable pub digit_at : (line : List ℕ) (i : ℕ) → ℕ
digit_at line i = value_of (digit_of (get_or line i 0))

-- byte k is digits 2k and 2k + 1
unfoldable pub byte_at : (line : List ℕ) (k : ℕ) → ℕ
byte_at line k = 16 * digit_at line (2 * k) + digit_at line (2 * k + 1)

unfoldable pub bytes_of : (line : List ℕ) → List ℕ
bytes_of line = table (length line / 2) (byte_at line)
