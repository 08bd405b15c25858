-- The claim about digits in and out, for all sixteen values and for all 256 bytes. Assumes nothing.
use Rattle.std.specs.Prelude.{ℕ, ◌+◌, ◌<◌, ◌≡◌, ◌++◌, Some, None, replicate}
use Rattle.sets.specs.Tables.{table}
use Rattle.digits.specs.Digits.{digit_of, character_of}

pub record BothWays : Type 0 where
  -- in after out is the value
  pub value : (v : ℕ) → v < 16 → digit_of (character_of v) ≡ Some v
  -- out after in is the character
  pub character : (b v : ℕ) → digit_of b ≡ Some v → (v < 16) × (character_of v ≡ b)
  -- the bytes from 0 to 255: 48 foreign ones, '0' to '9', 39 foreign ones, 'a' to 'f', 153 foreign ones
  pub bytes : table 256 digit_of
      ≡ replicate 48 None ++ table 10 Some ++ replicate 39 None ++ table 6 (λ i. Some (10 + i)) ++ replicate 153 None
