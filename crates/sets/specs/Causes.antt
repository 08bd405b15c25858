-- Causes of refusal, as document 01's table has them: tests with their numbers, of which the first that holds decides. Assumes nothing.
use Rattle.std.specs.Prelude.{ℕ, Bool, not, List, [], ◌∷◌, eqb}
use Rattle.sets.specs.Tests.{pick}

-- a row of the table: where the test holds, the call is refused by the number
infix 90 ◌gives◌
pub data Cause : Type 0 where
  ◌gives◌ : (test : Bool) (number : ℕ) → Cause

-- the number of the first row whose test holds, 0 where none does
unfoldable pub first_cause : List Cause → ℕ
first_cause [] = 0
first_cause (test gives number ∷ rest) = pick test number (first_cause rest)

-- the row of a cause that was found before, if there was one
abbrev pub given : (number : ℕ) → Cause
given number = not (eqb number 0) gives number
