-- Small hexadecimal digits, 0-9a-f (document 01, "Hexadecimal lines"), by the table of characters, ISO 646 (document 02, P3): sixteen cases, read from
-- left to right on the way in and from right to left on the way out. Assumes nothing.
use Rattle.std.specs.Prelude.{ℕ, Bool, List, [], ◌∷◌, Option, Some, None, eqb}
use Rattle.sets.specs.Tests.{pick}

-- a case: a character, by its number in the table of characters, and its value
pub record Case : Type 0 where
  pub character : ℕ
  pub value : ℕ

infix 90 ◌means◌
abbrev pub ◌means◌ : (character value : ℕ) → Case
character means value = record { character = character; value = value }

unfoldable pub sixteen : List Case
sixteen =
    48 means 0  -- '0'
    ∷ 49 means 1  -- '1'
    ∷ 50 means 2  -- '2'
    ∷ 51 means 3  -- '3'
    ∷ 52 means 4  -- '4'
    ∷ 53 means 5  -- '5'
    ∷ 54 means 6  -- '6'
    ∷ 55 means 7  -- '7'
    ∷ 56 means 8  -- '8'
    ∷ 57 means 9  -- '9'
    ∷ 97 means 10  -- 'a'
    ∷ 98 means 11  -- 'b'
    ∷ 99 means 12  -- 'c'
    ∷ 100 means 13  -- 'd'
    ∷ 101 means 14  -- 'e'
    ∷ 102 means 15  -- 'f'
    ∷ []

-- what the case of this key gives; where no case has it, `other`
unfoldable pub by_case : {A : Type 0} → (key : Case → ℕ) (gives : Case → A) (other : A) → List Case → ℕ → A
by_case key gives other [] x = other
by_case key gives other (case ∷ cases) x = pick (eqb x (key case)) (gives case) (by_case key gives other cases x)

-- in: the value of a character; every other one is foreign, and has none
unfoldable pub digit_of : (b : ℕ) → Option ℕ
digit_of b = by_case (λ case. case.character) (λ case. Some case.value) None sixteen b

-- out: the character of a value; 0, which is no digit, for every other one
unfoldable pub character_of : (v : ℕ) → ℕ
character_of v = by_case (λ case. case.value) (λ case. case.character) 0 sixteen v

-- document 01's number of a foreign character, 0 for a digit
abbrev pub number_of : Option ℕ → ℕ
number_of (Some v) = 0
number_of None = 1

-- the value of a digit, 0 where there is none
abbrev pub value_of : Option ℕ → ℕ
value_of (Some v) = v
value_of None = 0

-- a digit is a character that no number refuses
unfoldable pub is_digit : (b : ℕ) → Bool
is_digit b = eqb (number_of (digit_of b)) 0
