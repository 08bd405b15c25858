-- Digits in and out. What is shown of each of the sixteen cases, and of each of the 256 bytes, is computed over all of them at once. Assumes nothing.
use Prim.Native.Nat.{ℕ, ◌<◌}
use mathlib.Core.Path.{◌≡◌, refl, sym, ap, ◌∙◌}
use mathlib.Core.Bool.{Bool, true, false, not}
use mathlib.Core.List.{List, [], ◌∷◌}
use native.Mathlib.Omega.{arith}
use lib.Dec.{eqb, ltb}
use borrow.Author.Tests.{ne_eqb, eqb-true, eqb-false, ltb-true}
use Rattle.sets.specs.Tests.{◌and◌, pick}
use Rattle.sets.specs.Sets.{all}
use Rattle.sets.specs.Tables.{table}
use Rattle.sets.proofs.Bools.{clash, and_l, and_r, not_e, pick_no, pick_case, every}
use Rattle.sets.proofs.Laws.{all_at}
use Rattle.std.specs.Prelude.{Option, Some, None}
use Rattle.digits.specs.Digits.{Case, sixteen, by_case, digit_of, character_of, number_of, value_of, is_digit}
use Rattle.digits.specs.BothWays.{BothWays}

-- ---- a choice by cases

-- none of the keys from here on, beside what is known of those before: what the last arm of a match knows
abbrev pub NoneOf : (key : Case → ℕ) (cases : List Case) (before : Type 0) (x : ℕ) → Type 0
NoneOf key [] before x = before
NoneOf key (case ∷ cases) before x = NoneOf key cases (before × (x ≡ key case → ⊥)) x

none_before : (key : Case → ℕ) (cases : List Case) (before : Type 0) (x : ℕ) → NoneOf key cases before x → before
none_before key [] before x h = h
none_before key (case ∷ cases) before x h = (none_before key cases (before × (x ≡ key case → ⊥)) x h).0

module _ {A : Type 0} (key : Case → ℕ) (gives : Case → A) (other : A) where
  pub by_none : (cases : List Case) (before : Type 0) (x : ℕ) → NoneOf key cases before x → by_case key gives other cases x ≡ other
  unfolding by_case
  by_none [] before x h = refl
  by_none (case ∷ cases) before x h =
      pick_no _ _ _ (ne_eqb x (key case) (none_before key cases (before × (x ≡ key case → ⊥)) x h).1) ∙ by_none cases (before × (x ≡ key case → ⊥)) x h

  -- a claim about what is chosen, from a test that every case passes
  by_test : (Q : A → Type 0) (test : Case → Bool) (x : ℕ) (cases : List Case) → every test cases ≡ true
      → ((case : Case) → test case ≡ true → x ≡ key case → Q (gives case)) → Q other → Q (by_case key gives other cases x)
  unfolding every by_case
  by_test Q test x [] t f o = o
  by_test Q test x (case ∷ cases) t f o =
      pick_case Q (eqb x (key case)) (gives case) (by_case key gives other cases x) (λ e. f case (and_l _ _ t) (eqb-true x (key case) e))
      (λ e. by_test Q test x cases (and_r _ _ t) f o)

-- ---- out after in, and in after out

-- a case is right if its value is one of the sixteen, and is written as its character
right : Case → Bool
right case = ltb case.value 16 and eqb (character_of case.value) case.character

all_right : every right sixteen ≡ true
unfolding character_of by_case sixteen every right ◌and◌ pick
all_right = refl

Read : (b : ℕ) → Option ℕ → Type 0
Read b d = (v : ℕ) → d ≡ Some v → (v < 16) × (character_of v ≡ b)

read_right : (b : ℕ) (case : Case) → right case ≡ true → b ≡ case.character → Read b (Some case.value)
unfolding right Read
read_right b case t e v h =
    let same : case.value ≡ v = cc in
    let small : case.value < 16 = ltb-true case.value 16 (and_l _ _ t) in
    let written : character_of case.value ≡ case.character = eqb-true (character_of case.value) case.character (and_r _ _ t) in
    (omega arith, sym (ap character_of same) ∙ written ∙ sym e)

read_none : (b : ℕ) → Read b None
unfolding Read
read_none b v h = let z : ◌≡◌ {A = ℕ} 0 1 = cc in absurd (omega arith)

pub out_after_in : (b v : ℕ) → digit_of b ≡ Some v → (v < 16) × (character_of v ≡ b)
unfolding digit_of Read
out_after_in b = by_test (λ case. case.character) (λ case. Some case.value) None (Read b) right b sixteen all_right (read_right b) (read_none b)

-- is it this digit?
is : Option ℕ → ℕ → Bool
is (Some w) v = eqb w v
is None v = false

is_value : (d : Option ℕ) (v : ℕ) → is d v ≡ true → d ≡ Some v
unfolding is
is_value (Some w) v h = ap Some (eqb-true w v h)
is_value None v h = clash h refl

pub in_after_out : (v : ℕ) → v < 16 → digit_of (character_of v) ≡ Some v
unfolding all is digit_of character_of by_case sixteen ◌and◌ pick
in_after_out v h = is_value (digit_of (character_of v)) v (all_at 16 (λ w. is (digit_of (character_of w)) w) refl v h)

pub both_ways : BothWays
unfolding table digit_of by_case sixteen pick
both_ways = record { value = in_after_out; character = out_after_in; bytes = refl }

-- ---- what callers use

pub digit_yes : (b v : ℕ) → digit_of b ≡ Some v → is_digit b ≡ true
unfolding is_digit
digit_yes b v h = ap (λ (d : Option ℕ). eqb (number_of d) 0) h

pub digit_no : (b : ℕ) → digit_of b ≡ None → is_digit b ≡ false
unfolding is_digit
digit_no b h = ap (λ (d : Option ℕ). eqb (number_of d) 0) h

-- what is written of a value, whatever it is, does not end a line
pub character_no_end : (v : ℕ) → character_of v ≡ 10 → ⊥
unfolding character_of sixteen every ◌and◌
character_no_end v =
    by_test (λ case. case.value) (λ case. case.character) 0 (λ (c : ℕ). c ≡ 10 → ⊥) (λ case. not (eqb case.character 10)) v sixteen refl
    (λ case t e. eqb-false case.character 10 (not_e (eqb case.character 10) t)) (λ e. omega arith)

-- what stands past the end of a list is none
pub no_value : value_of (digit_of 0) ≡ 0
unfolding digit_of by_case sixteen pick
no_value = refl

small : (d : Option ℕ) → ((v : ℕ) → d ≡ Some v → v < 16) → value_of d < 16
small (Some v) f = f v refl
small None f = omega arith

pub value_small : (b : ℕ) → value_of (digit_of b) < 16
value_small b = small (digit_of b) (λ v h. (out_after_in b v h).0)
