-- The laws of a table of causes. Assumes nothing.
use Prim.Native.Nat.{ℕ}
use mathlib.Core.Path.{◌≡◌, refl, sym, ◌∙◌}
use mathlib.Core.Logic.{⊎_elim}
use mathlib.Core.Bool.{Bool, true, false, not}
use mathlib.Core.List.{List, [], ◌∷◌}
use lib.Dec.{eqb}
use borrow.Author.Tests.{eqb-true, eqb-false, eq-eqb, ne_eqb}
use Rattle.sets.specs.Tests.{◌and◌, pick}
use Rattle.sets.specs.Causes.{Cause, ◌gives◌, first_cause, given}
use Rattle.sets.proofs.Bools.{clash, decide, and_l, and_r, not_e, not_i, not_yes, pick_yes, pick_no, pick_case}

-- a row whose test holds decides, one whose test fails is passed over
pub cause_here : (test : Bool) (number : ℕ) (rest : List Cause) → test ≡ true → first_cause (test gives number ∷ rest) ≡ number
unfolding first_cause
cause_here test number rest h = pick_yes _ _ _ h

pub cause_later : (test : Bool) (number : ℕ) (rest : List Cause) → test ≡ false → first_cause (test gives number ∷ rest) ≡ first_cause rest
unfolding first_cause
cause_later test number rest h = pick_no _ _ _ h

-- the last row: nothing is refused where its test fails too
pub cause_last : (test : Bool) (number : ℕ) → test ≡ false → first_cause (test gives number ∷ []) ≡ 0
unfolding first_cause
cause_last test number h = pick_no _ _ _ h

-- where there is no cause, no row applies
pub cause_none : (test : Bool) (number : ℕ) (rest : List Cause) → (number ≡ 0 → ⊥) → first_cause (test gives number ∷ rest) ≡ 0
    → (test ≡ false) × (first_cause rest ≡ 0)
unfolding first_cause pick
cause_none true number rest z h = absurd (z h)
cause_none false number rest z h = (refl, h)

-- ---- a cause that was found before

pub given_passes : (number : ℕ) (rest : List Cause) → number ≡ 0 → first_cause (given number ∷ rest) ≡ first_cause rest
given_passes number rest e = cause_later _ number rest (not_yes (eq-eqb number 0 e))

pub given_decides : (number : ℕ) (rest : List Cause) → (number ≡ 0 → ⊥) → first_cause (given number ∷ rest) ≡ number
given_decides number rest z = cause_here _ number rest (not_i (ne_eqb number 0 z))

pub given_is : (number : ℕ) (rest : List Cause) (k : ℕ) → number ≡ k → (k ≡ 0 → ⊥) → first_cause (given number ∷ rest) ≡ k
given_is number rest k e z = given_decides number rest (λ y. z (sym e ∙ y)) ∙ e

pub given_none : (number : ℕ) (rest : List Cause) → first_cause (given number ∷ rest) ≡ 0 → (number ≡ 0) × (first_cause rest ≡ 0)
given_none number rest h =
    ⊎_elim (λ e. (eqb-true number 0 e, sym (given_passes number rest (eqb-true number 0 e)) ∙ h))
    (λ e. let z = eqb-false number 0 e in absurd (z (sym (given_decides number rest z) ∙ h)))
    (decide (eqb number 0))

-- ---- a number that no row of the table has

unfoldable pub lacks : (k : ℕ) → List Cause → Bool
lacks k [] = true
lacks k (test gives number ∷ rest) = not (eqb number k) and lacks k rest

pub cause_lacks : (k : ℕ) (rows : List Cause) → (k ≡ 0 → ⊥) → lacks k rows ≡ true → first_cause rows ≡ k → ⊥
unfolding first_cause lacks
cause_lacks k [] z l = λ h. z (sym h)
cause_lacks k (test gives number ∷ rest) z l =
    pick_case (λ (c : ℕ). c ≡ k → ⊥) test number (first_cause rest)
    (λ t h. clash (eq-eqb number k h) (not_e _ (and_l _ _ l))) (λ t. cause_lacks k rest z (and_r _ _ l))
