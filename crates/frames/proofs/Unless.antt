-- A reading that goes on unless there is a cause. Assumes nothing.
use Prim.Native.Nat.{ℕ}
use mathlib.Core.Path.{◌≡◌, refl}
use lib.Dec.{eqb}
use borrow.Author.Tests.{eq-eqb, ne_eqb, eqb-true, eqb-false}
use Rattle.sets.proofs.Bools.{pick_yes, pick_no, pick_case}
use Rattle.frames.specs.Reading.{nothing_read, Reading, refusal, unless}

module _ (cause line : ℕ) (r : Reading) where
  pub unless_none : cause ≡ 0 → unless cause line r ≡ r
  unless_none z = pick_yes _ _ _ (eq-eqb cause 0 z)

  pub unless_some : (cause ≡ 0 → ⊥) → unless cause line r ≡ refusal cause line
  unless_some n = pick_no _ _ _ (ne_eqb cause 0 n)

  -- what holds of it where it is accepted
  pub unless_read : (Q : Reading → Type 0) → (cause ≡ 0 → r.number ≡ 0 → Q r) → (unless cause line r).number ≡ 0 → Q (unless cause line r)
  unless_read Q f =
      pick_case (λ (x : Reading). x.number ≡ 0 → Q x) (eqb cause 0) r (refusal cause line)
      (λ e. f (eqb-true cause 0 e)) (λ e z. absurd (eqb-false cause 0 e z))

  -- where it is refused, nothing is known
  pub unless_refused : ((r.number ≡ 0 → ⊥) → r.progress ≡ nothing_read) → ((unless cause line r).number ≡ 0 → ⊥) → (unless cause line r).progress ≡ nothing_read
  unless_refused f =
      pick_case (λ (x : Reading). (x.number ≡ 0 → ⊥) → x.progress ≡ nothing_read) (eqb cause 0) r (refusal cause line) (λ e. f) (λ e n. refl)

  -- a number that neither the cause nor the rest has
  pub unless_never : {number : ℕ} → (cause ≡ number → ⊥) → (r.number ≡ number → ⊥) → (unless cause line r).number ≡ number → ⊥
  unless_never {number} f g = pick_case (λ (x : Reading). x.number ≡ number → ⊥) (eqb cause 0) r (refusal cause line) (λ e. g) (λ e. f)
