-- An array that a closure makes, one value for each index, where no call changes it. Assumes nothing.
use Prim.Native.Nat.{ℕ, zero, suc, ◌+◌, ◌<◌, ◌≤◌}
use mathlib.Core.Path.{◌≡◌, ◌∙◌, subst}
use mathlib.Core.Logic.{⊎_elim}
use mathlib.Core.List.{List}
use native.Mathlib.Nat.{eq-or-lt_of_le}
use native.Mathlib.Omega.{arith}
use denote.Param.Members.{Mut, Called}
use lib.ListN.{get_or}
use Rattle.std.specs.Array.{IsFromFnResult, IsFromFnResultFrom}
use Rattle.sets.specs.Tables.{table}
use Rattle.sets.proofs.Tables.{table_is}

module _ {A F : Type 0} (g : Mut F (ℕ × Unit {0}) A) (value : ℕ → A) (f : F) (d : A) where
  filled_from : (n i : ℕ) (ys : List A) → ((k : ℕ) (y : A) (q : F) → k < i + n → Called g f (k, tt) y q → (y ≡ value k) × (q ≡ f)) → IsFromFnResultFrom g f ys i n
      → (k : ℕ) → i ≤ k → k < i + n → get_or ys k d ≡ value k
  filled_from zero i ys one each k low high = absurd (omega arith)
  filled_from (suc n) i ys one (q, y, here, call, rest) k low high =
      let made = one i y q (omega arith) call in
      ⊎_elim
      (λ e. subst (λ (j : ℕ). get_or ys j d ≡ value j) e (here.1 d ∙ made.0))
      (λ l.
      filled_from n (i + 1) ys (λ k y q h. one k y q (omega arith)) (subst (λ (p : F). IsFromFnResultFrom g p ys (i + 1) n) made.1 rest) k (omega arith) (omega arith))
      (eq-or-lt_of_le low)

  pub filled_at : (n : ℕ) (ys : List A) → ((k : ℕ) (y : A) (q : F) → k < n → Called g f (k, tt) y q → (y ≡ value k) × (q ≡ f)) → IsFromFnResult g f ys n
      → (k : ℕ) → k < n → get_or ys k d ≡ value k
  filled_at n ys one made k h = filled_from n 0 ys (λ k y q l. one k y q (omega arith)) made.each k (omega arith) (omega arith)

  pub filled : (n : ℕ) (ys : List A) → ((k : ℕ) (y : A) (q : F) → k < n → Called g f (k, tt) y q → (y ≡ value k) × (q ≡ f)) → IsFromFnResult g f ys n → ys ≡ table n value
  filled n ys one made = table_is n value d ys made.long (filled_at n ys one made)
