-- The least key of some sets: where none is less, of fewer sets, and of two kinds of sets one after the other. Assumes nothing.
use Prim.Native.Nat.{ℕ, ◌≤◌}
use mathlib.Core.Path.{◌≡◌, refl, ◌∙◌}
use mathlib.Core.Logic.{◌⊎◌, inl, inr, ⊎_elim}
use mathlib.Core.Bool.{true}
use native.Mathlib.Nat.{le_refl, le_trans}
use Rattle.plan.specs.declared.Plan.{Plan}
use Rattle.closure.specs.Verdict.{defeats}
use Rattle.partition.specs.Search.{key, Least}

module _ {p : Plan} {Of : ℕ → Type 0} where
  -- best is the least where no set has a lesser key
  pub stays : {best : ℕ} → ((s : ℕ) → defeats p s ≡ true → Of s → best ≤ key s) → Least p Of best best
  stays {best} f = record { at_most = le_refl best; comes = inl refl; below = f }

  pub least_among : {Wider : ℕ → Type 0} {best r : ℕ} → ((s : ℕ) → defeats p s ≡ true → Of s → Wider s) → Least p Wider best r → Least p Of best r
  least_among f h = record { at_most = h.at_most; comes = h.comes; below = λ s d o. h.below s d (f s d o) }

  pub least_then : {First Then : ℕ → Type 0} {best first r : ℕ} → ((s : ℕ) → defeats p s ≡ true → Of s → First s ⊎ Then s)
      → Least p First best first → Least p Then first r → Least p Of best r
  least_then f x y = record {
    at_most = le_trans y.at_most x.at_most;
    comes = ⊎_elim (λ v. ⊎_elim (λ u. inl (v ∙ u)) (λ u. inr (u.0, u.1, v ∙ u.2)) x.comes) inr y.comes;
    below = λ s d o. ⊎_elim (λ g. le_trans y.at_most (x.below s d g)) (y.below s d) (f s d o);
  }
