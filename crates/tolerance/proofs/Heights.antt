-- The greatest bound: it is the greatest, it is counted from below where smaller bounds pass too, and it rises with what passes. Assumes nothing.
use Prim.Native.Nat.{ℕ, zero, suc, ◌+◌, ◌≤◌, ◌<◌}
use mathlib.Core.Path.{◌≡◌, refl, sym, ap, ◌∙◌}
use mathlib.Core.Logic.{⊎_elim}
use mathlib.Core.Bool.{true, false}
use native.Mathlib.Omega.{arith}
use Rattle.sets.proofs.Bools.{clash, pick_case}
use Rattle.sets.proofs.Laws.{below_or_not}
use Rattle.tolerance.specs.declared.Drawing.{Drawing}
use Rattle.tolerance.specs.Greatest.{passes_with, Tolerance, none, up_to, greatest_below, greatest, IsGreatest, height}

-- it is determined by its height
pub same_height : (x y : Tolerance) → height x ≡ height y → x ≡ y
same_height none none e = refl
same_height none (up_to g) e = absurd (omega arith)
same_height (up_to f) none e = absurd (omega arith)
same_height (up_to f) (up_to g) e = ap up_to (omega arith)

module _ (d : Drawing) where
  -- of the bounds below k: those from its height on fail, and one just below its height passes
  pub record Highest (k h : ℕ) : Type 0 where
    pub most : h ≤ k
    pub above : (g : ℕ) → h ≤ g → g < k → passes_with d g ≡ false
    pub last : (f : ℕ) → suc f ≡ h → passes_with d f ≡ true

  highest_below : (k : ℕ) → Highest k (height (greatest_below d k))
  unfolding greatest_below
  highest_below zero = record { most = omega arith; above = λ g l m. absurd (omega arith); last = λ f e. absurd (omega arith) }
  highest_below (suc k) =
      pick_case (λ (x : Tolerance). Highest (suc k) (height x)) (passes_with d k) (up_to k) (greatest_below d k)
      (λ t. record {
        most = omega arith;
        above = λ g l m. absurd (omega arith);
        last = λ f e. let same : f ≡ k = omega arith in ap (passes_with d) same ∙ t;
      })
      (λ t. let i = highest_below k in record {
        most = let m = i.most in omega arith;
        above = λ g l m. ⊎_elim (λ b. i.above g l b) (λ b. let same : g ≡ k = omega arith in ap (passes_with d) same ∙ t) (below_or_not g k);
        last = i.last;
      })

  pub highest : Highest d.n (height (greatest d))
  unfolding greatest
  highest = highest_below d.n

  -- there is one such height only
  pub highest_only : (k a b : ℕ) → Highest k a → Highest k b → a ≡ b
  highest_only k a b i j = ⊎_elim (λ l. absurd (higher a b i j l)) (λ l. ⊎_elim (λ m. absurd (higher b a j i m)) (λ m. omega arith) (below_or_not b a)) (below_or_not a b)
    where
      top : (a b f : ℕ) → Highest k a → Highest k b → a < b → suc f ≡ b → ⊥
      top a b f i j l e = let m = j.most in clash (j.last f e) (i.above f (omega arith) (omega arith))

      higher : (a b : ℕ) → Highest k a → Highest k b → a < b → ⊥
      higher a zero i j l = omega arith
      higher a (suc f) i j l = top a (suc f) f i j l refl

  pub greatest_is : IsGreatest d (greatest d)
  greatest_is = go (greatest d) highest
    where
      go : (x : Tolerance) → Highest d.n (height x) → IsGreatest d x
      go none i = λ g l. i.above g (omega arith) l
      go (up_to f) i = (let m = i.most in omega arith, i.last f (omega arith), λ g l m. i.above g (omega arith) m)

-- where every bound that a drawing passes is passed by another, or one less is, its greatest is no higher, or at most one higher
pub height_le : (d e : Drawing) → d.n ≡ e.n → ((f : ℕ) → passes_with d f ≡ true → passes_with e f ≡ true)
    → height (greatest d) ≤ height (greatest e)
height_le d e same carried = go (height (greatest d)) refl
  where
    go : (h : ℕ) → height (greatest d) ≡ h → height (greatest d) ≤ height (greatest e)
    go zero z = omega arith
    go (suc f) z =
        let m = (highest d).most in
        ⊎_elim (λ l. omega arith) (λ l. clash (carried f ((highest d).last f (sym z))) ((highest e).above f l (omega arith))) (below_or_not f (height (greatest e)))

pub height_one : (d e : Drawing) → d.n ≡ e.n → ((f : ℕ) → passes_with d (f + 1) ≡ true → passes_with e f ≡ true)
    → height (greatest d) ≤ height (greatest e) + 1
height_one d e same carried = go (height (greatest d)) refl
  where
    go : (h : ℕ) → height (greatest d) ≡ h → height (greatest d) ≤ height (greatest e) + 1
    go zero z = omega arith
    go (suc zero) z = omega arith
    go (suc (suc f)) z =
        let m = (highest d).most in
        let t : passes_with d (f + 1) ≡ true = (highest d).last (f + 1) (omega arith) in
        ⊎_elim (λ l. omega arith) (λ l. clash (carried f t) ((highest e).above f l (omega arith))) (below_or_not f (height (greatest e)))
