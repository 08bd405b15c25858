-- All that the layers above use of `enough`: it is monotone, and false where nobody has the property; and for the code that looks, what it is of each
-- kind of bound. Assumes nothing.
use Prim.Native.Nat.{ℕ, ◌^◌, ◌≤◌, ◌<◌}
use mathlib.Core.Path.{◌≡◌, sym, ap, ◌∙◌, subst}
use mathlib.Core.Logic.{⊎_elim}
use mathlib.Core.Bool.{Bool, true, false, not}
use native.Mathlib.Nat.{zero-lt-suc}
use native.Mathlib.Omega.{arith}
use borrow.Author.Tests.{ltb-true, lt-ltb, le-ltb, eqb-true}
use lib.Dec.{eqb, ltb}
use lib.Pow.{pow_pos}
use Rattle.sets.specs.Tests.{◌implies◌, pick}
use Rattle.sets.specs.Sets.{mem, count, all, within}
use Rattle.sets.proofs.Bools.{clash, decide, no_by, and_r, and_i, not_i, not_yes, not_e, implies_i, implies_e, implies_no, pick_yes, pick_no}
use Rattle.sets.proofs.Laws.{mem_zero, count_mono, count_none, count_width, all_at, all_i, some_i, some_at, some_cong, all_width}
use Rattle.quorum.specs.declared.BoundKind.{BoundKind}
use Rattle.quorum.specs.declared.BoundKind.TheVariants.{Most, Groups}
use Rattle.quorum.specs.declared.Bound.{Bound}
use Rattle.quorum.specs.Quorum.{most_groups, listed, group_at, others, groups_sound, fit, enough_by, enough}

-- who fits in a group has a part that fits
pub fit_part : (n : ℕ) (bound : Bound) (P Q : ℕ → Bool) → ((i : ℕ) → i < n → P i ≡ true → Q i ≡ true) → fit n bound Q ≡ true → fit n bound P ≡ true
unfolding fit
fit_part n bound P Q s h =
    let w = some_at most_groups (λ i. all n (λ j. Q j implies mem j (group_at bound i))) h in
    some_i most_groups (λ i. all n (λ j. P j implies mem j (group_at bound i))) w.0 w.1
    (all_i n (λ j. P j implies mem j (group_at bound w.0))
    (λ j k. implies_i _ _ (λ e. implies_e _ _ (all_at n (λ j. Q j implies mem j (group_at bound w.0)) w.2 j k) (s j k e))))

-- nobody fits
pub fit_none : (n : ℕ) (bound : Bound) (P : ℕ → Bool) → ((i : ℕ) → i < n → P i ≡ false) → fit n bound P ≡ true
unfolding fit
fit_none n bound P e =
    some_i most_groups (λ i. all n (λ j. P j implies mem j (group_at bound i))) 0 (zero-lt-suc 15)
    (all_i n (λ j. P j implies mem j (group_at bound 0)) (λ j k. implies_no _ _ (e j k)))

-- nobody at or above n matters
pub fit_width : (n w : ℕ) (bound : Bound) (P : ℕ → Bool) → n ≤ w → ((i : ℕ) → n ≤ i → P i ≡ false) → fit w bound P ≡ fit n bound P
unfolding fit
fit_width n w bound P l z =
    some_cong most_groups (λ i. all w (λ j. P j implies mem j (group_at bound i))) (λ i. all n (λ j. P j implies mem j (group_at bound i)))
    (λ i k. all_width n w (λ j. P j implies mem j (group_at bound i)) l (λ j m. implies_no _ _ (z j m)))

mono_by : (kind : BoundKind) (n : ℕ) (bound : Bound) (P Q : ℕ → Bool) → ((i : ℕ) → i < n → P i ≡ true → Q i ≡ true)
    → enough_by kind n bound P ≡ true → enough_by kind n bound Q ≡ true
mono_by (Most f) n bound P Q s h =
    let a : f < count n P = ltb-true f (count n P) h in
    let b : count n P ≤ count n Q = count_mono n P Q s in
    lt-ltb f (count n Q) (omega arith)
mono_by (Groups c) n bound P Q s h =
    not_i (no_by (λ e. clash (fit_part n bound P Q s e) (not_e (fit n bound P) h)))

pub enough_mono : (n : ℕ) (bound : Bound) (P Q : ℕ → Bool) → ((i : ℕ) → i < n → P i ≡ true → Q i ≡ true)
    → enough n bound P ≡ true → enough n bound Q ≡ true
unfolding enough
enough_mono n bound P Q s h = mono_by bound.kind n bound P Q s h

none_by : (kind : BoundKind) (n : ℕ) (bound : Bound) (P : ℕ → Bool) → ((i : ℕ) → i < n → P i ≡ false) → enough_by kind n bound P ≡ false
none_by (Most f) n bound P e = le-ltb f (count n P) (omega (arith, count_none n P e))
none_by (Groups c) n bound P e = not_yes (fit_none n bound P e)

pub enough_none : (n : ℕ) (bound : Bound) (P : ℕ → Bool) → ((i : ℕ) → i < n → P i ≡ false) → enough n bound P ≡ false
unfolding enough
enough_none n bound P e = none_by bound.kind n bound P e

-- what it is of each kind of bound
pub enough_most : (n : ℕ) (bound : Bound) (P : ℕ → Bool) (f : ℕ) → bound.kind ≡ Most f → enough n bound P ≡ ltb f (count n P)
unfolding enough
enough_most n bound P f e = ap (λ (k : BoundKind). enough_by k n bound P) e

pub enough_groups : (n : ℕ) (bound : Bound) (P : ℕ → Bool) (c : ℕ) → bound.kind ≡ Groups c → enough n bound P ≡ not (fit n bound P)
unfolding enough
enough_groups n bound P c e = ap (λ (k : BoundKind). enough_by k n bound P) e

-- nobody at or above n counts for more
pub enough_width : (n w : ℕ) (bound : Bound) (P : ℕ → Bool) → n ≤ w → ((i : ℕ) → n ≤ i → P i ≡ false) → enough w bound P ≡ enough n bound P
unfolding enough
enough_width n w bound P l z = width_by bound.kind
  where
    width_by : (kind : BoundKind) → enough_by kind w bound P ≡ enough_by kind n bound P
    width_by (Most f) = ap (ltb f) (count_width n w P l z)
    width_by (Groups c) = ap not (fit_width n w bound P l z)

nobody_others : (n source : ℕ) → others n source 0 ≡ true
unfolding others within
nobody_others n source = and_i _ _ (lt-ltb 0 (2 ^ n) (pow_pos n)) (not_i (mem_zero source))

-- every place of sound groups holds others than the source, a place that is not listed too
pub groups_others : (n source : ℕ) (bound : Bound) → groups_sound n source bound ≡ true → (i : ℕ) → i < most_groups → others n source (group_at bound i) ≡ true
unfolding groups_sound
groups_others n source bound h i k =
    ⊎_elim
    (λ e. sym (pick_yes _ _ _ e) ∙ place)
    (λ e. subst (λ (g : ℕ). others n source g ≡ true) (sym (eqb-true (group_at bound i) 0 (sym (pick_no _ _ _ e) ∙ place))) (nobody_others n source))
    (decide (ltb i (listed bound.kind)))
  where
    place : pick (ltb i (listed bound.kind)) (others n source (group_at bound i)) (eqb (group_at bound i) 0) ≡ true
    place =
        all_at most_groups (λ i. pick (ltb i (listed bound.kind)) (others n source (group_at bound i)) (eqb (group_at bound i) 0)) (and_r _ _ h) i k
