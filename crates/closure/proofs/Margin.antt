-- The least over all fault sets that leave a terminal good is one, and tells who can be kept waiting. Assumes nothing.
use Prim.Native.Nat.{ℕ, zero, suc, ◌+◌, ◌-◌, ◌^◌, ◌≤◌, ◌<◌}
use mathlib.Core.Path.{◌≡◌, refl, sym, ap, ◌∙◌, subst}
use mathlib.Core.Logic.{◌⊎◌, inl, inr, ⊎_elim}
use mathlib.Core.Bool.{Bool, true, false, not, cond}
use native.Mathlib.Omega.{arith}
use lib.Dec.{eqb, ltb}
use lib.IntN.{ℤ, pos, negsuc, sub_ℕ, ◌+ℤ◌, ◌-ℤ◌, -ℤ-+ℤ_cancel}
use lib.Signed.{lt_z}
use borrow.Author.Tests.{eqb-false, eq-eqb, ne_eqb, ltb-true, ltb-false, lt-ltb, le-ltb}
use Rattle.sets.specs.Tests.{◌and◌, pick}
use Rattle.sets.specs.Sets.{mem, count, without}
use Rattle.sets.proofs.Bools.{clash, decide, and_l, and_r, and_i, not_i, not_e, no_by}
use Rattle.sets.proofs.Laws.{mem_zero, below_or_not, count_le, count_none, count_more}
use Rattle.sets.proofs.Operations.{mem_without}
use Rattle.quorum.specs.declared.BoundKind.{BoundKind}
use Rattle.quorum.specs.declared.BoundKind.TheVariants.{Most}
use Rattle.quorum.proofs.Laws.{enough_most}
use Rattle.plan.specs.declared.Plan.{Plan}
use Rattle.plan.specs.Plan.{hears}
use Rattle.closure.specs.FaultSet.{hears_enough, is_fault_set}
use Rattle.closure.specs.Closure.{joins, reached, cut_off}
use Rattle.closure.specs.Verdict.{verdict}
use Rattle.closure.specs.Margin.{heard_of_l, leaves_good, fewest_below, fewest, Fewest, bound_of, margin, has_margin, below_zero, KeptWaiting, MarginsTell}
use Rattle.closure.proofs.Faults.{fault_below, fault_none}
use Rattle.closure.proofs.Growth.{joins_why, joins_source, joins_enough, joins_mono, reached_source, reached_closed, reached_below, reached_least}
use Rattle.closure.proofs.Witness.{cut_good, cut_unreached, cut_is, defeats_fault, verdict_pass, verdict_fail, pass_empty, pass_by}

-- ---- a fault set that leaves b good

module _ (p : Plan) (b s : ℕ) where
  pub leaves_fault : leaves_good p b s ≡ true → is_fault_set p s ≡ true
  unfolding leaves_good
  leaves_fault h = and_l _ _ h

  pub leaves_good_lem : leaves_good p b s ≡ true → mem b s ≡ false
  unfolding leaves_good
  leaves_good_lem h = not_e (mem b s) (and_r _ _ h)

  pub leaves_i : is_fault_set p s ≡ true → mem b s ≡ false → leaves_good p b s ≡ true
  unfolding leaves_good
  leaves_i i g = and_i _ _ i (not_i g)

  pub heard_few : heard_of_l p b s ≤ p.n
  unfolding heard_of_l
  heard_few = count_le p.n (λ a. hears p b a and mem a (reached p s))

pub nobody_leaves : (p : Plan) (b : ℕ) → leaves_good p b 0 ≡ true
nobody_leaves p b = leaves_i p b 0 (fault_none p) (mem_zero b)

-- ---- the least

-- of the sets below m
record Below (p : Plan) (b m v : ℕ) : Type 0 where
  some : (v ≡ p.n) ⊎ ((s : ℕ) × (leaves_good p b s ≡ true) × (v ≡ heard_of_l p b s))
  least : (s : ℕ) → s < m → leaves_good p b s ≡ true → v ≤ heard_of_l p b s

module _ (p : Plan) (b : ℕ) where
  next : (m v : ℕ) → Below p b m v → (t : Bool) → leaves_good p b m and ltb (heard_of_l p b m) v ≡ t → Below p b (suc m) (pick t (heard_of_l p b m) v)
  unfolding pick
  next m v h true e =
      let l : heard_of_l p b m < v = ltb-true (heard_of_l p b m) v (and_r _ _ e) in record {
        some = inr (m, and_l _ _ e, refl);
        least = λ s k g.
            ⊎_elim (λ d. let w = h.least s d g in omega arith)
            (λ d. let q : s ≡ m = omega arith in subst (λ (x : ℕ). heard_of_l p b m ≤ heard_of_l p b x) (sym q) (let z : heard_of_l p b m ≤ heard_of_l p b m = omega arith in z))
            (below_or_not s m);
      }
  next m v h false e = record {
    some = h.some;
    least = λ s k g.
        ⊎_elim (λ d. h.least s d g)
        (λ d.
        let q : s ≡ m = omega arith in
        let g' = subst (λ (x : ℕ). leaves_good p b x ≡ true) q g in
        subst (λ (x : ℕ). v ≤ heard_of_l p b x) (sym q)
        (ltb-false (heard_of_l p b m) v (no_by (λ y. clash (and_i _ _ g' y) e))))
        (below_or_not s m);
  }

  below_all : (m : ℕ) → Below p b m (fewest_below p b m)
  unfolding fewest_below
  below_all zero = record { some = inl refl; least = λ s k g. absurd (omega arith) }
  below_all (suc m) = next m (fewest_below p b m) (below_all m) (leaves_good p b m and ltb (heard_of_l p b m) (fewest_below p b m)) refl

  pub fewest_least : Fewest p b (fewest p b)
  unfolding fewest
  fewest_least =
      let h = below_all (2 ^ p.n) in
      let l : (s : ℕ) → leaves_good p b s ≡ true → fewest_below p b (2 ^ p.n) ≤ heard_of_l p b s =
      λ s g. h.least s (fault_below p s (leaves_fault p b s g)) g in record {
        some =
            ⊎_elim
            (λ e. (0, nobody_leaves p b, (let a = l 0 (nobody_leaves p b) in let c = heard_few p b 0 in let z : fewest_below p b (2 ^ p.n) ≡ heard_of_l p b 0 = omega arith in z)))
            (λ w. w) h.some;
        least = l;
      }

  -- there is only one
  pub fewest_only : (v : ℕ) → Fewest p b v → v ≡ fewest p b
  fewest_only v h =
      let f = fewest_least in
      let a : fewest p b ≤ v = subst (λ (x : ℕ). fewest p b ≤ x) (sym h.some.2) (f.least h.some.0 h.some.1) in
      let c : v ≤ fewest p b = subst (λ (x : ℕ). v ≤ x) (sym f.some.2) (h.least f.some.0 f.some.1) in
      omega arith

-- ---- whoever is reached and is not the source has joined

pub reached_why : (p : Plan) → p.source < p.n → (faulty b : ℕ) → (b ≡ p.source → ⊥) → mem b (reached p faulty) ≡ true
    → joins p faulty (reached p faulty) b ≡ true
reached_why p l faulty b z m = ⊎_elim (λ y. y) (λ y. clash (still y) (gone b refl)) (decide (joins p faulty (reached p faulty) b))
  where
    rest : ℕ
    rest = without p.n (reached p faulty) b

    mem_rest : (j : ℕ) → mem j rest ≡ mem j (reached p faulty) and not (eqb j b)
    mem_rest j = mem_without p.n (reached p faulty) b j (reached_below p faulty)

    gone : (j : ℕ) → j ≡ b → mem j rest ≡ false
    gone j e = no_by (λ y. clash (eq-eqb j b e) (not_e (eqb j b) (and_r _ _ (sym (mem_rest j) ∙ y))))

    kept : (j : ℕ) → mem j (reached p faulty) ≡ true → (j ≡ b → ⊥) → mem j rest ≡ true
    kept j h d = mem_rest j ∙ and_i _ _ h (not_i (ne_eqb j b d))

    within : (j : ℕ) → j < p.n → mem j rest ≡ true → mem j (reached p faulty) ≡ true
    within j k h = and_l _ _ (sym (mem_rest j) ∙ h)

    still : joins p faulty (reached p faulty) b ≡ false → mem b rest ≡ true
    still alone =
        reached_least p faulty rest (kept p.source (reached_source p faulty l) (λ e. z (sym e)))
        (λ d k j.
        let up = joins_mono p faulty rest (reached p faulty) d within j in
        kept d (reached_closed p faulty l d k up) (λ e. clash (subst (λ (x : ℕ). joins p faulty (reached p faulty) x ≡ true) e up) alone))
        b m

-- ---- below zero

less_below : (a b : ℕ) (t : Bool) → ltb a b ≡ t → lt_z (cond t (negsuc (b - suc a)) (pos (a - b))) (pos 0) ≡ t
less_below a b true e = refl
less_below a b false e = le-ltb (a - b) 0 (omega arith)

pub margin_is : (p : Plan) (b : ℕ) → margin p b ≡ sub_ℕ (fewest p b) (suc (bound_of p.bound.kind))
unfolding margin
margin_is p b =
    let e : bound_of p.bound.kind + 1 ≡ suc (bound_of p.bound.kind) = omega arith in ap (λ (x : ℕ). pos (fewest p b) -ℤ pos x) e

-- with the f + 1 that are needed it is the least that the terminal hears of L
pub margin_and_needed : (p : Plan) (b f : ℕ) → p.bound.kind ≡ Most f → margin p b +ℤ pos (f + 1) ≡ pos (fewest p b)
unfolding margin
margin_and_needed p b f m =
    ap (λ (kind : BoundKind). margin p b +ℤ pos (bound_of kind + 1)) (sym m) ∙ -ℤ-+ℤ_cancel (pos (fewest p b)) (pos (bound_of p.bound.kind + 1))

-- it lies below zero where the terminal may hear at most f of L
pub margin_below : (p : Plan) (b : ℕ) → lt_z (margin p b) (pos 0) ≡ ltb (fewest p b) (suc (bound_of p.bound.kind))
margin_below p b =
    ap (λ (z : ℤ). lt_z z (pos 0)) (margin_is p b) ∙ less_below (fewest p b) (suc (bound_of p.bound.kind)) (ltb (fewest p b) (suc (bound_of p.bound.kind))) refl

module _ (p : Plan) (l : p.source < p.n) (f : ℕ) (m : p.bound.kind ≡ Most f) where
  bound_is : bound_of p.bound.kind ≡ f
  bound_is = ap bound_of m

  -- enough is more than f
  enough_heard : (b s : ℕ) → hears_enough p b (reached p s) ≡ ltb f (heard_of_l p b s)
  unfolding hears_enough heard_of_l
  enough_heard b s = enough_most p.n p.bound (λ a. hears p b a and mem a (reached p s)) f m

  module _ (b : ℕ) (k : b < p.n) (has : has_margin p b ≡ true) where
    not_source : b ≡ p.source → ⊥
    unfolding has_margin
    not_source = eqb-false b p.source (not_e (eqb b p.source) (and_l _ _ has))

    unheard : hears p b p.source ≡ false
    unfolding has_margin
    unheard = not_e (hears p b p.source) (and_r _ _ has)

    -- by a fault set that leaves it good it is cut off exactly if it hears at most f of L
    cut_few : (s : ℕ) → mem b (cut_off p s) ≡ true → heard_of_l p b s ≤ f
    cut_few s c =
        ltb-false f (heard_of_l p b s)
        (no_by
        (λ y.
        clash (reached_closed p s l b k (joins_enough p s (reached p s) b (cut_good p s b k c) (enough_heard b s ∙ y))) (cut_unreached p s b k c)))

    few_cut : (s : ℕ) → leaves_good p b s ≡ true → heard_of_l p b s ≤ f → mem b (cut_off p s) ≡ true
    few_cut s g w =
        cut_is p s b k (leaves_good_lem p b s g)
        (no_by
        (λ r.
        ⊎_elim (λ y. clash y unheard)
        (λ y. let v = ltb-true f (heard_of_l p b s) (sym (enough_heard b s) ∙ y) in absurd (omega arith))
        (joins_why p s (reached p s) b (reached_why p l s b not_source r))))

    below_kept : lt_z (margin p b) (pos 0) ≡ true → KeptWaiting p b
    below_kept y =
        let w = (fewest_least p b).some in
        let v : fewest p b < suc (bound_of p.bound.kind) = ltb-true (fewest p b) (suc (bound_of p.bound.kind)) (sym (margin_below p b) ∙ y) in
        let q = bound_is in
        let e : fewest p b ≡ heard_of_l p b w.0 = w.2 in
        (w.0, leaves_fault p b w.0 w.1, few_cut w.0 w.1 (let z : heard_of_l p b w.0 ≤ f = omega arith in z))

    kept_below : KeptWaiting p b → lt_z (margin p b) (pos 0) ≡ true
    kept_below (s, i, c) =
        let a = (fewest_least p b).least s (leaves_i p b s i (cut_good p s b k c)) in
        let w = cut_few s c in
        let q = bound_is in
        margin_below p b ∙ lt-ltb (fewest p b) (suc (bound_of p.bound.kind)) (let z : fewest p b < suc (bound_of p.bound.kind) = omega arith in z)

  -- whoever a fault set cuts off has a margin
  pub cut_has : (s b : ℕ) → b < p.n → mem b (cut_off p s) ≡ true → has_margin p b ≡ true
  unfolding has_margin
  cut_has s b k c =
      let u = cut_unreached p s b k c in
      and_i _ _
      (not_i (ne_eqb b p.source (λ e. clash (subst (λ (x : ℕ). mem x (reached p s) ≡ true) (sym e) (reached_source p s l)) u)))
      (not_i (no_by (λ h. clash (reached_closed p s l b k (joins_source p s (reached p s) b (cut_good p s b k c) h)) u)))

  none_below : below_zero p ≡ 0 → (verdict p).passed ≡ true
  unfolding below_zero
  none_below z =
      pass_by p
      (λ s b i k c.
      let has = cut_has s b k c in
      let more : count p.n (λ b. false) < count p.n (λ b. has_margin p b and lt_z (margin p b) (pos 0)) =
      count_more p.n (λ b. false) (λ b. has_margin p b and lt_z (margin p b) (pos 0)) (λ j d v. clash v refl) b k refl
      (and_i _ _ has (kept_below b k has (s, i, c))) in
      omega arith)

  pass_none : (verdict p).passed ≡ true → below_zero p ≡ 0
  unfolding below_zero
  pass_none y =
      count_none p.n (λ b. has_margin p b and lt_z (margin p b) (pos 0))
      (λ b k.
      no_by
      (λ h.
      let w = below_kept b k (and_l _ _ h) (and_r _ _ h) in
      clash w.2 (ap (mem b) (verdict_pass p y w.0 w.1) ∙ mem_zero b)))

  listed_below : (b : ℕ) → b < p.n → mem b (verdict p).r ≡ true → (has_margin p b ≡ true) × (lt_z (margin p b) (pos 0) ≡ true)
  listed_below b k h = ⊎_elim (λ y. clash h (ap (mem b) (pass_empty p y).2 ∙ mem_zero b)) failed (decide (verdict p).passed)
    where
      failed : (verdict p).passed ≡ false → (has_margin p b ≡ true) × (lt_z (margin p b) (pos 0) ≡ true)
      failed y =
          let w = verdict_fail p y in
          let c : mem b (cut_off p (verdict p).f) ≡ true = sym (ap (mem b) w.r_is) ∙ h in
          let has = cut_has (verdict p).f b k c in
          (has, kept_below b k has ((verdict p).f, defeats_fault p (verdict p).f w.beaten, c))

  pub margins_tell : MarginsTell p
  margins_tell = record {
    below = λ b k has. (below_kept b k has, kept_below b k has);
    passes = (none_below, pass_none);
    listed = listed_below;
  }
