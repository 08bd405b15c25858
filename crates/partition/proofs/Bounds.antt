-- What holds of every fault set that has inn and lacks out. Assumes nothing.
use Prim.Native.Nat.{ℕ, ◌+◌, ◌-◌, ◌*◌, ◌/◌, ◌^◌, ◌≤◌, ◌<◌}
use mathlib.Core.Path.{◌≡◌, sym, ap, ◌∙◌, subst}
use mathlib.Core.Logic.{◌⊎◌, inl, inr, ⊎_elim}
use mathlib.Core.Bool.{Bool, true, false, not}
use native.Mathlib.Nat.{lt_of_lt_of_le, lt_of_le_of_lt}
use native.Mathlib.Omega.{arith}
use lib.Bits.{bit_and, bit_or, and_le_l, or_lt}
use lib.Count.{ones}
use lib.Dec.{eqb, ltb}
use lib.Pow.{pow_mono}
use mir.Val.{bool_byte}
use borrow.Author.Tests.{ltb-true, ltb-false}
use Rattle.sets.specs.Tests.{◌and◌, ◌implies◌}
use Rattle.sets.specs.Sets.{mem, all, count, size, outside}
use Rattle.quorum.specs.declared.BoundKind.TheVariants.{Most}
use Rattle.quorum.specs.Quorum.{at_most, enough}
use Rattle.quorum.proofs.Laws.{enough_most}
use Rattle.sets.proofs.Bools.{clash, decide, and_l, and_r, and_i, and_no_r, or_e, or_l, or_r, not_i, not_e, not_yes, no_by, implies_i, implies_e}
use Rattle.sets.proofs.Laws.{mem_zero, mem_below, mask_lt, all_i, all_at, some_member}
use Rattle.sets.proofs.Masks.{mem_and, mem_or, mem_not, ones_count}
use Rattle.sets.proofs.Operations.{test_inside}
use Rattle.plan.specs.declared.Plan.{Plan}
use Rattle.plan.specs.Plan.{hears}
use Rattle.plan.proofs.Laws.{Sound}
use Rattle.closure.specs.FaultSet.{hears_enough, is_fault_set}
use Rattle.closure.specs.Closure.{reached, cut_off}
use Rattle.closure.proofs.Faults.{fault_below, fault_bound, hears_enough_mono}
use Rattle.closure.proofs.Growth.{joins_enough, reached_closed}
use Rattle.closure.proofs.Witness.{cut_below, cut_good, cut_unreached, defeats_fault, defeats_cuts}
use Rattle.partition.specs.Search.{key, Inside, Apart, Settled, Hopeless, Closed, Spreading, Swept, Spread, Grown}
use Rattle.faults.specs.Rows.{over, hearing}
use Rattle.faults.proofs.Rows.{hearing_mem, hearing_below, over_hearing, over_why, over_low, word_of}
use Rattle.partition.proofs.Members.{outside_i, count_split, count_join, grows, inside_le, key_later, size_twenty}

-- ---- a set with whoever joins it

-- at the start
pub spreading_start : (p : Plan) (s wall : ℕ) → s < 2 ^ p.n → Spreading p s wall s
spreading_start p s wall h = record { below = h; has = λ i m. m; least = λ t i c. i }

-- and after a turn
module _ {p : Plan} {s wall l r : ℕ} (h : Spreading p s wall l) (t : Swept p wall l r) where
  pub spreading_next : Spreading p s wall r
  spreading_next = record {
    below = t.grown.below;
    has = λ i m. t.grown.has i (h.has i m);
    least = λ u i c. t.grown.least u (h.least u i c) c;
  }

  pub spreading_less : (r ≡ l → ⊥) → p.n - count p.n (λ i. mem i r) < p.n - count p.n (λ i. mem i l)
  spreading_less z = grows p.n l r h.below t.grown.below t.grown.has z

  pub spreading_ends : r ≡ l → Spread p s wall l
  spreading_ends q = record { below = h.below; has = h.has; closed = t.ends q; least = h.least }

-- a turn in which all join at once who hear enough
module _ (p : Plan) (sound : Sound p) (wall l o : ℕ) (w : wall < 2 ^ 32) (h : l < 2 ^ p.n) (e : o ≡ hearing p.rows p.bound l) where
  outer : (b : ℕ) → b < p.n → mem b (4294967295 - wall) ≡ not (mem b wall)
  outer b k = mem_not 32 b wall w (let t = sound.twenty in omega arith)

  joining : (t : ℕ) → Inside l t → Closed p wall t → Inside (bit_and o (4294967295 - wall)) t
  joining t i c b m =
      let both = sym (mem_and b o (4294967295 - wall)) ∙ m in
      let k = mem_below p.n b o (hearing_below p sound l o e) (and_l _ _ both) in
      c b k (not_e _ (sym (outer b k) ∙ and_r _ _ both)) (hears_enough_mono p b l t (λ a x. i a) (sym (hearing_mem p sound l o b e k) ∙ and_l _ _ both))

  pub swept_at_once : Swept p wall l (bit_or l (bit_and o (4294967295 - wall)))
  swept_at_once = record {
    grown = record {
      below = or_lt p.n l (bit_and o (4294967295 - wall)) h (lt_of_le_of_lt (and_le_l o (4294967295 - wall)) (hearing_below p sound l o e));
      has = λ i m. mem_or i l (bit_and o (4294967295 - wall)) ∙ or_l _ _ m;
      least = λ t i c b m. ⊎_elim (i b) (joining t i c b) (or_e _ _ (sym (mem_or b l (bit_and o (4294967295 - wall))) ∙ m));
    };
    ends = λ q b k g y.
        sym (ap (mem b) q) ∙ mem_or b l (bit_and o (4294967295 - wall))
        ∙ or_r _ _ (mem_and b o (4294967295 - wall) ∙ and_i _ _ (hearing_mem p sound l o b e k ∙ y) (outer b k ∙ not_i g));
  }

-- ---- inn with all that it forces

module _ {p : Plan} {inn r : ℕ} (h : Spread p inn 0 r) where
  pub forced_bounded : all p.n (λ b. not (mem b r) implies not (hears_enough p b r)) ≡ true
  forced_bounded =
      all_i p.n (λ b. not (mem b r) implies not (hears_enough p b r))
      (λ b k. implies_i _ _ (λ z. not_i (no_by (λ y. clash (h.closed b k (mem_zero b) y) (not_e (mem b r) z)))))

  -- whoever hears more than f members of a fault set is one
  pub forced_least : (t : ℕ) → is_fault_set p t ≡ true → Inside inn t → Inside r t
  forced_least t f i =
      h.least t i (λ b k g y. ⊎_elim (λ z. z) (λ z. clash y (fault_bound p t f b k z)) (decide (mem b t)))

-- ---- faulty or reached

-- how many of s terminal b hears
abbrev pub ears : Plan → ℕ → ℕ → ℕ
ears p b s = count p.n (λ a. hears p b a and mem a s)

-- by a bound f, who hears not enough hears at most f
pub ears_few : (p : Plan) (f : ℕ) → p.bound.kind ≡ Most f → (b s : ℕ) → hears_enough p b s ≡ false → ears p b s ≤ f
unfolding hears_enough
ears_few p f m b s e = ltb-false f (ears p b s) (sym (enough_most p.n p.bound (λ a. hears p b a and mem a s) f m) ∙ e)

module _ (p : Plan) (sound : Sound p) (s : ℕ) (i : is_fault_set p s ≡ true) (known : ℕ) (u : Settled p s known) (b : ℕ) (k : b < p.n) where
  hearing_reached : hears_enough p b (reached p s) ≡ true → (mem b s ≡ true) ⊎ (mem b (reached p s) ≡ true)
  hearing_reached h =
      ⊎_elim inl (λ g. inr (reached_closed p s sound.source_below b k (joins_enough p s (reached p s) b g h))) (decide (mem b s))

  -- a settled terminal that is not faulty is reached
  pub near_settled : (out : ℕ) → Apart out s → hears_enough p b (bit_and known out) ≡ true
      → (mem b s ≡ true) ⊎ (mem b (reached p s) ≡ true)
  near_settled out lacks h =
      hearing_reached
      (hears_enough_mono p b (bit_and known out) (reached p s)
      (λ a l m.
      let both = sym (mem_and a known out) ∙ m in
      ⊎_elim (λ y. clash y (lacks a (and_r _ _ both))) (λ y. y) (u a (and_l _ _ both)))
      h)

  -- of more than 2 f settled ones that a good terminal hears, at most f are faulty
  pub far_settled : (f : ℕ) → p.bound.kind ≡ Most f → enough p.n (at_most (2 * f)) (λ a. hears p b a and mem a known) ≡ true
      → (mem b s ≡ true) ⊎ (mem b (reached p s) ≡ true)
  unfolding enough
  far_settled f m h = ⊎_elim inl (λ g. ⊎_elim hearing_reached (λ r. absurd (few g r)) (decide (hears_enough p b (reached p s)))) (decide (mem b s))
    where
      few : mem b s ≡ false → hears_enough p b (reached p s) ≡ false → ⊥
      few g r =
          let c : 2 * f < ears p b known = ltb-true (2 * f) (ears p b known) h in
          let x : ears p b s ≤ f = ears_few p f m b s (fault_bound p s i b k g) in
          let y : ears p b (reached p s) ≤ f = ears_few p f m b (reached p s) r in
          let z : ears p b known ≤ ears p b s + ears p b (reached p s) =
          count_split p.n (λ a. hears p b a and mem a known) (λ a. hears p b a and mem a s) (λ a. hears p b a and mem a (reached p s))
          (λ a l m. ⊎_elim (λ v. inl (and_i _ _ (and_l _ _ m) v)) (λ v. inr (and_i _ _ (and_l _ _ m) v)) (u a (and_r _ _ m))) in
          omega arith

pub grown_start : (p : Plan) (out known : ℕ) → known < 2 ^ p.n → Grown p out known known
grown_start p out known h = record { below = h; settled = λ s i lacks u. u }

module _ (p : Plan) (sound : Sound p) (f : ℕ) (m : p.bound.kind ≡ Most f) (out known s o q : ℕ) (h : Grown p out known s)
    (e : o ≡ over p.rows f (bit_and s out)) (d : q ≡ over p.rows (2 * f) s) where
  near : o ≡ hearing p.rows p.bound (bit_and s out)
  near = e ∙ over_hearing p.rows p.bound f (bit_and s out) m

  pub grown_next : Grown p out known (bit_or (bit_or s o) q)
  grown_next = record {
    below = or_lt p.n (bit_or s o) q (or_lt p.n s o h.below (hearing_below p sound (bit_and s out) o near)) (over_low p sound (2 * f) s q d);
    settled = λ t i lacks u b v.
        ⊎_elim
        (λ y.
        ⊎_elim (h.settled t i lacks u b)
        (λ z.
        let k = mem_below p.n b o (hearing_below p sound (bit_and s out) o near) z in
        near_settled p sound t i s (h.settled t i lacks u) b k out lacks (sym (hearing_mem p sound (bit_and s out) o b near k) ∙ z))
        (or_e _ _ (sym (mem_or b s o) ∙ y)))
        (λ y.
        let k = mem_below p.n b q (over_low p sound (2 * f) s q d) y in
        far_settled p sound t i s (h.settled t i lacks u) b k f m (sym (over_why p sound (2 * f) s q b d k) ∙ y))
        (or_e _ _ (sym (mem_or b (bit_or s o) q) ∙ v));
  }

  pub grown_less : (bit_or (bit_or s o) q ≡ s → ⊥) → p.n - count p.n (λ i. mem i (bit_or (bit_or s o) q)) < p.n - count p.n (λ i. mem i s)
  grown_less z =
      grows p.n s (bit_or (bit_or s o) q) h.below grown_next.below
      (λ i m. mem_or i (bit_or s o) q ∙ or_l _ _ (mem_or i s o ∙ or_l _ _ m)) z

-- ---- no hope

-- those of known that are not in inn
abbrev away : ℕ → ℕ → ℕ
away known inn = bit_and known (4294967295 - inn)

-- how many members a set before best may have, and f
abbrev pub need : ℕ → ℕ → ℕ → ℕ
need f inn best = f + best / 1048576 + bool_byte (ltb inn (bit_and best 1048575))

module _ (p : Plan) (sound : Sound p) (f : ℕ) (m : p.bound.kind ≡ Most f) (inn known : ℕ) (hi : inn < 2 ^ p.n) (hk : known < 2 ^ p.n) where
  -- whoever is cut off hears at most f that are reached: the others of known that it hears are in the fault set, beside inn
  few_heard : (s b : ℕ) → Inside inn s → Settled p s known → hears_enough p b (reached p s) ≡ false
      → ones inn + ears p b (away known inn) ≤ size p.n s + f
  unfolding size
  few_heard s b i u r =
      let w : ones inn ≡ count p.n (λ a. mem a inn) = ones_count p.n inn hi in
      let y : ears p b (reached p s) ≤ f = ears_few p f m b (reached p s) r in
      let z : ears p b (away known inn) ≤ count p.n new + ears p b (reached p s) =
      count_split p.n (λ a. hears p b a and mem a (away known inn)) new (λ a. hears p b a and mem a (reached p s)) which in
      let x : count p.n (λ a. mem a inn) + count p.n new ≤ count p.n (λ a. mem a s) =
      count_join p.n (λ a. mem a s) (λ a. mem a inn) new (λ a l. i a) (λ a l m. and_l _ _ m)
      (λ a l m. and_no_r _ _ (not_yes m)) in
      omega arith
    where
      new : ℕ → Bool
      new a = mem a s and not (mem a inn)

      which : (a : ℕ) → a < p.n → hears p b a and mem a (away known inn) ≡ true
          → (new a ≡ true) ⊎ (hears p b a and mem a (reached p s) ≡ true)
      which a l m =
          let both = sym (mem_and a known (4294967295 - inn)) ∙ and_r _ _ m in
          ⊎_elim (λ v. inl (and_i _ _ v (sym (mem_not 32 a inn (word_of p sound hi) (let t = sound.twenty in omega arith)) ∙ and_r _ _ both)))
          (λ v. inr (and_i _ _ (and_l _ _ m) v)) (u a (and_l _ _ both))

  module _ (rest best : ℕ) (e : rest ≡ outside p.n inn known) where
    -- where everyone of the rest hears too many, no set that defeats the plan comes before best
    hopeless_is : ((b : ℕ) → b < p.n → mem b rest ≡ true → need f inn best ≤ ones inn + ears p b (away known inn)) → Hopeless p inn known best
    hopeless_is enough s d i u = go (some_member p.n (cut_off p s) (cut_below p s) (defeats_cuts p s d))
      where
        low : {x : ℕ} → x < 2 ^ p.n → x < 2 ^ 20
        low h = lt_of_lt_of_le h (pow_mono sound.twenty)

        go : (b : ℕ) × (b < p.n) × (mem b (cut_off p s) ≡ true) → best ≤ key s
        go (b, k, m) =
            let below = fault_below p s (defeats_fault p s d) in
            let good = cut_good p s b k m in
            let unreached = cut_unreached p s b k m in
            let few = few_heard s b i u
            (no_by (λ y. clash (reached_closed p s sound.source_below b k (joins_enough p s (reached p s) b good y)) unreached)) in
            let enough = enough b k
            (outside_i p.n inn known rest b e k (no_by (λ y. clash (i b y) good))
            (no_by (λ y. ⊎_elim (λ v. clash v good) (λ v. clash v unreached) (u b y)))) in
            key_later best inn s (inside_le inn s (low hi) (low below) i) (omega (arith, size_twenty p.n s sound.twenty below))

    pub hopeless_own : need f inn best ≤ ones inn → Hopeless p inn known best
    hopeless_own l = hopeless_is (λ b k m. omega arith)

    pub hopeless_heard : (o : ℕ) → ones inn < need f inn best → o ≡ over p.rows (need f inn best - ones inn - 1) (away known inn)
        → eqb (bit_and rest (4294967295 - o)) 0 ≡ true → Hopeless p inn known best
    unfolding enough
    hopeless_heard o l q z =
        hopeless_is
        (λ b k m.
        let c : need f inn best - ones inn - 1 < ears p b (away known inn) =
        ltb-true (need f inn best - ones inn - 1) (ears p b (away known inn))
        (sym (over_why p sound (need f inn best - ones inn - 1) (away known inn) o b q k) ∙ implies_e _ _ (all_at p.n (λ i. mem i rest implies mem i o) within b k) m) in
        omega arith)
      where
        within : all p.n (λ i. mem i rest implies mem i o) ≡ true
        within =
            sym
            (test_inside 32 p.n rest o (let t = sound.twenty in omega arith)
            (subst (λ (x : ℕ). x < 2 ^ p.n) (sym e) (mask_lt p.n (λ i. not (mem i inn) and not (mem i known))))
            (word_of p sound (over_low p sound (need f inn best - ones inn - 1) (away known inn) o q)))
            ∙ z
