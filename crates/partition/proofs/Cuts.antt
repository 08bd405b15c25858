-- The search for groups: what each return is the least of, and what each call is given. Assumes nothing.
use Prim.Native.Nat.{ℕ, ◌+◌, ◌^◌, ◌≤◌, ◌<◌}
use mathlib.Core.Path.{◌≡◌, sym, ap, ◌∙◌, subst}
use mathlib.Core.Logic.{◌⊎◌, inl, inr, ⊎_elim}
use mathlib.Core.Bool.{true, false, not}
use native.Mathlib.Nat.{le_trans, lt_of_lt_of_le, lt_of_le_of_lt}
use native.Mathlib.Omega.{arith}
use lib.Bits.{bit_or, or_lt}
use lib.Dec.{eqb}
use lib.Pow.{pow_mono, pow_pos}
use borrow.Author.Tests.{ltb-true, lt-ltb, eqb-true}
use Rattle.sets.specs.Tests.{◌and◌, ◌implies◌}
use Rattle.sets.specs.Sets.{mem, count, size, all, within, with, outside}
use Rattle.sets.proofs.Bools.{clash, decide, and_l, and_r, and_i, or_l, or_r, not_i, not_e, no_by, implies_i, implies_e}
use Rattle.sets.proofs.Laws.{below_or_not, mem_zero, mem_below, mask_lt, all_i, all_at, some_i, some_at, some_member, subset_fewer}
use Rattle.sets.proofs.Masks.{mem_or}
use Rattle.quorum.specs.declared.BoundKind.{BoundKind}
use Rattle.quorum.specs.declared.BoundKind.TheVariants.{Groups}
use Rattle.quorum.specs.Quorum.{most_groups, group_at, others, fit}
use Rattle.plan.specs.declared.Plan.{Plan}
use Rattle.plan.specs.Plan.{cause_of}
use Rattle.plan.proofs.Laws.{Sound, sound}
use Rattle.closure.specs.FaultSet.{bounded_by, is_bounded, is_fault_set}
use Rattle.closure.specs.Closure.{reached, cut_off}
use Rattle.closure.specs.Verdict.{defeats}
use Rattle.closure.proofs.Faults.{fault_below}
use Rattle.closure.proofs.Growth.{joins_source, reached_closed, reached_shrinks}
use Rattle.closure.proofs.Witness.{cut_below, cut_good, cut_unreached, defeats_fault, defeats_cuts}
use Rattle.partition.specs.Search.{direct, less, key, Inside, Between, Least, Cutting, Hopeful, Together, PartOfOne, Earlier, Any}
use Rattle.partition.proofs.Rows.{direct_mem}
use Rattle.partition.proofs.Members.{outside_mem, outside_i, outside_below, inside_le, key_mono, mem_less, less_le, less_fewer, less_holds}
use Rattle.partition.proofs.Halves.{left_to, only_inn, Half, out_low, keeps_out, out_why, fewer_without, inn_low, keeps_inn, inn_why, fewer_with, half_of}
use Rattle.partition.proofs.Leasts.{stays, least_among, least_then}

module _ {p : Plan} {inn out hopeful : ℕ} (part : Cutting p inn out hopeful) where
  low : (s : ℕ) → s < 2 ^ p.n → s < 2 ^ 20
  low s h = lt_of_lt_of_le h (pow_mono (sound p part.plan).twenty)

  pub inn_low_twenty : inn < 2 ^ 20
  inn_low_twenty = low inn part.inn_below

  pub inn_fault : is_fault_set p inn ≡ true
  inn_fault = part.fault inn part.inn_below part.inn_apart

  below : (s : ℕ) → defeats p s ≡ true → s < 2 ^ p.n
  below s d = fault_below p s (defeats_fault p s d)

  later : (s : ℕ) → defeats p s ≡ true → Between inn out s → key inn ≤ key s
  later s d w = key_mono inn s inn_low_twenty (low s (below s d)) w.has

  pub no_sooner : (best own : ℕ) → own ≡ key inn → best ≤ own → Least p (Between inn out) best best
  no_sooner best own e l = stays (λ s d w. le_trans l (subst (λ (x : ℕ). x ≤ key s) (sym e) (later s d w)))

  pub own_defeats : (best own : ℕ) → own ≡ key inn → own < best → defeats p inn ≡ true → Least p (Between inn out) best own
  own_defeats best own e l d = record {
    at_most = omega arith;
    comes = inr (inn, d, e);
    below = λ s t w. subst (λ (x : ℕ). x ≤ key s) (sym e) (later s t w);
  }

  -- where inn does not defeat the plan, every other set has a member more
  module _ (clear : defeats p inn ≡ false) where
    pub one_more : (best own : ℕ) → own ≡ key inn → best ≤ own + 1048576 → Least p (Between inn out) best best
    unfolding key size
    one_more best own e l =
        stays
        (λ s d w.
        ⊎_elim (λ q. clash (subst (λ (x : ℕ). defeats p x ≡ true) (sym q) d) clear)
        (λ q. let m = inside_le inn s inn_low_twenty (low s (below s d)) w.has in omega arith)
        (subset_fewer 20 inn s inn_low_twenty (low s (below s d)) (λ i k. w.has i)))

    pub none_free : (best free : ℕ) → free ≡ outside p.n inn out → free ≡ 0 → Least p (Between inn out) best best
    none_free best free e z = stays (λ s d w. clash (subst (λ (y : ℕ). defeats p y ≡ true) (only_inn p.n inn out free s e z part.inn_below (below s d) w) d) clear)

  module _ (free : ℕ) (e : free ≡ outside p.n inn out) where
    pub both_below : bit_or inn free < 2 ^ p.n
    both_below =
        or_lt p.n inn free part.inn_below (subst (λ (x : ℕ). x < 2 ^ p.n) (sym e) (mask_lt p.n (λ i. not (mem i inn) and not (mem i out))))

    -- every set of the part lies in inn and free together
    within_both : (s : ℕ) → defeats p s ≡ true → Between inn out s → Inside s (bit_or inn free)
    within_both s d w i m =
        mem_or i inn free
        ∙ ⊎_elim (or_l _ _)
        (λ v. or_r _ _ (outside_i p.n inn out free i e (mem_below p.n i s (below s d) m) v (no_by (λ o. clash m (w.lacks i o)))))
        (decide (mem i inn))

    -- these are part of an earlier group
    pub done_with : (k best : ℕ) → Earlier p k best → (j : ℕ) × (j < k) × Inside (bit_or inn free) (group_at p.bound j) → Least p (Between inn out) best best
    done_with k best earlier (j, l, within) = stays (λ s d w. earlier s d (j, l, λ x m. within x (within_both s d w x m)))

    -- whoever it cuts off is still hopeful: it is good, so that the set lies in the others of both
    module _ (left : ℕ) (h : Hopeful p (bit_or inn free) hopeful left) where
      cut_left : (s : ℕ) → defeats p s ≡ true → Between inn out s → Inside (cut_off p s) left
      cut_left s d w b m =
          let k = mem_below p.n b (cut_off p s) (cut_below p s) m in
          let good = cut_good p s b k m in
          ⊎_elim (λ v. v)
          (λ v.
          clash
          (reached_shrinks p (sound p part.plan).source_below s (less (bit_or inn free) b)
          (less_holds p.n (bit_or inn free) b s (sound p part.plan).twenty (below s d) (within_both s d w) good) b v)
          (cut_unreached p s b k m))
          (h.kept b k (part.cut_hopeful s d w b m))

      pub no_hope_left : (best : ℕ) → left ≡ 0 → Least p (Between inn out) best best
      no_hope_left best z =
          stays
          (λ s d w.
          let c = some_member p.n (cut_off p s) (cut_below p s) (defeats_cuts p s d) in
          clash (cut_left s d w c.0 c.2) (ap (mem c.0) z ∙ mem_zero c.0))

      -- c is free: the sets without it, and those with it
      module _ (c : ℕ) (m : mem c free ≡ true) where
        halves : Half p.n inn out free c
        halves = record { twenty = (sound p part.plan).twenty; inn_below = part.inn_below; out_below = part.out_below; free_is = e; is_free = m }

        neither : (mem c inn ≡ false) × (mem c out ≡ false)
        neither =
            let k = outside_below p.n inn out free c e m in
            let f = sym (outside_mem p.n inn out free c e k) ∙ m in
            (not_e (mem c inn) (and_l _ _ f), not_e (mem c out) (and_r _ _ f))

        module _ (o : ℕ) (q : o ≡ with 32 out c) where
          pub cutting_without : Cutting p inn o left
          cutting_without = record {
            plan = part.plan;
            inn_below = part.inn_below;
            out_below = out_low halves o q;
            hopeful_below = h.below;
            inn_apart = λ i v. ⊎_elim (part.inn_apart i) (λ d. subst (λ (j : ℕ). mem j inn ≡ false) (sym d) neither.0) (out_why halves o q i v);
            fault = λ s k a. part.fault s k (λ i v. a i (keeps_out halves o q i v));
            cut_hopeful = λ s d w. cut_left s d (record { has = w.has; lacks = λ i v. w.lacks i (keeps_out halves o q i v) });
          }

          pub left_without : left_to p.n inn o < left_to p.n inn out
          left_without = fewer_without halves o q

        module _ (i : ℕ) (q : i ≡ with 32 inn c) where
          pub cutting_with : Cutting p i out left
          cutting_with = record {
            plan = part.plan;
            inn_below = inn_low halves i q;
            out_below = part.out_below;
            hopeful_below = h.below;
            inn_apart = λ j v.
                no_by (λ w. ⊎_elim (λ u. clash u (part.inn_apart j v)) (λ u. clash (subst (λ (x : ℕ). mem x out ≡ true) u v) neither.1) (inn_why halves i q j w));
            fault = part.fault;
            cut_hopeful = λ s d w. cut_left s d (record { has = λ j v. w.has j (keeps_inn halves i q j v); lacks = w.lacks });
          }

          pub left_with : left_to p.n i out < left_to p.n inn out
          left_with = fewer_with halves i q

        pub both_halves : {best first r : ℕ} (o i : ℕ) → o ≡ with 32 out c → i ≡ with 32 inn c → Least p (Between inn o) best first
            → Least p (Between i out) first r → Least p (Between inn out) best r
        both_halves o i q t = least_then (λ s d w. half_of halves o i q t s w)

-- what comes before a bound comes before no lesser one
pub earlier_still : {p : Plan} {k best r : ℕ} {Of : ℕ → Type 0} → Earlier p k best → Least p Of best r → Earlier p k r
earlier_still earlier h s d w = le_trans h.at_most (earlier s d w)

-- ---- who may be cut off

pub hopeful_start : (p : Plan) (all hopeful : ℕ) → hopeful < 2 ^ p.n → Hopeful p all hopeful hopeful
hopeful_start p all hopeful h = record { below = h; kept = λ b k m. inl m }

module _ (p : Plan) (sound : Sound p) (all hopeful rest b : ℕ) (h : Hopeful p all hopeful rest) (m : mem b rest ≡ true) where
  less_is : (i : ℕ) → i < 32 → mem i (less rest b) ≡ mem i rest and not (eqb i b)
  less_is = mem_less rest b

  pub hopeful_next : mem b (reached p (less all b)) ≡ true → Hopeful p all hopeful (less rest b)
  hopeful_next r = record {
    below = lt_of_le_of_lt (less_le rest b) h.below;
    kept = λ i k v.
        ⊎_elim
        (λ u.
        ⊎_elim (λ q. inr (subst (λ (x : ℕ). mem x (reached p (less all x)) ≡ true) (sym (eqb-true i b q)) r))
        (λ q. inl (less_is i (let t = sound.twenty in omega arith) ∙ and_i _ _ u (not_i q)))
        (decide (eqb i b)))
        inr (h.kept i k v);
  }

  pub hopeful_less : count p.n (λ i. mem i (less rest b)) < count p.n (λ i. mem i rest)
  hopeful_less = less_fewer p.n rest b sound.twenty h.below m

pub hopeful_none : (p : Plan) (all hopeful rest : ℕ) → Hopeful p all hopeful rest → rest ≡ 0 → Hopeful p all hopeful 0
hopeful_none p all hopeful rest h z = subst (λ (x : ℕ). Hopeful p all hopeful x) z h

-- ---- one group

module _ (p : Plan) (plan : cause_of p ≡ 0) (hearers group : ℕ) (d : hearers ≡ direct p.rows p.source) (together : Together p group) (out hopeful : ℕ)
    (e : out ≡ outside p.n group 0) (q : hopeful ≡ outside p.n hearers 0) where
  -- whoever hears the source is never cut off, nor is the source
  pub cutting_start : Cutting p 0 out hopeful
  cutting_start = record {
    plan = plan;
    inn_below = pow_pos p.n;
    out_below = subst (λ (x : ℕ). x < 2 ^ p.n) (sym e) (mask_lt p.n (λ i. not (mem i group) and not (mem i 0)));
    hopeful_below = subst (λ (x : ℕ). x < 2 ^ p.n) (sym q) (mask_lt p.n (λ i. not (mem i hearers) and not (mem i 0)));
    inn_apart = λ i m. mem_zero i;
    fault = λ s l a.
        together.1 s l
        (λ i m.
        ⊎_elim (λ v. v) (λ v. clash m (a i (outside_i p.n group 0 out i e (mem_below p.n i s l m) v (mem_zero i)))) (decide (mem i group)));
    cut_hopeful = λ s f w b m.
        let k = mem_below p.n b (cut_off p s) (cut_below p s) m in
        outside_i p.n hearers 0 hopeful b q k
        (no_by
        (λ v.
        clash
        (reached_closed p s (sound p plan).source_below b k
        (joins_source p s (reached p s) b (cut_good p s b k m) (sym (direct_mem p (sound p plan) hearers b d k) ∙ v)))
        (cut_unreached p s b k m)))
        (mem_zero b);
  }

  pub group_all : {best r : ℕ} → Least p (Between 0 out) best r → Least p (λ s. Inside s group) best r
  group_all =
      least_among
      (λ s f inside. record {
        has = λ i m. clash m (mem_zero i);
        lacks = λ i v.
            let l = outside_below p.n group 0 out i e v in
            no_by (λ m. clash (inside i m) (not_e (mem i group) (and_l _ _ (sym (outside_mem p.n group 0 out i e l) ∙ v))));
      })

-- ---- all groups

pub groups_none : (p : Plan) (best : ℕ) → Least p (PartOfOne p 0) best best
groups_none p best = stays (λ s d h. absurd (let l = h.1 in omega arith))

pub groups_next : (p : Plan) (i : ℕ) {best least r : ℕ} → Least p (PartOfOne p i) best least → Least p (λ s. Inside s (group_at p.bound i)) least r
    → Least p (PartOfOne p (i + 1)) best r
groups_next p i = least_then which
  where
    which : (s : ℕ) → defeats p s ≡ true → PartOfOne p (i + 1) s → PartOfOne p i s ⊎ Inside s (group_at p.bound i)
    which s d (k, l, inside) =
        ⊎_elim (λ v. inl (k, v, inside))
        (λ v.
        let same : k ≡ i = omega arith in
        inr (subst (λ (x : ℕ). Inside s (group_at p.bound x)) same inside))
        (below_or_not k i)

-- the least of all below a bound is the least of all
pub least_small : (p : Plan) {cap best r : ℕ} → cap ≤ best → r < cap → Least p Any cap r → Least p Any best r
least_small p l k h = record {
  at_most = omega arith;
  comes = ⊎_elim (λ e. absurd (omega arith)) inr h.comes;
  below = h.below;
}

module _ (p : Plan) (plan : cause_of p ≡ 0) (c : ℕ) (kind : p.bound.kind ≡ Groups c) where
  bounded_is : (s : ℕ) → is_bounded p s ≡ fit p.n p.bound (λ b. mem b s)
  unfolding is_bounded
  bounded_is s = ap (λ (k : BoundKind). bounded_by k p s) kind

  -- a group's parts are fault sets
  pub group_together : (i : ℕ) → i < most_groups → Together p (group_at p.bound i)
  unfolding others within is_fault_set fit
  group_together i k =
      let o = (sound p plan).group_others i k in (
        ltb-true (group_at p.bound i) (2 ^ p.n) (and_l _ _ o),
        λ s l inside.
            and_i _ _ (lt-ltb s (2 ^ p.n) l)
            (and_i _ _ (not_i (no_by (λ m. clash (inside p.source m) (not_e (mem p.source (group_at p.bound i)) (and_r _ _ o)))))
            (bounded_is s
            ∙ some_i most_groups (λ g. all p.n (λ j. mem j s implies mem j (group_at p.bound g))) i k
            (all_i p.n (λ j. mem j s implies mem j (group_at p.bound i)) (λ j x. implies_i _ _ (inside j))))),
      )

  -- and every fault set is part of a group
  pub groups_all : {best r : ℕ} → Least p (PartOfOne p most_groups) best r → Least p Any best r
  unfolding is_fault_set fit
  groups_all = least_among which
    where
      which : (s : ℕ) → defeats p s ≡ true → Any s → PartOfOne p most_groups s
      which s d a =
          let f = defeats_fault p s d in
          let w = some_at most_groups (λ g. all p.n (λ j. mem j s implies mem j (group_at p.bound g))) (sym (bounded_is s) ∙ and_r _ _ (and_r _ _ f)) in (
            w.0,
            w.1,
            λ i m. implies_e _ _ (all_at p.n (λ j. mem j s implies mem j (group_at p.bound w.0)) w.2 i (mem_below p.n i s (fault_below p s f) m)) m,
          )
