-- The parts of the search: what each return is the least of, and what each call is given. Assumes nothing.
use Prim.Native.Nat.{ℕ, ◌^◌, ◌≤◌, ◌<◌}
use mathlib.Core.Path.{◌≡◌, sym, ap, ◌∙◌, subst}
use mathlib.Core.Logic.{inl, inr, ⊎_elim}
use mathlib.Core.Bool.{true, false, not}
use native.Mathlib.Nat.{le_trans, lt_of_lt_of_le, lt_of_le_of_lt}
use native.Mathlib.Omega.{arith}
use lib.Bits.{bit_and, bit_or, and_le_l, or_lt}
use lib.Dec.{eqb}
use lib.Pow.{pow_mono}
use Rattle.sets.specs.Sets.{mem, with, outside}
use Rattle.sets.proofs.Bools.{clash, and_l, and_r, and_i, and_yes, or_e, no_by}
use Rattle.sets.proofs.Laws.{mem_zero, some_member}
use Rattle.sets.proofs.Masks.{mem_and, mem_or}
use Rattle.plan.specs.declared.Plan.{Plan}
use Rattle.plan.proofs.Laws.{sound}
use Rattle.closure.specs.FaultSet.{is_fault_set}
use Rattle.closure.specs.Closure.{reached, cut_off}
use Rattle.closure.specs.Verdict.{defeats}
use Rattle.closure.proofs.Faults.{fault_below}
use Rattle.closure.proofs.Witness.{defeats_fault}
use Rattle.partition.specs.Search.{key, Inside, Between, Settled, Hopeless, Spread, Grown, Part, Least}
use Rattle.partition.proofs.Members.{key_mono}
use Rattle.partition.proofs.Halves.{left_to, left_fewer, only_inn, Half, out_low, keeps_out, fewer_without, inn_low, keeps_inn, fewer_with, half_of}
use Rattle.partition.proofs.Leasts.{stays, least_among, least_then}
use Rattle.partition.proofs.Bounds.{forced_bounded, forced_least}
use Rattle.partition.proofs.Tests.{fault_test}

-- what a fault set leaves out decides whether it defeats the plan
pub defeats_test : (p : Plan) (s l r : ℕ) → is_fault_set p s ≡ true → l ≡ reached p s → r ≡ outside p.n s l → not (eqb r 0) ≡ defeats p s
unfolding defeats cut_off
defeats_test p s l r i e q = ap (λ (x : ℕ). not (eqb x 0)) (q ∙ ap (outside p.n s) e) ∙ sym (and_yes _ _ i)

module _ {p : Plan} {f inn out known : ℕ} (part : Part p f inn out known) where
  low : (s : ℕ) → s < 2 ^ p.n → s < 2 ^ 20
  low s h = lt_of_lt_of_le h (pow_mono (sound p part.plan).twenty)

  -- a call is given more that is in, more that is out, and more that is settled
  pub narrows : (inn' out' known' : ℕ) → Inside inn inn' → Inside out out' → inn' < 2 ^ p.n → out' < 2 ^ p.n → known' < 2 ^ p.n
      → ((s : ℕ) → is_fault_set p s ≡ true → Between inn' out' s → Settled p s known → Settled p s known')
      → Part p f inn' out' known'
  narrows inn' out' known' i o a b c keeps = record {
    plan = part.plan;
    bound_is = part.bound_is;
    inn_below = a;
    out_below = b;
    known_below = c;
    source_out = o p.source part.source_out;
    settled = λ s t w. keeps s t w (part.settled s t (record { has = λ x m. w.has x (i x m); lacks = λ x m. w.lacks x (o x m) }));
  }

  -- ---- the sets with inn: all is inn with what it forces

  module _ {all : ℕ} (forced : Spread p inn 0 all) where
    pub all_low : all < 2 ^ 20
    all_low = low all forced.below

    pub all_fault : bit_and all out ≡ 0 → is_fault_set p all ≡ true
    all_fault z =
        sym
        (fault_test p f part.bound_is all true forced.below
        (no_by (λ y. clash (and_i _ _ y part.source_out) (sym (mem_and p.source all out) ∙ ap (mem p.source) z ∙ mem_zero p.source)))
        (sym (forced_bounded forced)))

    pub all_part : Part p f all out (bit_or known all)
    all_part =
        narrows all out (bit_or known all) forced.has (λ x m. m) forced.below part.out_below
        (or_lt p.n known all part.known_below forced.below)
        (λ s t w u x m. ⊎_elim (u x) (λ y. inl (w.has x y)) (or_e _ _ (sym (mem_or x known all) ∙ m)))

    pub all_fewer : left_to p.n all out ≤ left_to p.n inn out
    all_fewer = left_fewer p.n inn out all out forced.has (λ x m. m)

    has_all : (s : ℕ) → defeats p s ≡ true → Between inn out s → Inside all s
    has_all s d b = forced_least forced s (defeats_fault p s d) b.has

    later : (s : ℕ) → defeats p s ≡ true → Between inn out s → key all ≤ key s
    later s d b = key_mono all s all_low (low s (fault_below p s (defeats_fault p s d))) (has_all s d b)

    pub meets : (best : ℕ) → (bit_and all out ≡ 0 → ⊥) → Least p (Between inn out) best best
    meets best z =
        let w = some_member p.n (bit_and all out) (lt_of_le_of_lt (and_le_l all out) forced.below) z in
        let both = sym (mem_and w.0 all out) ∙ w.2 in
        stays (λ s d b. clash (has_all s d b w.0 (and_l _ _ both)) (b.lacks w.0 (and_r _ _ both)))

    pub no_better : (best own : ℕ) → own ≡ key all → best ≤ own → Least p (Between inn out) best best
    no_better best own e l = stays (λ s d b. le_trans l (subst (λ (x : ℕ). x ≤ key s) (sym e) (later s d b)))

    pub takes : (best own : ℕ) → own ≡ key all → own < best → defeats p all ≡ true → Least p (Between inn out) best own
    takes best own e l d = record {
      at_most = omega arith;
      comes = inr (all, d, e);
      below = λ s t b. subst (λ (x : ℕ). x ≤ key s) (sym e) (later s t b);
    }

    pub widens : {best r : ℕ} → Least p (Between all out) best r → Least p (Between inn out) best r
    widens = least_among (λ s d b. record { has = has_all s d b; lacks = b.lacks })

  -- ---- the sets with inn and without out, where sure is settled

  module _ {sure : ℕ} (grown : Grown p out known sure) where
    pub no_hope : (best : ℕ) → Hopeless p inn sure best → Least p (Between inn out) best best
    no_hope best h =
        stays (λ s d w. let i = defeats_fault p s d in h s d w.has (grown.settled s i w.lacks (part.settled s i w)))

    part_sure : (inn' out' : ℕ) → Inside inn inn' → Inside out out' → inn' < 2 ^ p.n → out' < 2 ^ p.n → Part p f inn' out' sure
    part_sure inn' out' i o a b =
        narrows inn' out' sure i o a b grown.below (λ s t w u. grown.settled s t (λ x m. w.lacks x (o x m)) u)

  -- where nobody is left to decide
  pub none_left : (best free : ℕ) → defeats p inn ≡ false → free ≡ outside p.n inn out → free ≡ 0 → Least p (Between inn out) best best
  none_left best free clear e z =
      stays
      (λ s d w.
      clash (subst (λ (y : ℕ). defeats p y ≡ true) (only_inn p.n inn out free s e z part.inn_below (fault_below p s (defeats_fault p s d)) w) d) clear)

  -- b is one of the free terminals: the sets without it, and those with it

  module _ (free b : ℕ) (e : free ≡ outside p.n inn out) (m : mem b free ≡ true) where
    pub halves : Half p.n inn out free b
    halves = record { twenty = (sound p part.plan).twenty; inn_below = part.inn_below; out_below = part.out_below; free_is = e; is_free = m }

    pub part_without : (o : ℕ) → o ≡ with 32 out b → {sure : ℕ} → Grown p out known sure → Part p f inn o sure
    part_without o q g = part_sure g inn o (λ x m. m) (keeps_out halves o q) part.inn_below (out_low halves o q)

    pub part_with : (i : ℕ) → i ≡ with 32 inn b → {sure : ℕ} → Grown p out known sure → Part p f i out sure
    part_with i q g = part_sure g i out (keeps_inn halves i q) (λ x m. m) (inn_low halves i q) part.out_below

    pub without_less : (o : ℕ) → o ≡ with 32 out b → left_to p.n inn o < left_to p.n inn out
    without_less o q = fewer_without halves o q

    pub with_less : (i : ℕ) → i ≡ with 32 inn b → left_to p.n i out < left_to p.n inn out
    with_less i q = fewer_with halves i q

    pub both : {best first r : ℕ} (o i : ℕ) → o ≡ with 32 out b → i ≡ with 32 inn b → Least p (Between inn o) best first → Least p (Between i out) first r
        → Least p (Between inn out) best r
    both o i q t = least_then (λ s d w. half_of halves o i q t s w)
