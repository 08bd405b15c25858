-- The least key, read as the best set of the definition. Assumes nothing.
use Prim.Native.Nat.{ℕ, ◌%◌, ◌≤◌, ◌<◌, ◌^◌}
use mathlib.Core.Path.{◌≡◌, refl, sym, ap, ◌∙◌, subst}
use mathlib.Core.Logic.{◌⊎◌, inl, inr, ⊎_elim}
use mathlib.Core.Bool.{true, false}
use native.Mathlib.Nat.{lt_of_lt_of_le}
use native.Mathlib.Omega.{arith}
use lib.Bits.{bit_or, or_lt}
use lib.Pow.{pow_mono, pow_pos}
use Rattle.std.specs.Prelude.{Some, None}
use Rattle.sets.specs.Sets.{mem, size, singleton}
use Rattle.sets.proofs.Bools.{clash, decide, or_e}
use Rattle.sets.proofs.Laws.{mem_below, mem_zero}
use Rattle.sets.proofs.Masks.{mem_or}
use Rattle.quorum.specs.declared.BoundKind.TheVariants.{Most}
use Rattle.plan.specs.declared.Plan.{Plan}
use Rattle.plan.specs.Plan.{cause_of}
use Rattle.plan.proofs.Laws.{sound}
use Rattle.closure.specs.Closure.{reached}
use Rattle.closure.specs.Verdict.{Ahead, defeats, Found, none, found, best_below}
use Rattle.closure.proofs.Faults.{fault_below, fault_source}
use Rattle.closure.proofs.Growth.{joins_source, reached_closed, reached_source}
use Rattle.closure.proofs.Witness.{IsBest, best_below_lem, defeats_fault}
use Rattle.partition.specs.Search.{direct, key, StandsFor, Between, Part, Least, Any}
use Rattle.partition.proofs.Rows.{direct_mem, direct_below, one_below, one_only, one_mem}
use Rattle.partition.proofs.Leasts.{least_among}
use Rattle.partition.proofs.Members.{key_low, key_set, size_twenty}

module _ (p : Plan) (e : cause_of p ≡ 0) (one : ℕ) (q : one ≡ singleton 32 p.source) where
  -- the whole search: no fault set has the source, and the source and its hearers are settled
  pub whole : (f : ℕ) → p.bound.kind ≡ Most f → (hearers : ℕ) → hearers ≡ direct p.rows p.source → Part p f 0 one (bit_or one hearers)
  whole f m hearers d = record {
    plan = e;
    bound_is = m;
    inn_below = pow_pos p.n;
    out_below = one_below p (sound p e) one q;
    known_below = or_lt p.n one hearers (one_below p (sound p e) one q) (direct_below p (sound p e) hearers d);
    source_out = one_mem p (sound p e) one q;
    settled = λ s t w i v. ⊎_elim (λ u. inr (at_source s i (one_only p (sound p e) one q i u))) (hearing s i) (or_e _ _ (sym (mem_or i one hearers) ∙ v));
  }
    where
      at_source : (s i : ℕ) → i ≡ p.source → mem i (reached p s) ≡ true
      at_source s i v = subst (λ (x : ℕ). mem x (reached p s) ≡ true) (sym v) (reached_source p s (sound p e).source_below)

      hearing : (s i : ℕ) → mem i hearers ≡ true → (mem i s ≡ true) ⊎ (mem i (reached p s) ≡ true)
      hearing s i v =
          let k = mem_below p.n i hearers (direct_below p (sound p e) hearers d) v in
          let h = sym (direct_mem p (sound p e) hearers i d k) ∙ v in
          ⊎_elim inl (λ g. inr (reached_closed p s (sound p e).source_below i k (joins_source p s (reached p s) i g h))) (decide (mem i s))

  between : (s : ℕ) → defeats p s ≡ true → Between 0 one s
  between s d = record {
    has = λ i m. clash m (mem_zero i);
    lacks = λ i m. subst (λ (x : ℕ). mem x s ≡ false) (sym (one_only p (sound p e) one q i m)) (fault_source p s (defeats_fault p s d));
  }

  pub whole_all : {best r : ℕ} → Least p (Between 0 one) best r → Least p Any best r
  whole_all = least_among (λ s d a. between s d)

module _ (p : Plan) (e : cause_of p ≡ 0) where
  below : (s : ℕ) → defeats p s ≡ true → s < 2 ^ p.n
  below s d = fault_below p s (defeats_fault p s d)

  low : (s : ℕ) → defeats p s ≡ true → s < 2 ^ 20
  low s d = lt_of_lt_of_le (below s d) (pow_mono (sound p e).twenty)

  narrow : (s : ℕ) → defeats p s ≡ true → size 20 s ≡ size p.n s
  narrow s d = size_twenty p.n s (sound p e).twenty (below s d)

  -- ahead of another set, no greater key
  ahead_key : (t s : ℕ) → defeats p t ≡ true → defeats p s ≡ true → Ahead p t s → key t ≤ key s
  unfolding Ahead key
  ahead_key t s c d a =
      let u = narrow t c in
      let v = narrow s d in
      let x = low t c in
      ⊎_elim (λ l. omega arith) (λ l. omega arith) a

  -- the least key is the definition's best set
  module _ (r : ℕ) (h : Least p Any 22020096 r) where
    pub stands_none : 22020096 ≤ r → StandsFor None (best_below p (2 ^ p.n))
    unfolding StandsFor IsBest
    stands_none l = go (best_below p (2 ^ p.n)) (best_below_lem p (2 ^ p.n))
      where
        go : (x : Found) → IsBest p (2 ^ p.n) x → StandsFor None x
        go none b = refl
        go (found t) b =
            let k : r ≤ key t = h.below t b.1 tt in
            absurd (omega (arith, key_low t (low t b.1)))

    pub stands_some : r < 22020096 → (s : ℕ) → s ≡ r % 1048576 → StandsFor (Some s) (best_below p (2 ^ p.n))
    unfolding StandsFor IsBest
    stands_some l s c = go (best_below p (2 ^ p.n)) (best_below_lem p (2 ^ p.n))
      where
        go : (x : Found) → IsBest p (2 ^ p.n) x → StandsFor (Some s) x
        go none b = ⊎_elim (λ v. absurd (omega arith)) (λ v. clash v.1 (b v.0 (below v.0 v.1))) h.comes
        go (found t) b = same h.comes
          where
            same : (r ≡ 22020096) ⊎ ((u : ℕ) × (defeats p u ≡ true) × (r ≡ key u)) → StandsFor (Some s) (found t)
            same (inl v) = absurd (omega arith)
            same (inr (u, d, v)) =
                let m : r ≤ key t = h.below t b.1 tt in
                let g : key t ≤ key u = ahead_key t u b.1 d (b.2 u (below u d) d) in
                let w : r ≡ key t = omega arith in
                ap Some (c ∙ ap (λ (y : ℕ). y % 1048576) w ∙ key_set t (low t b.1))
