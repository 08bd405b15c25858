-- The words that the search computes from a sound plan's rows are the theory's sets. Assumes nothing.
use Prim.Native.Nat.{ℕ, ◌-◌, ◌^◌, ◌<◌}
use mathlib.Core.Path.{◌≡◌, refl, sym, ap, ◌∙◌, subst}
use mathlib.Core.Logic.{⊎_elim}
use mathlib.Core.Bool.{Bool, true, false, not}
use mathlib.Core.List.{List}
use native.Mathlib.Nat.{lt_of_le_of_lt}
use native.Mathlib.Omega.{arith}
use lib.Bits.{bit_and, bit_or, and_le_l, or_lt}
use lib.Dec.{eqb}
use borrow.Author.Tests.{eqb-true, eq-eqb, lt-ltb}
use Rattle.sets.specs.Tests.{◌and◌}
use Rattle.sets.specs.Sets.{mem, count, mask, singleton}
use Rattle.quorum.specs.Quorum.{at_most, enough}
use Rattle.sets.proofs.Bools.{clash, decide, and_l, and_r, and_i, or_l, or_r, or_e, not_i, not_e, no_by, same_test}
use Rattle.sets.proofs.Laws.{set_ext, mask_lt, mem_mask, mask_cong, count_more, mem_below}
use Rattle.quorum.proofs.Laws.{enough_none}
use Rattle.sets.proofs.Masks.{mem_and, mem_or, mem_not}
use Rattle.sets.proofs.Operations.{singleton_narrow}
use Rattle.plan.specs.declared.Plan.{Plan}
use Rattle.plan.specs.Plan.{hears}
use Rattle.plan.proofs.Laws.{Sound}
use Rattle.closure.specs.Closure.{joins, reached}
use Rattle.closure.proofs.Growth.{joins_good, joins_why, joins_source, joins_enough, reached_closed, reached_source, reached_below, reached_least}
use Rattle.faults.specs.Rows.{over}
use Rattle.faults.proofs.Rows.{over_enough, word_of}
use Rattle.partition.specs.Search.{direct, Inside, Closed, Spread}

-- ---- the source alone

module _ (p : Plan) (s : Sound p) (one : ℕ) (q : one ≡ singleton 32 p.source) where
  one_is : one ≡ mask p.n (λ j. eqb j p.source)
  one_is = q ∙ singleton_narrow 32 p.n p.source s.source_below (let t = s.twenty in omega arith)

  pub one_below : one < 2 ^ p.n
  one_below = subst (λ (x : ℕ). x < 2 ^ p.n) (sym one_is) (mask_lt p.n (λ j. eqb j p.source))

  pub one_only : (i : ℕ) → mem i one ≡ true → i ≡ p.source
  one_only i m =
      eqb-true i p.source
      (sym (ap (mem i) one_is ∙ mem_mask p.n i (λ j. eqb j p.source) (mem_below p.n i one one_below m)) ∙ m)

  pub one_mem : mem p.source one ≡ true
  one_mem =
      ap (mem p.source) one_is ∙ mem_mask p.n p.source (λ j. eqb j p.source) s.source_below ∙ eq-eqb p.source p.source refl

-- ---- rows

-- whoever hears more than none of the source alone hears the source
pub direct_is : (p : Plan) → Sound p → direct p.rows p.source ≡ mask p.n (λ b. hears p b p.source)
unfolding direct enough
direct_is p s =
    over_enough p s 0 (singleton 32 p.source)
    ∙ mask_cong p.n (λ b. enough p.n (at_most 0) (λ i. hears p b i and mem i (singleton 32 p.source))) (λ b. hears p b p.source)
    (λ b k. same_test _ _ (only b) (there b))
  where
    ears : ℕ → ℕ → Bool
    ears b i = hears p b i and mem i (singleton 32 p.source)

    only : (b : ℕ) → enough p.n (at_most 0) (ears b) ≡ true → hears p b p.source ≡ true
    only b m =
        ⊎_elim (λ y. y)
        (λ y.
        clash m
        (enough_none p.n (at_most 0) (ears b)
        (λ a l.
        no_by
        (λ t. clash (subst (λ (x : ℕ). hears p b x ≡ true) (one_only p s (singleton 32 p.source) refl a (and_r _ _ t)) (and_l _ _ t)) y))))
        (decide (hears p b p.source))

    there : (b : ℕ) → hears p b p.source ≡ true → enough p.n (at_most 0) (ears b) ≡ true
    there b h =
        let c : count p.n (λ i. false) < count p.n (ears b) =
        count_more p.n (λ i. false) (ears b) (λ i l m. clash m refl) p.source s.source_below refl
        (and_i _ _ h (one_mem p s (singleton 32 p.source) refl)) in
        lt-ltb 0 (count p.n (ears b)) (omega arith)

pub direct_mem : (p : Plan) → Sound p → (d b : ℕ) → d ≡ direct p.rows p.source → b < p.n → mem b d ≡ hears p b p.source
direct_mem p s d b e k = ap (mem b) (e ∙ direct_is p s) ∙ mem_mask p.n b (λ b. hears p b p.source) k

pub direct_below : (p : Plan) → Sound p → (d : ℕ) → d ≡ direct p.rows p.source → d < 2 ^ p.n
direct_below p s d e = subst (λ (x : ℕ). x < 2 ^ p.n) (sym (e ∙ direct_is p s)) (mask_lt p.n (λ b. hears p b p.source))

pub direct_by : (rows : List ℕ) (source one d : ℕ) → one ≡ singleton 32 source → d ≡ over rows 0 one → d ≡ direct rows source
unfolding direct
direct_by rows source one d e q = q ∙ ap (over rows 0) e

-- ---- what a notice reaches: the source and its hearers outside the fault set, with whoever joins them

module _ (p : Plan) (s : Sound p) (hearers faulty one : ℕ) (d : hearers ≡ direct p.rows p.source) (f : faulty < 2 ^ p.n)
    (q : one ≡ singleton 32 p.source) where
  abbrev first : ℕ
  first = bit_or one (bit_and hearers (4294967295 - faulty))

  pub first_below : first < 2 ^ p.n
  first_below =
      or_lt p.n one (bit_and hearers (4294967295 - faulty)) (one_below p s one q)
      (lt_of_le_of_lt (and_le_l hearers (4294967295 - faulty)) (direct_below p s hearers d))

  good : (b : ℕ) → b < p.n → mem b (4294967295 - faulty) ≡ not (mem b faulty)
  good b k = mem_not 32 b faulty (word_of p s f) (let t = s.twenty in omega arith)

  closed : Closed p faulty (reached p faulty)
  closed b k g h = reached_closed p faulty s.source_below b k (joins_enough p faulty (reached p faulty) b g h)

  starts : Inside first (reached p faulty)
  starts b m =
      ⊎_elim (λ y. subst (λ (x : ℕ). mem x (reached p faulty) ≡ true) (sym (one_only p s one q b y)) (reached_source p faulty s.source_below))
      (λ y.
      let both = sym (mem_and b hearers (4294967295 - faulty)) ∙ y in
      let k = mem_below p.n b hearers (direct_below p s hearers d) (and_l _ _ both) in
      reached_closed p faulty s.source_below b k
      (joins_source p faulty (reached p faulty) b (not_e _ (sym (good b k) ∙ and_r _ _ both)) (sym (direct_mem p s hearers b d k) ∙ and_l _ _ both)))
      (or_e _ _ (sym (mem_or b one (bit_and hearers (4294967295 - faulty))) ∙ m))

  pub spread_reached : (r : ℕ) → Spread p first faulty r → r ≡ reached p faulty
  spread_reached r h =
      set_ext p.n r (reached p faulty) h.below (reached_below p faulty)
      (λ b k. same_test _ _ (h.least (reached p faulty) starts closed b) (reached_least p faulty r source joined b))
    where
      source : mem p.source r ≡ true
      source = h.has p.source (mem_or p.source one (bit_and hearers (4294967295 - faulty)) ∙ or_l _ _ (one_mem p s one q))

      joined : (b : ℕ) → b < p.n → joins p faulty r b ≡ true → mem b r ≡ true
      joined b k j =
          let g = joins_good p faulty r b j in
          ⊎_elim
          (λ y.
          h.has b
          (mem_or b one (bit_and hearers (4294967295 - faulty))
          ∙ or_r _ _
          (mem_and b hearers (4294967295 - faulty)
          ∙ and_i _ _ (direct_mem p s hearers b d k ∙ y) (good b k ∙ not_i g))))
          (h.closed b k g) (joins_why p faulty r b j)
