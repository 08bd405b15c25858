-- The search for margins: what a word of the code counts, what it rules out, and what each return is the least of. Assumes nothing.
use Prim.Native.Nat.{ℕ, ◌+◌, ◌-◌, ◌^◌, ◌≤◌, ◌<◌, max}
use mathlib.Core.Path.{◌≡◌, refl, sym, ap, ◌∙◌, subst}
use mathlib.Core.Logic.{◌⊎◌, inl, inr, ⊎_elim}
use mathlib.Core.Bool.{Bool, true, false, not}
use mathlib.Core.List.{List}
use native.Mathlib.Nat.{le_refl, le_trans, lt_of_lt_of_le, lt_of_le_of_lt}
use native.Mathlib.Omega.{arith}
use lib.Bits.{bit_and, bit_or, and_le_l, and_le_r, or_lt}
use lib.Count.{ones}
use lib.Dec.{eqb, ltb}
use lib.ListN.{get_or}
use borrow.Author.Tests.{ltb-true, ltb-false, lt-ltb, eq-eqb}
use Rattle.sets.specs.Tests.{◌and◌}
use Rattle.sets.specs.Sets.{mem, count, with, outside, singleton}
use Rattle.sets.proofs.Bools.{clash, decide, and_l, and_r, and_i, and_no_l, not_i, not_e, no_by, or_l, or_e, pick_yes, pick_no, pick_case}
use Rattle.sets.proofs.Laws.{mask_lt, mem_zero, mem_above, mem_below, mem_mask, count_mono, count_more, count_width, some_member}
use Rattle.sets.proofs.Masks.{mem_and, mem_or, mem_not, ones_and}
use Rattle.quorum.specs.declared.BoundKind.TheVariants.{Most}
use Rattle.quorum.specs.Quorum.{enough}
use Rattle.plan.specs.declared.Plan.{Plan}
use Rattle.plan.specs.Plan.{heard_by, hears, cause_of}
use Rattle.plan.proofs.Laws.{Sound, sound}
use Rattle.closure.specs.FaultSet.{is_fault_set}
use Rattle.closure.specs.Closure.{reached}
use Rattle.closure.specs.Margin.{heard_of_l, leaves_good, fewest, has_margin}
use Rattle.closure.proofs.Faults.{fault_below, fault_source, fault_bound}
use Rattle.closure.proofs.Margin.{leaves_fault, leaves_good_lem, leaves_i, heard_few, nobody_leaves, fewest_only}
use Rattle.faults.specs.Rows.{over}
use Rattle.faults.proofs.Rows.{over_why, word_of}
use Rattle.partition.specs.Search.{direct, Apart, Between, Settled, Grown, Spread, Part, Heard, Barred, in_row, lesser, surely, hopeful, Seen, Lower}
use Rattle.partition.proofs.Rows.{direct_mem, one_only}
use Rattle.partition.proofs.Members.{outside_mem, outside_i, outside_below, count_split}
use Rattle.partition.proofs.Halves.{left_to, left_fewer, only_inn, half_of}
use Rattle.partition.proofs.Bounds.{ears, ears_few, forced_least}
use Rattle.partition.proofs.Parts.{narrows, halves, all_fault}

-- ---- counts

pub ones_row : (row s : ℕ) → row < 2 ^ 32 → ones (bit_and row s) ≡ in_row row s
unfolding in_row
ones_row row s h = ones_and 32 row s h

module _ (row l before : ℕ) (sought : Bool) where
  pub lesser_now : sought ≡ true → in_row row l < before → in_row row l ≡ lesser row sought l before
  unfolding lesser
  lesser_now y h = sym (pick_yes _ _ _ (and_i _ _ y (lt-ltb (in_row row l) before h)))

  pub lesser_not_sought : sought ≡ false → before ≡ lesser row sought l before
  unfolding lesser
  lesser_not_sought y = sym (pick_no _ _ _ (and_no_l _ _ y))

  pub lesser_no_less : before ≤ in_row row l → before ≡ lesser row sought l before
  unfolding lesser
  lesser_no_less h = sym (pick_no _ _ _ (no_by (λ y. let m = ltb-true (in_row row l) before (and_r _ _ y) in absurd (omega arith))))

  lesser_most : lesser row sought l before ≤ before
  unfolding lesser
  lesser_most =
      pick_case (λ (v : ℕ). v ≤ before) (sought and ltb (in_row row l) before) (in_row row l) before
      (λ y. let m = ltb-true (in_row row l) before (and_r _ _ y) in omega arith) (λ y. le_refl before)

  lesser_heard : sought ≡ true → lesser row sought l before ≤ in_row row l
  unfolding lesser
  lesser_heard w =
      pick_case (λ (v : ℕ). v ≤ in_row row l) (sought and ltb (in_row row l) before) (in_row row l) before
      (λ y. le_refl (in_row row l)) (λ y. ltb-false (in_row row l) before (no_by (λ z. clash (and_i _ _ w z) y)))

  lesser_why : (lesser row sought l before ≡ before) ⊎ ((sought ≡ true) × (lesser row sought l before ≡ in_row row l))
  unfolding lesser
  lesser_why =
      pick_case (λ (v : ℕ). (v ≡ before) ⊎ ((sought ≡ true) × (v ≡ in_row row l))) (sought and ltb (in_row row l) before) (in_row row l) before
      (λ y. inr (and_l _ _ y, refl)) (λ y. inl refl)

module _ (row f out sure : ℕ) where
  -- the greater of the two
  pub surely_max : max (in_row row (bit_and sure out)) (in_row row sure - f) ≡ surely row f out sure
  unfolding surely
  surely_max =
      pick_case (λ (v : ℕ). max (in_row row (bit_and sure out)) (in_row row sure - f) ≡ v)
      (ltb (in_row row (bit_and sure out)) (in_row row sure - f)) (in_row row sure - f) (in_row row (bit_and sure out))
      (λ y. let h = ltb-true (in_row row (bit_and sure out)) (in_row row sure - f) y in omega arith)
      (λ y. let h = ltb-false (in_row row (bit_and sure out)) (in_row row sure - f) y in omega arith)

-- a sound plan's row over its n terminals
module _ (p : Plan) (s : Sound p) where
  row_count : (b a : ℕ) → b < p.n → in_row (get_or p.rows b 0) a ≡ count p.n (λ i. hears p b i and mem i a)
  unfolding in_row hears heard_by
  row_count b a k =
      count_width p.n 32 (λ i. mem i (get_or p.rows b 0) and mem i a) (let t = s.twenty in omega arith)
      (λ i l. and_no_l _ _ (mem_above p.n i (get_or p.rows b 0) (s.row_below b k) l))

  row_heard : (b t l : ℕ) → b < p.n → l ≡ reached p t → in_row (get_or p.rows b 0) l ≡ heard_of_l p b t
  unfolding heard_of_l
  row_heard b t l k e = ap (in_row (get_or p.rows b 0)) e ∙ row_count b (reached p t) k

  -- what a good terminal surely hears of L
  module _ (f : ℕ) (m : p.bound.kind ≡ Most f) (b t out sure : ℕ) (k : b < p.n) (g : leaves_good p b t ≡ true) (lacks : Apart out t)
      (u : Settled p t sure) where
    good_heard : in_row (get_or p.rows b 0) (bit_and sure out) ≤ heard_of_l p b t
    unfolding heard_of_l
    good_heard =
        subst (λ (v : ℕ). v ≤ count p.n (λ a. hears p b a and mem a (reached p t))) (sym (row_count b (bit_and sure out) k))
        (count_mono p.n (λ a. hears p b a and mem a (bit_and sure out)) (λ a. hears p b a and mem a (reached p t))
        (λ a l h.
        let both = sym (mem_and a sure out) ∙ and_r _ _ h in
        and_i _ _ (and_l _ _ h) (⊎_elim (λ y. clash y (lacks a (and_r _ _ both))) (λ y. y) (u a (and_l _ _ both)))))

    most_heard : in_row (get_or p.rows b 0) sure - f ≤ heard_of_l p b t
    unfolding heard_of_l
    most_heard =
        let few : ears p b t ≤ f = ears_few p f m b t (fault_bound p t (leaves_fault p b t g) b k (leaves_good_lem p b t g)) in
        let parts : ears p b sure ≤ ears p b t + ears p b (reached p t) =
        count_split p.n (λ a. hears p b a and mem a sure) (λ a. hears p b a and mem a t) (λ a. hears p b a and mem a (reached p t))
        (λ a l h. ⊎_elim (λ v. inl (and_i _ _ (and_l _ _ h) v)) (λ v. inr (and_i _ _ (and_l _ _ h) v)) (u a (and_r _ _ h))) in
        let row : in_row (get_or p.rows b 0) sure ≡ ears p b sure = row_count b sure k in
        omega arith

    surely_heard : surely (get_or p.rows b 0) f out sure ≤ heard_of_l p b t
    unfolding surely
    surely_heard =
        pick_case (λ (v : ℕ). v ≤ heard_of_l p b t)
        (ltb (in_row (get_or p.rows b 0) (bit_and sure out)) (in_row (get_or p.rows b 0) sure - f)) (in_row (get_or p.rows b 0) sure - f) (in_row (get_or p.rows b 0) (bit_and sure out))
        (λ y. most_heard) (λ y. good_heard)

-- ---- whom a part rules out

-- whom somebody of s hears: nobody at first, then a member's row as well
pub heard_none : (rows : List ℕ) (s : ℕ) → Heard rows s 0
heard_none rows s i m = clash m (mem_zero i)

pub heard_more : (rows : List ℕ) (s found b : ℕ) → b < 20 → mem b s ≡ true → Heard rows s found → Heard rows s (bit_or found (get_or rows b 0))
heard_more rows s found b k m h i y = ⊎_elim (h i) (λ v. (b, k, m, v)) (or_e _ _ (sym (mem_or i found (get_or rows b 0)) ∙ y))

pub barred_none : (p : Plan) (inn out : ℕ) → out < 2 ^ p.n → Barred p inn out out
barred_none p inn out h = record { below = h; has = λ i m. m; apart = λ s i w. w.lacks }

module _ (p : Plan) (s : Sound p) (f : ℕ) (m : p.bound.kind ≡ Most f) (inn out o h free : ℕ) (low : out < 2 ^ p.n)
    (z : f ≡ 0 → ⊥) (e : o ≡ over p.rows (f - 1) inn) (hs : Heard p.rows (bit_and out o) h) (q : free ≡ outside p.n inn out) where
  -- c is heard by somebody who is out and hears f of inn, which c is none of
  one_too_many : (t : ℕ) → is_fault_set p t ≡ true → Between inn out t → (c : ℕ) → mem c (bit_and h free) ≡ true → mem c t ≡ false
  unfolding hears heard_by enough
  one_too_many t i w c y =
      let both = sym (mem_and c h free) ∙ y in
      let x = hs c (and_l _ _ both) in
      let b = x.0 in
      let full = sym (mem_and b out o) ∙ x.2 in
      let k = mem_below p.n b out low (and_l _ _ full) in
      let n = outside_below p.n inn out free c q (and_r _ _ both) in
      let fresh = not_e (mem c inn) (and_l _ _ (sym (outside_mem p.n inn out free c q n) ∙ and_r _ _ both)) in
      let heard : f - 1 < ears p b inn = ltb-true (f - 1) (ears p b inn) (sym (over_why p s (f - 1) inn o b e k) ∙ and_r _ _ full) in
      let few : ears p b t ≤ f = ears_few p f m b t (fault_bound p t i b k (w.lacks b (and_l _ _ full))) in
      no_by
      (λ v.
      let more : ears p b inn < ears p b t =
      count_more p.n (λ a. hears p b a and mem a inn) (λ a. hears p b a and mem a t)
      (λ a l d. and_i _ _ (and_l _ _ d) (w.has a (and_r _ _ d))) c n (no_by (λ d. clash (and_r _ _ d) fresh)) (and_i _ _ x.3 v) in
      absurd (too_many heard few more))
    where
      too_many : {a c : ℕ} → f - 1 < a → c ≤ f → a < c → ⊥
      too_many x y w = z (omega arith)

  pub barred_more : Barred p inn out (bit_or out (bit_and h free))
  barred_more = record {
    below =
        or_lt p.n out (bit_and h free) low
        (lt_of_le_of_lt (and_le_r h free) (subst (λ (x : ℕ). x < 2 ^ p.n) (sym q) (mask_lt p.n (λ i. not (mem i inn) and not (mem i out)))));
    has = λ i y. mem_or i out (bit_and h free) ∙ or_l _ _ y;
    apart = λ t i w c y. ⊎_elim (w.lacks c) (one_too_many t i w c) (or_e _ _ (sym (mem_or c out (bit_and h free)) ∙ y));
  }

-- ---- what each return is the least of

pub and_below : (n a b : ℕ) → a < 2 ^ n → bit_and a b < 2 ^ n
and_below n a b h = lt_of_le_of_lt (and_le_l a b) h

-- what was found stays, where no set of some brings a sought one lower
stays_low : {p : Plan} {Of : ℕ → Type 0} {sought : ℕ} {counts : List ℕ}
    → ((b s : ℕ) → mem b sought ≡ true → leaves_good p b s ≡ true → Of s → get_or counts b 0 ≤ heard_of_l p b s) → Lower p Of sought counts counts
stays_low f = record { at_most = λ b k. le_refl _; comes = λ b k. inl refl; least = f }

module _ {p : Plan} {f inn out known : ℕ} (part : Part p f inn out known) {shut : ℕ} (bar : Barred p inn out shut) where
  pub shut_part : Part p f inn shut known
  shut_part =
      narrows part inn shut known (λ i m. m) bar.has part.inn_below bar.below part.known_below (λ s i w u. u)

  pub shut_fewer : left_to p.n inn shut ≤ left_to p.n inn out
  shut_fewer = left_fewer p.n inn out inn shut (λ i m. m) bar.has

  shut_between : (s : ℕ) → is_fault_set p s ≡ true → Between inn out s → Between inn shut s
  shut_between s i w = record { has = w.has; lacks = bar.apart s i w }

module _ {p : Plan} {f inn out known : ℕ} (part : Part p f inn out known) (sought : ℕ) (low : sought < 2 ^ p.n) (counts : List ℕ) where
  sought_below : (b : ℕ) → mem b sought ≡ true → b < p.n
  sought_below b m = mem_below p.n b sought low m

  twenty : (b : ℕ) → b < p.n → b < 20
  twenty b k = lt_of_lt_of_le k (sound p part.plan).twenty

  -- ---- the sets with inn: all is inn with what it forces

  module _ {all : ℕ} (forced : Spread p inn 0 all) where
    pub meets_low : (bit_and all out ≡ 0 → ⊥) → Lower p (Between inn out) sought counts counts
    meets_low z =
        let w = some_member p.n (bit_and all out) (lt_of_le_of_lt (and_le_l all out) forced.below) z in
        let both = sym (mem_and w.0 all out) ∙ w.2 in
        stays_low
        (λ b s m g i. clash (forced_least forced s (leaves_fault p b s g) i.has w.0 (and_l _ _ both)) (i.lacks w.0 (and_r _ _ both)))

    -- the sought ones that it leaves good
    abbrev pub good : ℕ
    good = bit_and sought (4294967295 - all)

    good_mem : (b : ℕ) → b < p.n → mem b good ≡ mem b sought and not (mem b all)
    good_mem b k =
        mem_and b sought (4294967295 - all)
        ∙ ap (λ (t : Bool). mem b sought and t)
        (mem_not 32 b all (word_of p (sound p part.plan) forced.below) (let t = twenty b k in omega arith))

    good_below : good < 2 ^ p.n
    good_below = and_below p.n sought (4294967295 - all) low

    module _ (z : bit_and all out ≡ 0) (l : ℕ) (e : l ≡ reached p all) (now : List ℕ)
        (q : (b : ℕ) → b < 20 → get_or now b 0 ≡ lesser (get_or p.rows b 0) (mem b good) l (get_or counts b 0)) where
      good_leaves : (b : ℕ) → b < p.n → mem b good ≡ true → leaves_good p b all ≡ true
      good_leaves b k m = leaves_i p b all (all_fault part forced z) (not_e (mem b all) (and_r _ _ (sym (good_mem b k) ∙ m)))

      heard_now : (b : ℕ) → b < p.n → in_row (get_or p.rows b 0) l ≡ heard_of_l p b all
      heard_now b k = row_heard p (sound p part.plan) b all l k e

      pub seen_now : Seen p all good now
      seen_now b m =
          let k = mem_below p.n b good good_below m in
          subst (λ (v : ℕ). v ≤ heard_of_l p b all) (sym (q b (twenty b k)))
          (subst (λ (v : ℕ). lesser (get_or p.rows b 0) (mem b good) l (get_or counts b 0) ≤ v) (heard_now b k)
          (lesser_heard (get_or p.rows b 0) l (get_or counts b 0) (mem b good) m))

      -- whatever leaves b good leaves it good with all, and has all
      pub low_inside : {r : List ℕ} → Lower p (Between all out) good now r → Lower p (Between inn out) sought counts r
      low_inside {r} h = record {
        at_most = λ b k. le_trans (h.at_most b k) (subst (λ (v : ℕ). v ≤ get_or counts b 0) (sym (q b k)) (lesser_most (get_or p.rows b 0) l (get_or counts b 0) (mem b good)));
        comes = λ b k. ⊎_elim (λ v. ⊎_elim (λ u. inl (v ∙ q b k ∙ u)) (λ u. inr (by_all b v u.0 k u.1)) (lesser_why (get_or p.rows b 0) l (get_or counts b 0) (mem b good))) inr (h.comes b k);
        least = λ b s m g i.
            let k = sought_below b m in
            let has = forced_least forced s (leaves_fault p b s g) i.has in
            h.least b s (good_mem b k ∙ and_i _ _ m (not_i (no_by (λ y. clash (has b y) (leaves_good_lem p b s g))))) g (record { has = has; lacks = i.lacks });
      }
        where
          by_all : (b : ℕ) → get_or r b 0 ≡ get_or now b 0 → mem b good ≡ true → b < 20
              → lesser (get_or p.rows b 0) (mem b good) l (get_or counts b 0) ≡ in_row (get_or p.rows b 0) l
              → (s : ℕ) × (leaves_good p b s ≡ true) × (get_or r b 0 ≡ heard_of_l p b s)
          by_all b v m k u =
              let low = mem_below p.n b good good_below m in
              (all, good_leaves b low m, v ∙ q b k ∙ u ∙ heard_now b low)

  -- ---- the sets with inn and without out: none has any of shut, and sure is settled

  module _ (seen : Seen p inn sought counts) {shut : ℕ} (bar : Barred p inn out shut) where
    pub none_free : (free : ℕ) → free ≡ outside p.n inn shut → free ≡ 0 → Lower p (Between inn out) sought counts counts
    none_free free e z =
        stays_low
        (λ b s m g w.
        let i = leaves_fault p b s g in
        let q = only_inn p.n inn shut free s e z part.inn_below (fault_below p s i) (shut_between part bar s i w) in
        subst (λ (x : ℕ). get_or counts b 0 ≤ heard_of_l p b x) (sym q) (seen b m))

    module _ {sure : ℕ} (grown : Grown p shut known sure) (hope : ℕ) (hopes : hope ≡ hopeful p.rows f shut sure counts) where
      abbrev pub left : ℕ
      left = bit_and sought hope

      left_below : left < 2 ^ p.n
      left_below = and_below p.n sought hope low

      -- whoever is left no longer is brought lower by no set of the part
      no_lower : (b s : ℕ) → mem b sought ≡ true → mem b left ≡ false → leaves_good p b s ≡ true → Between inn out s → get_or counts b 0 ≤ heard_of_l p b s
      unfolding hopeful
      no_lower b s m out_of_lem g w =
          let k = sought_below b m in
          let i = leaves_fault p b s g in
          let lacks = bar.apart s i w in
          let test = sym (ap (mem b) hopes ∙ mem_mask 20 b (λ c. ltb (surely (get_or p.rows c 0) f shut sure) (get_or counts c 0)) (twenty b k)) in
          let few : get_or counts b 0 ≤ surely (get_or p.rows b 0) f shut sure =
          ltb-false (surely (get_or p.rows b 0) f shut sure) (get_or counts b 0)
          (no_by (λ y. clash (mem_and b sought hope ∙ and_i _ _ m (sym test ∙ y)) out_of_lem)) in
          le_trans few (surely_heard p (sound p part.plan) f part.bound_is b s shut sure k g lacks (grown.settled s i lacks (part.settled s i w)))

      pub none_hopeful : left ≡ 0 → Lower p (Between inn out) sought counts counts
      none_hopeful z = stays_low (λ b s m g w. no_lower b s m (ap (mem b) z ∙ mem_zero b) g w)

      module _ (free c : ℕ) (e : free ≡ outside p.n inn shut) (is_free : mem c free ≡ true) where
        pub seen_first : {first : List ℕ} {Of : ℕ → Type 0} → Lower p Of left counts first → Seen p inn left first
        seen_first h b m =
            le_trans (h.at_most b (twenty b (mem_below p.n b left left_below m))) (seen b (and_l _ _ (sym (mem_and b sought hope) ∙ m)))

        pub both_low : {first r : List ℕ} (i o : ℕ) → i ≡ with 32 inn c → o ≡ with 32 shut c → Lower p (Between i shut) left counts first
            → Lower p (Between inn o) left first r → Lower p (Between inn out) sought counts r
        both_low i o t q x y = record {
          at_most = λ b k. le_trans (y.at_most b k) (x.at_most b k);
          comes = λ b k. ⊎_elim (λ v. ⊎_elim (λ u. inl (v ∙ u)) (λ u. inr (u.0, u.1, v ∙ u.2)) (x.comes b k)) inr (y.comes b k);
          least = λ b s m g w.
              let k = twenty b (sought_below b m) in
              ⊎_elim
              (λ h.
              ⊎_elim (λ v. y.least b s h g v) (λ v. le_trans (y.at_most b k) (x.least b s h g v))
              (half_of (halves (shut_part part bar) free c e is_free) o i q t s (shut_between part bar s (leaves_fault p b s g) w)))
              (λ h. le_trans (le_trans (y.at_most b k) (x.at_most b k)) (no_lower b s m h g w)) (decide (mem b left));
        }

-- ---- the whole search

-- whoever has a margin is sought, and no fault set has the source
module _ (p : Plan) (e : cause_of p ≡ 0) (one : ℕ) (q : one ≡ singleton 32 p.source) (hearers : ℕ) (d : hearers ≡ direct p.rows p.source)
    (sought : ℕ) (t : sought ≡ outside p.n one hearers) where
  pub sought_low : sought < 2 ^ p.n
  sought_low = subst (λ (x : ℕ). x < 2 ^ p.n) (sym t) (mask_lt p.n (λ i. not (mem i one) and not (mem i hearers)))

  is_sought : (b : ℕ) → b < p.n → has_margin p b ≡ true → mem b sought ≡ true
  unfolding has_margin
  is_sought b k h =
      outside_i p.n one hearers sought b t k
      (no_by (λ m. clash (eq-eqb b p.source (one_only p (sound p e) one q b m)) (not_e (eqb b p.source) (and_l _ _ h))))
      (direct_mem p (sound p e) hearers b d k ∙ not_e (hears p b p.source) (and_r _ _ h))

  -- where none was found, everybody at the least hears what it hears when nobody is bad
  pub lowest : (counts r : List ℕ) → ((b : ℕ) → b < 20 → get_or counts b 0 ≡ 20) → Lower p (Between 0 one) sought counts r
      → (b : ℕ) → b < p.n → has_margin p b ≡ true → get_or r b 0 ≡ fewest p b
  lowest counts r start h b k has =
      fewest_only p b (get_or r b 0)
      (record {
        some =
            ⊎_elim
            (λ v.
            let z = start b twenty in
            let a = least 0 (nobody_leaves p b) in
            let c = heard_few p b 0 in
            let w = (sound p e).twenty in
            (0, nobody_leaves p b, (let y : get_or r b 0 ≡ heard_of_l p b 0 = omega arith in y)))
            (λ v. v) (h.comes b twenty);
        least = least;
      })
    where
      twenty : b < 20
      twenty = lt_of_lt_of_le k (sound p e).twenty

      least : (s : ℕ) → leaves_good p b s ≡ true → get_or r b 0 ≤ heard_of_l p b s
      least s g =
          h.least b s (is_sought b k has) g
          (record {
            has = λ i m. clash m (mem_zero i);
            lacks = λ i m. subst (λ (x : ℕ). mem x s ≡ false) (sym (one_only p (sound p e) one q i m)) (fault_source p s (leaves_fault p b s g));
          })
