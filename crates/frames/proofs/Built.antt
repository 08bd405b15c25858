-- A plan while it is read: sound, but that a group may still be missing. Assumes nothing.
use Prim.Native.Nat.{ℕ, ◌+◌, ◌^◌, ◌≤◌, ◌<◌}
use mathlib.Core.Path.{◌≡◌, refl, sym, ap, ◌∙◌}
use mathlib.Core.Logic.{◌⊎◌, inl, inr}
use mathlib.Core.Bool.{Bool, true, false, not}
use native.Mathlib.Nat.{lt_of_lt_of_le}
use native.Mathlib.Omega.{arith}
use lib.Dec.{eqb, ltb}
use lib.ListN.{length, get_or, set, replicate, length-set, length-replicate, get_or-replicate}
use lib.Pow.{pow_mono, pow_pos}
use lib.Seq.{get_or-set_same, get_or-set_other}
use borrow.Author.Tests.{eq-eqb, ne_eqb, eqb-false, lt-ltb, le-ltb, ltb-true, le-leb, leb-true}
use Rattle.sets.specs.Tests.{◌and◌, ◌or◌, pick}
use Rattle.sets.specs.Sets.{Set, mem, mask, with, within}
use Rattle.sets.proofs.Bools.{and_l, and_r, and_i, or_no, not_i, not_e, same_test, pick_yes, pick_no, pick_case}
use Rattle.sets.proofs.Operations.{mem_with}
use Rattle.sets.proofs.Laws.{equal_or_not, below_or_not, mem_zero, mem_above, set_ext, mask_lt, mem_mask, mem_mask_above, all_at, all_i}
use Rattle.quorum.specs.declared.BoundKind.{BoundKind}
use Rattle.quorum.specs.declared.BoundKind.TheVariants.{Most, Groups}
use Rattle.quorum.specs.Quorum.{most_groups, no_groups, listed, group_at, in_range, others, listed_sound, groups_sound}
use Rattle.plan.specs.declared.Plan.{Plan}
use Rattle.plan.specs.Plan.{heard_by, hears, row_sound, links_sound, cause_of}
use Rattle.plan.proofs.Laws.{tested, row_of}
use Rattle.frames.specs.Reading.{no_links, kind_read, lists_none, linked, grouped}

-- place i of the groups: a group that names others than the source, or nothing where none is listed
abbrev pub place_sound : Plan → (i : ℕ) → Bool
place_sound p i = pick (ltb i (listed p.bound.kind)) (others p.n p.source (group_at p.bound i)) (eqb (group_at p.bound i) 0)

pub record Built (p : Plan) : Type 0 where
  pub range : in_range p.n p.source p.bound.kind ≡ true
  pub links : links_sound p ≡ true
  pub most : listed p.bound.kind ≤ most_groups
  pub places : (i : ℕ) → i < most_groups → place_sound p i ≡ true
  pub rows_length : length p.rows ≡ 20
  pub groups_length : length p.bound.groups ≡ 16

-- a plan that the check finds sound, with its 20 rows and 16 places
abbrev pub Whole : Plan → Type 0
Whole p = (cause_of p ≡ 0) × (length p.rows ≡ 20) × (length p.bound.groups ≡ 16)

-- ---- where no group is missing, the plan is whole

listed_sound_lem : (kind : BoundKind) → listed kind ≤ most_groups → lists_none kind ≡ false → listed_sound kind ≡ true
listed_sound_lem (Most f) m n = refl
listed_sound_lem (Groups count) m n = let z = eqb-false count 0 n in and_i _ _ (le-leb 1 count (omega arith)) (le-leb count most_groups m)

module _ (p : Plan) (w : Built p) where
  pub built_whole : lists_none p.bound.kind ≡ false → Whole p
  unfolding groups_sound
  built_whole n = (
    tested p (record {
      range = w.range;
      links = w.links;
      groups = and_i _ _ (listed_sound_lem p.bound.kind w.most n) (all_i most_groups (place_sound p) w.places);
    }),
    w.rows_length,
    w.groups_length,
  )

  -- of its links
  pub built_twenty : p.n ≤ 20
  unfolding in_range
  built_twenty = leb-true p.n 20 (and_l _ _ (and_r _ _ w.range))

  pub built_row : (b : ℕ) → b < p.n → heard_by p b < 2 ^ p.n
  unfolding others within
  built_row b k = ltb-true (heard_by p b) (2 ^ p.n) (and_l _ _ (row_of p w.links b k built_twenty))

  pub built_other : (b : ℕ) → b < p.n → hears p b b ≡ false
  unfolding others hears
  built_other b k = not_e (mem b (heard_by p b)) (and_r _ _ (row_of p w.links b k built_twenty))

-- ---- the head: no links and no groups yet

zero_sound : (n b : ℕ) → row_sound n b 0 ≡ true
unfolding row_sound others within
zero_sound n b =
    pick_case (λ (t : Bool). t ≡ true) (ltb b n) (ltb 0 (2 ^ n) and not (mem b 0)) (eqb 0 0)
    (λ h. and_i _ _ (lt-ltb 0 (2 ^ n) (pow_pos n)) (not_i (mem_zero b))) (λ h. refl)

pub none_listed : (f : ℕ) → listed (kind_read f) ≡ 0
unfolding kind_read
none_listed f = pick_case (λ (k : BoundKind). listed k ≡ 0) (eqb f 255) (Groups 0) (Most f) (λ h. refl) (λ h. refl)

pub head_built : (n source f : ℕ) → in_range n source (kind_read f) ≡ true
    → Built (record { n = n; source = source; bound = record { kind = kind_read f; groups = no_groups }; rows = no_links })
unfolding links_sound heard_by group_at
head_built n source f r = record {
  range = r;
  links = all_i 20 (λ b. row_sound n b (get_or (replicate 20 0) b 0)) (λ b h. ap (row_sound n b) (get_or-replicate {A = ℕ} 20 b 0 0 h) ∙ zero_sound n b);
  most = omega (arith, none_listed f);
  places =
      λ i h.
      pick_no _ _ _ (le-ltb i (listed (kind_read f)) (omega (arith, none_listed f)))
      ∙ eq-eqb (get_or (replicate 16 0) i 0) 0 (get_or-replicate {A = ℕ} 16 i 0 0 h);
  rows_length = length-replicate {A = ℕ} 20 0;
  groups_length = length-replicate {A = ℕ} 16 0;
}

-- ---- one link more

-- a set of n terminals with one of them more, in a wider word
with_narrow : (w n s i : ℕ) → n ≤ w → s < 2 ^ n → i < n → with w s i < 2 ^ n
unfolding with
with_narrow w n s i h k l =
    rw (set_ext w (mask w (λ j. mem j s or eqb j i)) (mask n (λ j. mem j s or eqb j i)) (mask_lt w (λ j. mem j s or eqb j i))
    (lt_of_lt_of_le (mask_lt n (λ j. mem j s or eqb j i)) (pow_mono h)) (λ j m. mem_mask w j (λ j. mem j s or eqb j i) m ∙ sym (go j (below_or_not j n))))
    (mask_lt n (λ j. mem j s or eqb j i))
  where
    go : (j : ℕ) → (j < n) ⊎ (n ≤ j) → mem j (mask n (λ j. mem j s or eqb j i)) ≡ mem j s or eqb j i
    go j (inl m) = mem_mask n j (λ j. mem j s or eqb j i) m
    go j (inr m) =
        mem_mask_above n j (λ j. mem j s or eqb j i) m ∙ sym (or_no _ _ (mem_above n j s k m) (ne_eqb j i (λ e. omega arith)))

module _ (p : Plan) (w : Built p) (from to : ℕ) (f : from < p.n) (t : to < p.n) (d : from ≡ to → ⊥) where
  row_kept : row_sound p.n to (with 32 (heard_by p to) from) ≡ true
  unfolding row_sound others within hears
  row_kept =
      let n : p.n ≤ 20 = built_twenty p w in
      pick_yes _ _ _ (lt-ltb to p.n t)
      ∙ and_i _ _ (lt-ltb _ (2 ^ p.n) (with_narrow 32 p.n (heard_by p to) from (omega arith) (built_row p w to t) f))
      (not_i (mem_with 32 (heard_by p to) from to (omega arith) ∙ or_no _ _ (built_other p w to t) (ne_eqb to from (λ e. d (sym e)))))

  rows_kept : (b : ℕ) → b < 20 → (b ≡ to) ⊎ (b ≡ to → ⊥) → row_sound p.n b (heard_by (linked p from to) b) ≡ true
  unfolding linked heard_by links_sound
  rows_kept b h (inl e) =
      let there : to < length p.rows = omega (arith, built_twenty p w, w.rows_length) in
      ap (λ (i : ℕ). row_sound p.n i (get_or (set p.rows to (with 32 (get_or p.rows to 0) from)) i 0)) e
      ∙ ap (row_sound p.n to) (get_or-set_same p.rows to (with 32 (get_or p.rows to 0) from) 0 there)
      ∙ row_kept
  rows_kept b h (inr n) =
      ap (row_sound p.n b) (get_or-set_other p.rows to b (with 32 (get_or p.rows to 0) from) 0 n)
      ∙ all_at 20 (λ b. row_sound p.n b (get_or p.rows b 0)) w.links b h

  pub link_built : Built (linked p from to)
  unfolding linked links_sound
  link_built = record {
    range = w.range;
    links = all_i 20 (λ b. row_sound p.n b (heard_by (linked p from to) b)) (λ b h. rows_kept b h (equal_or_not b to));
    most = w.most;
    places = w.places;
    rows_length = length-set p.rows to (with 32 (heard_by p to) from) ∙ w.rows_length;
    groups_length = w.groups_length;
  }

-- ---- one group more

module _ (p : Plan) (w : Built p) (s : Set) (l : listed p.bound.kind < most_groups) (o : others p.n p.source s ≡ true) where
  abbrev count : ℕ
  count = listed p.bound.kind

  place_kept : (i : ℕ) → i < most_groups → (i ≡ count) ⊎ (i ≡ count → ⊥) → place_sound (grouped p s) i ≡ true
  unfolding grouped group_at
  place_kept i h (inl e) =
      let there : count < length p.bound.groups = omega (arith, w.groups_length) in
      pick_yes _ _ _ (lt-ltb i (count + 1) (omega arith))
      ∙ ap (λ (j : ℕ). others p.n p.source (get_or (set p.bound.groups count s) j 0)) e
      ∙ ap (others p.n p.source) (get_or-set_same p.bound.groups count s 0 there)
      ∙ o
  place_kept i h (inr n) =
      ap (λ (g : ℕ). pick (ltb i (count + 1)) (others p.n p.source g) (eqb g 0)) (get_or-set_other p.bound.groups count i s 0 n)
      ∙ ap (λ (b : Bool). pick b (others p.n p.source (get_or p.bound.groups i 0)) (eqb (get_or p.bound.groups i 0) 0))
      (same_test _ _ (λ b. let k = ltb-true i (count + 1) b in lt-ltb i count (omega arith)) (λ b. let k = ltb-true i count b in lt-ltb i (count + 1) (omega arith)))
      ∙ w.places i h

  range_kept : in_range p.n p.source (Groups (count + 1)) ≡ true
  unfolding in_range
  range_kept =
      let r = w.range in
      and_i _ _ (and_l _ _ r) (and_i _ _ (and_l _ _ (and_r _ _ r)) (and_i _ _ (and_l _ _ (and_r _ _ (and_r _ _ r))) refl))

  pub group_built : Built (grouped p s)
  unfolding grouped links_sound heard_by
  group_built = record {
    range = range_kept;
    links = w.links;
    most = omega arith;
    places = λ i h. place_kept i h (equal_or_not i count);
    rows_length = w.rows_length;
    groups_length = length-set p.bound.groups count s ∙ w.groups_length;
  }
