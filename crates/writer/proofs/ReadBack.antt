-- A sound plan that is written and read again is the same plan. Assumes nothing.
use Prim.Native.Nat.{ℕ, zero, suc, ◌+◌, ◌*◌, ◌/◌, ◌%◌, ◌^◌, ◌≤◌, ◌<◌}
use mathlib.Core.Path.{◌≡◌, refl, sym, ap, ap₂, ◌∙◌, subst}
use mathlib.Core.Logic.{◌⊎◌, inl, inr, ⊎_elim}
use mathlib.Core.Bool.{Bool, true, false}
use mathlib.Core.List.{List, [], ◌++◌, append_assoc}
use native.Mathlib.Nat.{lt_of_lt_of_le, add-zero}
use native.Mathlib.Numerals.{add-one}
use native.Mathlib.Omega.{arith}
use lib.Dec.{eqb, ltb}
use lib.ListN.{length, get_or, set, replicate, length-set, length-replicate, get_or-replicate}
use lib.Pow.{pow_mono}
use lib.Seq.{get_or-set_same, get_or-set_other, ext_get_or}
use borrow.Author.Tests.{eq-eqb, ne_eqb, eqb-true, lt-ltb, le-ltb, ltb-true, le-leb, lt-leb, leb-true}
use Rattle.sets.specs.Tests.{◌and◌, ◌or◌, pick}
use Rattle.sets.specs.Causes.{first_cause}
use Rattle.sets.specs.Sets.{mem, with, within}
use Rattle.sets.proofs.Bools.{clash, decide, and_l, and_r, and_i, and_yes, and_swap, and_no_l, and_no_r, or_r, or_no, not_yes, same_test, pick_yes, pick_no, pick_case}
use Rattle.sets.proofs.Causes.{cause_later, cause_last}
use Rattle.sets.proofs.Operations.{mem_with}
use Rattle.sets.proofs.Laws.{equal_or_not, below_or_not, mem_zero, mem_above, set_ext, mask_lt, all_at}
use Rattle.quorum.specs.declared.BoundKind.{BoundKind}
use Rattle.quorum.specs.declared.BoundKind.TheVariants.{Most, Groups}
use Rattle.quorum.specs.declared.Bound.{Bound}
use Rattle.quorum.specs.Quorum.{no_groups, listed, group_at, in_range, others, listed_sound, groups_sound}
use Rattle.plan.specs.declared.Plan.{Plan}
use Rattle.plan.specs.Plan.{heard_by, hears, cause_of}
use Rattle.plan.specs.Deaf.{deaf_set}
use Rattle.plan.proofs.Laws.{Sound, sound, tests}
use Rattle.lines.specs.declared.Frame.TheVariants.{Head, Link, Group}
use Rattle.frames.specs.declared.Stage.{Stage}
use Rattle.frames.specs.declared.Stage.TheVariants.{Links, Grouped}
use Rattle.frames.specs.declared.Progress.{Progress}
use Rattle.frames.specs.Lines.{last_line, lines_from}
use Rattle.frames.specs.Reading.{most_bytes, plan_kinds, archive_reader, is_at, in_plan, planned, nothing_read, Lists, nothing_said, kind_read, lists_none, head_cause, link_cause, group_cause, cause_in, ends_links, links_cause, end_cause, linked, grouped, after, said_after, Reading, told, reading, plan_reading, archive_reading}
use Rattle.frames.proofs.Archive.{kept_line, kept_end, beside}
use Rattle.writer.specs.Written.{bound_byte, head_line, link_line, link_lines, group_line, group_lines, plan_text}
use Rattle.writer.proofs.Digits.{head_digits, link_digits, group_digits, head_frame, link_frame, group_frame}
use Rattle.writer.proofs.Lines.{head_lines, link_lines_lem, group_lines_lem}
use Rattle.writer.proofs.Laws.{sound_listed, text_length, text_short}

or_false : (x y : Bool) → y ≡ false → x or y ≡ x
unfolding ◌or◌
or_false true y h = refl
or_false false y h = h

with_lt : (w s i : ℕ) → with w s i < 2 ^ w
unfolding with
with_lt w s i = mask_lt w (λ j. mem j s or eqb j i)

-- ---- the rows read after the lines of the first k places

-- every row has just those links of the plan's that stand at a place below k
record Passed (p : Plan) (k : ℕ) (rows : List ℕ) : Type 0 where
  twenty : length rows ≡ 20
  small : (b : ℕ) → b < 20 → get_or rows b 0 < 2 ^ 32
  bits : (a b : ℕ) → a < 32 → b < 20 → mem a (get_or rows b 0) ≡ hears p b a and ltb (20 * a + b) k

none_passed : (p : Plan) → Passed p 0 (replicate 20 0)
none_passed p = record {
  twenty = length-replicate {A = ℕ} 20 0;
  small = λ b h. rw (get_or-replicate {A = ℕ} 20 b 0 0 h) (omega arith);
  bits = λ a b l h. ap (mem a) (get_or-replicate {A = ℕ} 20 b 0 0 h) ∙ mem_zero a ∙ sym (and_no_r _ _ (le-ltb (20 * a + b) 0 (omega arith)));
}

next_place : (x k : ℕ) → (x ≡ k → ⊥) → ltb x k ≡ ltb x (suc k)
next_place x k h =
    same_test _ _ (λ t. let l = ltb-true x k t in lt-ltb x (suc k) (omega arith)) (λ t. let l = ltb-true x (suc k) t in lt-ltb x k (omega arith))

module _ (p : Plan) (k : ℕ) (rows : List ℕ) (passed : Passed p k rows) where
  -- a place other than k
  other_place : (a b : ℕ) → a < 32 → b < 20 → (20 * a + b ≡ k → ⊥) → mem a (get_or rows b 0) ≡ hears p b a and ltb (20 * a + b) (suc k)
  other_place a b l h n = passed.bits a b l h ∙ ap (λ (t : Bool). hears p b a and t) (next_place (20 * a + b) k n)

  place_skipped : hears p (k % 20) (k / 20) ≡ false → Passed p (suc k) rows
  place_skipped e = record { twenty = passed.twenty; small = passed.small; bits = λ a b l h. go a b l h (equal_or_not (20 * a + b) k) }
    where
      go : (a b : ℕ) → a < 32 → b < 20 → (20 * a + b ≡ k) ⊎ (20 * a + b ≡ k → ⊥) → mem a (get_or rows b 0) ≡ hears p b a and ltb (20 * a + b) (suc k)
      go a b l h (inl s) =
          let x : k % 20 ≡ b = omega arith in
          let y : k / 20 ≡ a = omega arith in
          let z : hears p b a ≡ false = rw (x, y) at e in
          passed.bits a b l h ∙ and_no_l _ _ z ∙ sym (and_no_l _ _ z)
      go a b l h (inr n) = other_place a b l h n

  module _ (from to : ℕ) (here : 20 * from + to ≡ k) (t : to < 20) (e : hears p to from ≡ true) where
    abbrev row : ℕ
    row = with 32 (get_or rows to 0) from

    row_bits : (a : ℕ) → a < 32 → (a ≡ from) ⊎ (a ≡ from → ⊥) → mem a row ≡ hears p to a and ltb (20 * a + to) (suc k)
    row_bits a l (inl s) =
        mem_with 32 (get_or rows to 0) from a l ∙ or_r _ _ (eq-eqb a from s)
        ∙ sym (and_i _ _ (ap (hears p to) s ∙ e) (lt-ltb (20 * a + to) (suc k) (omega arith)))
    row_bits a l (inr n) =
        mem_with 32 (get_or rows to 0) from a l ∙ or_false _ _ (ne_eqb a from n) ∙ other_place a to l t (λ z. n (omega arith))

    place_linked : Passed p (suc k) (set rows to row)
    place_linked = record {
      twenty = length-set rows to row ∙ passed.twenty;
      small = λ b h. go_small b h (equal_or_not b to);
      bits = λ a b l h. go_bits a b l h (equal_or_not b to);
    }
      where
        there : to < length rows
        there = omega (arith, passed.twenty)

        same : (b : ℕ) → b ≡ to → get_or (set rows to row) b 0 ≡ row
        same b s = ap (λ (i : ℕ). get_or (set rows to row) i 0) s ∙ get_or-set_same rows to row 0 there

        go_small : (b : ℕ) → b < 20 → (b ≡ to) ⊎ (b ≡ to → ⊥) → get_or (set rows to row) b 0 < 2 ^ 32
        go_small b h (inl s) = rw (same b s) (with_lt 32 (get_or rows to 0) from)
        go_small b h (inr n) = rw (get_or-set_other rows to b row 0 n) (passed.small b h)

        go_bits : (a b : ℕ) → a < 32 → b < 20 → (b ≡ to) ⊎ (b ≡ to → ⊥)
            → mem a (get_or (set rows to row) b 0) ≡ hears p b a and ltb (20 * a + b) (suc k)
        go_bits a b l h (inl s) =
            ap (mem a) (same b s) ∙ row_bits a l (equal_or_not a from)
            ∙ ap (λ (i : ℕ). hears p i a and ltb (20 * a + i) (suc k)) (sym s)
        go_bits a b l h (inr n) =
            ap (mem a) (get_or-set_other rows to b row 0 n) ∙ other_place a b l h (λ z. n (omega arith))

-- ---- the links told

-- what is known after the head and some links: no groups yet
abbrev none_yet : Plan → Bound
none_yet p = record { kind = kind_read (bound_byte p.bound.kind); groups = no_groups }

abbrev progress_with : Plan → List ℕ → Progress
progress_with p rows = planned Links (record { n = p.n; source = p.source; bound = none_yet p; rows = rows }) 0

-- the head's last byte, and what is read of it
pub byte_low : (kind : BoundKind) (n : ℕ) → n ≤ 20 → ((f : ℕ) → kind ≡ Most f → f < n) → bound_byte kind < 256
byte_low (Most f) n t l = let k = l f refl in omega arith
byte_low (Groups count) n t l = omega arith

kind_again : (f : ℕ) → f < 255 → kind_read f ≡ Most f
unfolding kind_read
kind_again f h = pick_no _ _ _ (ne_eqb f 255 (λ e. omega arith))

-- groups are read of ff, whatever their count
range_again : (n source : ℕ) (kind : BoundKind) → ((f : ℕ) → kind ≡ Most f → f < 255) → in_range n source kind ≡ true
    → in_range n source (kind_read (bound_byte kind)) ≡ true
unfolding in_range kind_read pick
range_again n source (Most f) l h = subst (λ (k : BoundKind). in_range n source k ≡ true) (sym (kind_again f (l f refl))) h
range_again n source (Groups count) l h = h

module _ (p : Plan) (s : Sound p) where
  row_lt : (b : ℕ) → b < 20 → heard_by p b < 2 ^ 20
  row_lt b h =
      ⊎_elim (λ k. lt_of_lt_of_le (s.row_below b k) (pow_mono s.twenty)) (λ k. rw (s.rows_above b k h) (omega arith)) (below_or_not b p.n)

  -- a link has both ends below n, and they differ
  link_to : (from to : ℕ) → to < 20 → hears p to from ≡ true → to < p.n
  unfolding hears
  link_to from to h e =
      ⊎_elim (λ k. k) (λ k. clash (sym (ap (mem from) (s.rows_above to k h)) ∙ e) (mem_zero from)) (below_or_not to p.n)

  link_other : (from to : ℕ) → to < 20 → hears p to from ≡ true → from ≡ to → ⊥
  link_other from to h e z = clash (sym (ap (hears p to) z) ∙ e) (s.heard_other to (link_to from to h e))

  -- all places passed: the rows are the plan's
  all_passed : (rows : List ℕ) → length p.rows ≡ 20 → Passed p 400 rows → rows ≡ p.rows
  unfolding hears heard_by
  all_passed rows t passed =
      ext_get_or 0 rows p.rows (passed.twenty ∙ sym t)
      (λ b h.
      let k : b < 20 = omega (arith, passed.twenty) in
      set_ext 32 (get_or rows b 0) (get_or p.rows b 0) (passed.small b k) (omega (arith, row_lt b k))
      (λ a l. passed.bits a b l k ∙ go a b k (below_or_not a 20)))
    where
      go : (a b : ℕ) → b < 20 → (a < 20) ⊎ (20 ≤ a) → mem a (get_or p.rows b 0) and ltb (20 * a + b) 400 ≡ mem a (get_or p.rows b 0)
      go a b k (inl h) = and_swap _ _ ∙ and_yes _ _ (lt-ltb (20 * a + b) 400 (omega arith))
      go a b k (inr h) = let z = mem_above 20 a (get_or p.rows b 0) (row_lt b k) h in and_no_l _ _ z ∙ sym z

  -- a link at place k is not told yet, so it is accepted
  link_accepted : (k : ℕ) (rows : List ℕ) (said : Lists) → Passed p k rows → (from to : ℕ) → 20 * from + to ≡ k → from < 20 → to < 20 → hears p to from ≡ true
      → cause_in (progress_with p rows) said (Link from to) ≡ 0
  unfolding cause_in link_cause is_at hears heard_by
  link_accepted k rows said passed from to here a b e =
      let t : to < p.n = link_to from to b e in
      cause_later _ _ _ (not_yes refl)
      ∙ cause_later _ _ _
      (or_no _ _ (lt-leb p.n from (s.heard_below to from t e)) (or_no _ _ (lt-leb p.n to t) (ne_eqb from to (link_other from to b e))))
      ∙ cause_last _ _ (passed.bits from to (omega arith) b ∙ and_no_r _ _ (le-ltb (20 * from + to) k (omega arith)))

  module _ (t : length p.rows ≡ 20) (said : Lists) where
    link_told : (k j : ℕ) (rows rest : List ℕ) → Passed p k rows → (from to : ℕ) → 20 * from + to ≡ k → from < 20 → to < 20 → hears p to from ≡ true
        → told archive_reader (progress_with p rows) said j (lines_from [] (link_line from to ++ rest))
        ≡ told archive_reader (progress_with p (set rows to (with 32 (get_or rows to 0) from))) said (j + 1) (lines_from [] rest)
    unfolding after linked said_after heard_by end_cause ends_links pick
    link_told k j rows rest passed from to here a b e =
        ap (told archive_reader (progress_with p rows) said j) (link_lines_lem from to rest)
        ∙ kept_line plan_kinds (progress_with p rows) said j (link_digits from to) (lines_from [] rest) (Link from to) (link_frame from to (omega arith) (omega arith)) refl
        (link_accepted k rows said passed from to here a b e)

    -- from some line on, the file is what follows the links
    Then : List ℕ → Reading → Type 0
    Then rest r = (i : ℕ) × (r ≡ told archive_reader (progress_with p p.rows) said i (lines_from [] rest))

    links_told : (rest : List ℕ) (m k j : ℕ) (rows : List ℕ) → k + m ≡ 400 → Passed p k rows
        → Then rest (told archive_reader (progress_with p rows) said j (lines_from [] (link_lines p m k ++ rest)))
    unfolding link_lines Then
    links_told rest zero k j rows e passed = (
      j,
      ap (λ (r : List ℕ). told archive_reader (progress_with p r) said j (lines_from [] rest))
          (all_passed rows t (subst (λ (i : ℕ). Passed p i rows) (omega arith) passed)),
    )
    links_told rest (suc m) k j rows e passed =
        pick_case (λ (l : List ℕ). Then rest (told archive_reader (progress_with p rows) said j (lines_from [] ((l ++ link_lines p m (suc k)) ++ rest))))
        (hears p (k % 20) (k / 20)) (link_line (k / 20) (k % 20)) []
        (λ h.
        let here : 20 * (k / 20) + k % 20 ≡ k = omega arith in
        let a : k / 20 < 20 = omega arith in
        let b : k % 20 < 20 = omega arith in
        let then =
        links_told rest m (suc k) (j + 1) (set rows (k % 20) (with 32 (get_or rows (k % 20) 0) (k / 20))) (omega arith)
        (place_linked p k rows passed (k / 20) (k % 20) here b h) in (
          then.0,
          ap (λ (l : List ℕ). told archive_reader (progress_with p rows) said j (lines_from [] l)) (append_assoc (link_line (k / 20) (k % 20)) (link_lines p m (suc k)) rest)
              ∙ link_told k j rows (link_lines p m (suc k) ++ rest) passed (k / 20) (k % 20) here a b h
              ∙ then.1,
        ))
        (λ h. links_told rest m (suc k) j rows (omega arith) (place_skipped p k rows passed h))

    head_told_cause : in_range p.n p.source p.bound.kind ≡ true → cause_in nothing_read said (Head p.n p.source (bound_byte p.bound.kind)) ≡ 0
    unfolding cause_in head_cause is_at
    head_told_cause r =
        cause_later _ _ _ (not_yes refl)
        ∙ cause_last _ _ (not_yes (range_again p.n p.source p.bound.kind (λ f m. let l = s.f_below f m in let t = s.twenty in omega arith) r))

    head_told : (rest : List ℕ) → in_range p.n p.source p.bound.kind ≡ true
        → told archive_reader nothing_read said 1 (lines_from [] (head_line p ++ rest)) ≡ told archive_reader (progress_with p (replicate 20 0)) said 2 (lines_from [] rest)
    unfolding is_at after said_after end_cause ends_links links_cause in_plan first_cause pick ◌and◌ ◌or◌
    head_told rest r =
        let n : p.n < 256 = omega (arith, s.twenty) in
        let source : p.source < 256 = omega (arith, s.source_below) in
        let f : bound_byte p.bound.kind < 256 = byte_low p.bound.kind p.n s.twenty s.f_below in
        ap (told archive_reader nothing_read said 1) (head_lines p rest)
        ∙ kept_line plan_kinds nothing_read said 1 (head_digits p.n p.source (bound_byte p.bound.kind)) (lines_from [] rest)
        (Head p.n p.source (bound_byte p.bound.kind)) (head_frame p.n p.source (bound_byte p.bound.kind) n source f) refl
        (head_told_cause r)

-- ---- the groups told

-- the first i groups, and nothing after them
first_groups : Plan → ℕ → List ℕ
first_groups p zero = no_groups
first_groups p (suc i) = set (first_groups p i) i (group_at p.bound i)

first_length : (p : Plan) (i : ℕ) → length (first_groups p i) ≡ 16
unfolding first_groups
first_length p zero = length-replicate {A = ℕ} 16 0
first_length p (suc i) = length-set (first_groups p i) i (group_at p.bound i) ∙ first_length p i

first_at : (p : Plan) (i j : ℕ) → i ≤ 16 → j < 16 → get_or (first_groups p i) j 0 ≡ pick (ltb j i) (group_at p.bound j) 0
unfolding first_groups
first_at p zero j h k = get_or-replicate {A = ℕ} 16 j 0 0 k ∙ sym (pick_no _ _ _ (le-ltb j 0 (omega arith)))
first_at p (suc i) j h k =
    ⊎_elim
    (λ e.
    ap (λ (x : ℕ). get_or (set (first_groups p i) i (group_at p.bound i)) x 0) e
    ∙ get_or-set_same (first_groups p i) i (group_at p.bound i) 0 (omega (arith, first_length p i))
    ∙ sym (ap (group_at p.bound) e)
    ∙ sym (pick_yes _ _ _ (lt-ltb j (suc i) (omega arith))))
    (λ n.
    get_or-set_other (first_groups p i) i j (group_at p.bound i) 0 n
    ∙ first_at p i j (omega arith) k
    ∙ ap (λ (b : Bool). pick b (group_at p.bound j) 0) (next_place j i n))
    (equal_or_not j i)

-- a group is a number of three bytes
pub group_low : (p : Plan) → cause_of p ≡ 0 → (i : ℕ) → i < 16 → group_at p.bound i < 16777216
unfolding others within
group_low p e i k =
    let s = sound p e in
    let l = lt_of_lt_of_le (ltb-true (group_at p.bound i) (2 ^ p.n) (and_l _ _ (s.group_others i k))) (pow_mono s.twenty) in
    omega arith

module _ (p : Plan) (e : cause_of p ≡ 0) (u : length p.bound.groups ≡ 16) where
  -- all that are listed are all
  all_groups : first_groups p (listed p.bound.kind) ≡ p.bound.groups
  unfolding group_at groups_sound
  all_groups =
      ext_get_or 0 (first_groups p (listed p.bound.kind)) p.bound.groups (first_length p (listed p.bound.kind) ∙ sym u)
      (λ j h.
      let k : j < 16 = omega (arith, first_length p (listed p.bound.kind)) in
      let place = all_at 16 (λ i. pick (ltb i (listed p.bound.kind)) (others p.n p.source (group_at p.bound i)) (eqb (group_at p.bound i) 0)) (and_r _ _ (tests p e).groups) j k in
      first_at p (listed p.bound.kind) j (sound_listed p e) k
      ∙ ⊎_elim (λ b. pick_yes _ _ _ b)
      (λ b. pick_no _ _ _ b ∙ sym (eqb-true (group_at p.bound j) 0 (sym (pick_no _ _ _ b) ∙ place)))
      (decide (ltb j (listed p.bound.kind))))

  module _ (said : Lists) where
    -- i groups are known; the stage tells whether there is one
    abbrev progress_after : Stage → ℕ → Progress
    progress_after stage i = planned stage (record { n = p.n; source = p.source; bound = record { kind = Groups i; groups = first_groups p i }; rows = p.rows }) 0

    group_told : (stage : Stage) → in_plan (progress_after stage 0) ≡ true → (i j : ℕ) (rest : List ℕ) → i < 16
        → told archive_reader (progress_after stage i) said j (lines_from [] (group_line (group_at p.bound i) ++ rest))
        ≡ told archive_reader (progress_after Grouped (suc i)) said (j + 1) (lines_from [] rest)
    unfolding after grouped said_after end_cause ends_links pick first_groups cause_in group_cause in_plan is_at
    group_told stage h i j rest k =
        ap (told archive_reader (progress_after stage i) said j) (group_lines_lem (group_at p.bound i) rest)
        ∙ kept_line plan_kinds (progress_after stage i) said j (group_digits (group_at p.bound i)) (lines_from [] rest) (Group (group_at p.bound i))
        (group_frame (group_at p.bound i) (group_low p e i k)) refl
        (cause_later _ _ _ (not_yes (and_i _ _ h refl))
        ∙ cause_last _ _ (not_yes (and_i _ _ (lt-ltb i 16 k) ((sound p e).group_others i k))))
        ∙ ap (λ (c : ℕ). told archive_reader (planned Grouped (record { n = p.n; source = p.source; bound = record { kind = Groups c; groups = first_groups p (suc i) }; rows = p.rows }) 0) said (j + 1) (lines_from [] rest)) (add-one i)

    groups_told : (m i j : ℕ) → suc i + m ≤ 16
        → told archive_reader (progress_after Grouped (suc i)) said j (lines_from [] (group_lines p.bound.groups m (suc i)))
        ≡ record { number = 0; line = 0; progress = progress_after Grouped (suc i + m); said = said }
    unfolding group_lines group_at lines_from last_line in_plan is_at ◌or◌
    groups_told zero i j h =
        kept_end plan_kinds (progress_after Grouped (suc i)) said j (ne_eqb (suc i) 0 (λ z. omega arith))
        ∙ ap (λ (c : ℕ). record { number = 0; line = 0; progress = progress_after Grouped c; said = said }) (sym (add-zero (suc i)))
    groups_told (suc m) i j h =
        group_told Grouped refl (suc i) j (group_lines p.bound.groups m (suc (suc i))) (omega arith)
        ∙ groups_told m (suc i) (j + 1) (omega arith)
        ∙ ap (λ (c : ℕ). record { number = 0; line = 0; progress = progress_after Grouped c; said = said }) (let q : suc (suc i) + m ≡ suc i + suc m = omega arith in q)

-- ---- the text

-- the last stage of a plan file: links, or groups where they are listed
abbrev pub last_stage : BoundKind → Stage
last_stage (Most f) = Links
last_stage (Groups count) = Grouped

-- what is read of a text that has this plan alone
abbrev pub as_read : Plan → Reading
as_read p = record {
  number = 0;
  line = 0;
  progress = planned (last_stage p.bound.kind) p 0;
  said = nothing_said;
}

module _ (p : Plan) (e : cause_of p ≡ 0) (t : length p.rows ≡ 20) (u : length p.bound.groups ≡ 16) (said : Lists) where
  -- what is read of the plan, with this kind of bound
  abbrev Whole : BoundKind → Reading
  Whole kind = record {
    number = 0;
    line = 0;
    progress = planned (last_stage kind) (record { n = p.n; source = p.source; bound = record { kind = kind; groups = p.bound.groups }; rows = p.rows }) 0;
    said = said;
  }

  abbrev linked_by : BoundKind → Progress
  linked_by kind = planned Links (record { n = p.n; source = p.source; bound = record { kind = kind_read (bound_byte kind); groups = no_groups }; rows = p.rows }) 0

  -- a plan has a group, if it lists them
  some_listed : (count : ℕ) → p.bound.kind ≡ Groups count → 1 ≤ count
  unfolding groups_sound
  some_listed count m =
      leb-true 1 count (and_l _ _ (subst (λ (k : BoundKind). listed_sound k ≡ true) m (and_l _ _ (tests p e).groups)))

  groups_are : (count : ℕ) → listed p.bound.kind ≡ count → first_groups p count ≡ p.bound.groups
  groups_are count l = sym (ap (first_groups p) l) ∙ all_groups p e u

  ends : (kind : BoundKind) → p.bound.kind ≡ kind → (j : ℕ)
      → told archive_reader (linked_by kind) said j (lines_from [] (group_lines p.bound.groups (listed kind) 0)) ≡ Whole kind
  unfolding group_lines group_at lines_from last_line first_groups kind_read pick in_plan is_at ◌or◌
  ends (Most f) m j =
      let s = sound p e in
      let l = s.f_below f m in
      let same : kind_read f ≡ Most f = kind_again f (let n = s.twenty in omega arith) in
      kept_end plan_kinds (linked_by (Most f)) said j (ap lists_none same)
      ∙ ap₂ (λ (k : BoundKind) (g : List ℕ). record {
        number = 0;
        line = 0;
        progress = planned Links (record { n = p.n; source = p.source; bound = record { kind = k; groups = g }; rows = p.rows }) 0;
        said = said;
      }) same (groups_are 0 (ap listed m))
  ends (Groups zero) m j = absurd (let l = some_listed zero m in omega arith)
  ends (Groups (suc count)) m j =
      let most : suc count ≤ 16 = subst (λ (k : BoundKind). listed k ≤ 16) m (sound_listed p e) in
      group_told p e u said Links refl 0 j (group_lines p.bound.groups count 1) (omega arith)
      ∙ groups_told p e u said count 0 (j + 1) (omega arith)
      ∙ ap₂ (λ (c : ℕ) (g : List ℕ). record {
        number = 0;
        line = 0;
        progress = planned Grouped (record { n = p.n; source = p.source; bound = record { kind = Groups c; groups = g }; rows = p.rows }) 0;
        said = said;
      }) (let q : suc zero + count ≡ suc count = omega arith in q) (ap (first_groups p) (let q : suc zero + count ≡ suc count = omega arith in q) ∙ groups_are (suc count) (ap listed m))

  text_told : told archive_reader nothing_read said 1 (lines_from [] (plan_text p)) ≡ Whole p.bound.kind
  unfolding plan_text Then
  text_told =
      let groups = group_lines p.bound.groups (listed p.bound.kind) 0 in
      let then = links_told p (sound p e) t said groups 400 0 2 (replicate 20 0) refl (none_passed p) in
      head_told p (sound p e) t said (link_lines p 400 0 ++ groups) (tests p e).range
      ∙ then.1
      ∙ ends p.bound.kind refl then.0

-- by the archive
module _ (p : Plan) (e : cause_of p ≡ 0) (t : length p.rows ≡ 20) (u : length p.bound.groups ≡ 16) where
  pub read_back : archive_reading (plan_text p) ≡ as_read p
  unfolding archive_reading reading
  read_back =
      let short = text_short p e in
      let long = text_length p in
      pick_yes _ _ _ (and_i _ _ (le-leb 1 (length (plan_text p)) (omega arith)) (le-leb (length (plan_text p)) most_bytes (omega arith)))
      ∙ text_told p e t u nothing_said

  -- and where nobody is deaf, by the reader of new plans too
  pub read_new : deaf_set p ≡ 0 → plan_reading (plan_text p) ≡ as_read p
  read_new d =
      (beside (plan_text p)).nobody_deaf (ap (λ (r : Reading). r.number) read_back) (ap (λ (r : Reading). deaf_set r.progress.plan) read_back ∙ d)
      ∙ read_back
