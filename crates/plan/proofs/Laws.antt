-- What a plan record is that the check finds sound. Assumes nothing.
use Prim.Native.Nat.{ℕ, ◌≤◌, ◌<◌, ◌^◌}
use mathlib.Core.Path.{◌≡◌, refl, sym, ◌∙◌, subst}
use mathlib.Core.Logic.{⊎_elim}
use mathlib.Core.Bool.{true, false, not}
use mathlib.Core.List.{[], ◌∷◌}
use native.Mathlib.Nat.{lt_of_lt_of_le}
use native.Mathlib.Omega.{arith}
use lib.Dec.{eqb, ltb}
use borrow.Author.Tests.{leb-true, ltb-true, ltb-false, eqb-true, lt-ltb, le-ltb}
use Rattle.sets.specs.Tests.{◌and◌}
use Rattle.sets.specs.Causes.{◌gives◌, first_cause}
use Rattle.sets.specs.Sets.{mem, within}
use Rattle.sets.proofs.Bools.{decide, and_l, and_r, and_yes, and_no_r, not_e, not_i, pick_yes, pick_no, not_yes, not_no}
use Rattle.sets.proofs.Causes.{cause_here, cause_later, cause_last, cause_none, lacks, cause_lacks}
use Rattle.sets.proofs.Laws.{all_at, mem_below}
use Rattle.quorum.specs.declared.BoundKind.{BoundKind}
use Rattle.quorum.specs.declared.BoundKind.TheVariants.{Most}
use Rattle.quorum.specs.Quorum.{most_terminals, most_groups, group_at, kind_in_range, in_range, others, groups_sound}
use Rattle.quorum.proofs.Laws.{groups_others}
use Rattle.plan.specs.declared.Plan.{Plan}
use Rattle.plan.specs.Plan.{heard_by, hears, row_sound, links_sound, cause_within, cause_of, too_many}

-- the parts of a sound plan
pub record Sound (p : Plan) : Type 0 where
  pub two : 2 ≤ p.n
  pub twenty : p.n ≤ 20
  pub source_below : p.source < p.n
  pub f_below : (f : ℕ) → p.bound.kind ≡ Most f → f < p.n
  pub group_others : (i : ℕ) → i < most_groups → others p.n p.source (group_at p.bound i) ≡ true
  pub heard_below : (b a : ℕ) → b < p.n → hears p b a ≡ true → a < p.n
  pub heard_other : (b : ℕ) → b < p.n → hears p b b ≡ false
  pub row_below : (b : ℕ) → b < p.n → heard_by p b < 2 ^ p.n
  pub rows_above : (b : ℕ) → p.n ≤ b → b < 20 → heard_by p b ≡ 0

pub record Tests (p : Plan) : Type 0 where
  pub range : in_range p.n p.source p.bound.kind ≡ true
  pub links : links_sound p ≡ true
  pub groups : groups_sound p.n p.source p.bound ≡ true

-- ---- the causes within a limit, and without one

module _ (most : ℕ) (p : Plan) where
  out_of_range : in_range p.n p.source p.bound.kind ≡ false → cause_within most p ≡ 4
  unfolding cause_within
  out_of_range h = cause_here _ 4 _ (not_i h)

  module _ (range : in_range p.n p.source p.bound.kind ≡ true) where
    cause_above : most < p.n → cause_within most p ≡ 14
    unfolding cause_within
    cause_above h = cause_later _ 4 _ (not_yes range) ∙ cause_here _ 14 _ (lt-ltb most p.n h)

    cause_below : p.n ≤ most
        → cause_within most p ≡ first_cause (not (links_sound p) gives 5 ∷ not (groups_sound p.n p.source p.bound) gives 17 ∷ [])
    unfolding cause_within
    cause_below h = cause_later _ 4 _ (not_yes range) ∙ cause_later _ 14 _ (le-ltb most p.n h)

  tests_within : cause_within most p ≡ 0 → Tests p
  unfolding cause_within
  tests_within h =
      let range = cause_none _ 4 _ (λ z. omega arith) h in
      let below = cause_none _ 14 _ (λ z. omega arith) range.1 in
      let links = cause_none _ 5 _ (λ z. omega arith) below.1 in
      let groups = cause_none _ 17 [] (λ z. omega arith) links.1 in
      record { range = not_no _ range.0; links = not_no _ links.0; groups = not_no _ groups.0 }

in_range_twenty : (p : Plan) → in_range p.n p.source p.bound.kind ≡ true → p.n ≤ most_terminals
unfolding in_range
in_range_twenty p h = leb-true p.n 20 (and_l _ _ (and_r _ _ h))

-- the planner's limit is no other than that of a plan's range
module _ (p : Plan) where
  pub range_cause : in_range p.n p.source p.bound.kind ≡ false → cause_of p ≡ 4
  unfolding cause_of
  range_cause h = out_of_range most_terminals p h

  pub later_cause_lem : in_range p.n p.source p.bound.kind ≡ true
      → cause_of p ≡ first_cause (not (links_sound p) gives 5 ∷ not (groups_sound p.n p.source p.bound) gives 17 ∷ [])
  unfolding cause_of
  later_cause_lem h = cause_below most_terminals p h (in_range_twenty p h)

  pub tests : cause_of p ≡ 0 → Tests p
  unfolding cause_of
  tests h = tests_within most_terminals p h

  -- and the other way
  pub tested : Tests p → cause_of p ≡ 0
  tested t = later_cause_lem t.range ∙ cause_later _ 5 _ (not_yes t.links) ∙ cause_last _ 17 (not_yes t.groups)

  -- so nobody is refused by it
  pub not_fourteen : cause_of p ≡ 14 → ⊥
  unfolding lacks ◌and◌
  not_fourteen h =
      ⊎_elim (λ r. cause_lacks 14 _ (λ z. omega arith) refl (sym (later_cause_lem r) ∙ h)) (λ r. let e = range_cause r in omega arith)
      (decide (in_range p.n p.source p.bound.kind))

-- what is sound within a limit is sound
pub within_sound : (most : ℕ) (p : Plan) → cause_within most p ≡ 0 → cause_of p ≡ 0
within_sound most p h = tested p (tests_within most p h)

-- a limit refuses those in range with more terminals by 14, and changes nothing for all others
module _ (most : ℕ) (p : Plan) where
  pub many_cause : too_many most p ≡ true → cause_within most p ≡ 14
  unfolding too_many
  many_cause h = cause_above most p (and_l _ _ h) (ltb-true most p.n (and_r _ _ h))

  pub few_cause : too_many most p ≡ false → cause_within most p ≡ cause_of p
  unfolding too_many
  few_cause h =
      ⊎_elim
      (λ r. cause_below most p r (ltb-false most p.n (sym (and_yes _ _ r) ∙ h)) ∙ sym (later_cause_lem p r))
      (λ r. out_of_range most p r ∙ sym (range_cause p r)) (decide (in_range p.n p.source p.bound.kind))

  pub few_terminals : p.n ≤ most → too_many most p ≡ false
  unfolding too_many
  few_terminals h = and_no_r _ _ (le-ltb most p.n h)

pub row_of : (p : Plan) → links_sound p ≡ true → (b : ℕ) → b < p.n → p.n ≤ 20 → others p.n b (heard_by p b) ≡ true
unfolding links_sound row_sound
row_of p l b k t =
    sym (pick_yes (ltb b p.n) (others p.n b (heard_by p b)) (eqb (heard_by p b) 0) (lt-ltb b p.n k))
    ∙ all_at 20 (λ b. row_sound p.n b (heard_by p b)) l b (lt_of_lt_of_le k t)

above_of : (p : Plan) → links_sound p ≡ true → (b : ℕ) → p.n ≤ b → b < 20 → heard_by p b ≡ 0
unfolding links_sound row_sound
above_of p l b k t =
    eqb-true (heard_by p b) 0
    (sym (pick_no (ltb b p.n) (others p.n b (heard_by p b)) (eqb (heard_by p b) 0) (le-ltb b p.n k))
    ∙ all_at 20 (λ b. row_sound p.n b (heard_by p b)) l b t)

f_in_range : (n : ℕ) (kind : BoundKind) → kind_in_range n kind ≡ true → (f : ℕ) → kind ≡ Most f → f < n
f_in_range n kind h f e = ltb-true f n (subst (λ (k : BoundKind). kind_in_range n k ≡ true) e h)

pub sound : (p : Plan) → cause_of p ≡ 0 → Sound p
unfolding in_range others within hears
sound p e =
    let t = tests p e in
    let two : 2 ≤ p.n = leb-true 2 p.n (and_l _ _ t.range) in
    let twenty : p.n ≤ 20 = leb-true p.n 20 (and_l _ _ (and_r _ _ t.range)) in
    let source_below : p.source < p.n = ltb-true p.source p.n (and_l _ _ (and_r _ _ (and_r _ _ t.range))) in
    record {
      two = two;
      twenty = twenty;
      source_below = source_below;
      f_below = f_in_range p.n p.bound.kind (and_r _ _ (and_r _ _ (and_r _ _ t.range)));
      group_others = groups_others p.n p.source p.bound t.groups;
      heard_below =
          λ b a k h. mem_below p.n a (heard_by p b) (ltb-true (heard_by p b) (2 ^ p.n) (and_l _ _ (row_of p t.links b k twenty))) h;
      row_below = λ b k. ltb-true (heard_by p b) (2 ^ p.n) (and_l _ _ (row_of p t.links b k twenty));
      rows_above = above_of p t.links;
      heard_other = λ b k. not_e (mem b (heard_by p b)) (and_r _ _ (row_of p t.links b k twenty));
    }
