-- What the verdict's answer tells of a bound, which records are refused, and how many bounds are counted. Assumes nothing.
use Prim.Native.Nat.{ℕ, suc, ◌-◌, ◌≤◌, ◌<◌}
use mathlib.Core.Path.{◌≡◌, refl, sym, ap, ap₂, ◌∙◌, subst}
use mathlib.Core.Logic.{⊎_elim}
use mathlib.Core.Bool.{Bool, true, false}
use native.Mathlib.Omega.{arith}
use borrow.Author.Tests.{lt-ltb, eq-eqb, ne_eqb, eqb-true}
use lib.Dec.{eqb}
use Rattle.std.specs.Prelude.{Option, Some, None, is_none, Result, Ok, Err, MatchResult}
use Rattle.std.specs.Option.{SomeIff}
use Rattle.std.specs.Result.{IsErrAnd}
use Rattle.sets.specs.Tests.{◌and◌, pick}
use Rattle.sets.specs.Sets.{all}
use Rattle.sets.proofs.Bools.{clash, decide, and_l, and_r, and_i, not_i, no_by, pick_yes, pick_no, pick_case}
use Rattle.sets.proofs.Causes.{cause_here}
use Rattle.quorum.specs.declared.BoundKind.TheVariants.{Most}
use Rattle.quorum.specs.Quorum.{at_most, in_range, groups_sound, group_at}
use Rattle.plan.specs.declared.Plan.{Plan}
use Rattle.plan.specs.declared.Unsound.{Unsound}
use Rattle.plan.specs.declared.Unsound.TheVariants as unsound
use Rattle.plan.specs.Plan.{number_of, heard_by, links_sound, cause_of}
use Rattle.plan.proofs.Laws.{range_cause, later_cause_lem, tests, tested, sound}
use Rattle.closure.specs.Verdict.{verdict}
use Rattle.closure.specs.Answer.{Answer, judged, answer_within, answer_of}
use Rattle.tolerance.specs.declared.Drawing.{Drawing}
use Rattle.tolerance.specs.declared.DrawingError.{DrawingError}
use Rattle.tolerance.specs.Greatest.{with_bound, passes_with, Tolerance, none, greatest, height}
use Rattle.tolerance.specs.Answer.{Told, of_plan, told, greatest_of}
use Rattle.partition.specs.declared.Witness.{Witness}
use Rattle.partition.specs.declared.VerdictError.{VerdictError}
use Rattle.partition.specs.declared.VerdictError.TheVariants as verdict_error
use Rattle.partition.specs.Answer.{answered}
use Rattle.partition.proofs.Laws.{err_of}
use Rattle.tolerance.proofs.Heights.{same_height, highest, highest_only}
use Rattle.tolerance.proofs.Links.{smaller}

-- ---- the verdict's answer

module _ (p : Plan) (z : cause_of p ≡ 0) where
  answer_is : answer_of p ≡ judged (verdict p)
  unfolding answer_of answer_within cause_of
  answer_is = pick_yes _ _ _ (eq-eqb _ 0 z)

  number_is : (answer_of p).number ≡ 0
  unfolding judged
  number_is = ap (λ (x : Answer). x.number) answer_is

  failed_is : (answer_of p).failed ≡ pick (verdict p).passed 0 1
  unfolding judged
  failed_is = ap (λ (x : Answer). x.failed) answer_is

-- ---- the records

refuses : (x : VerdictError) → (answered (Err x)).number ≡ 0 → ⊥
refuses verdict_error.WrongRange y = omega arith
refuses verdict_error.TooMany y = omega arith
refuses verdict_error.WrongLink y = omega arith
refuses verdict_error.WrongGroups y = omega arith

module _ (d : Drawing) where
  pub greatest_sound : cause_of (with_bound d 0) ≡ 0 → greatest_of d ≡ record { number = 0; passed = greatest d }
  unfolding greatest_of
  greatest_sound z = pick_yes _ _ _ (eq-eqb (cause_of (with_bound d 0)) 0 z)

  -- a drawing that is sound with one bound is so with every other below n
  sound_other : (f g : ℕ) → cause_of (with_bound d f) ≡ 0 → g < d.n → cause_of (with_bound d g) ≡ 0
  unfolding in_range links_sound heard_by groups_sound group_at
  sound_other f g z l =
      let t = tests (with_bound d f) z in
      let r = t.range in
      tested (with_bound d g)
      (record {
        range = and_i _ _ (and_l _ _ r) (and_i _ _ (and_l _ _ (and_r _ _ r)) (and_i _ _ (and_l _ _ (and_r _ _ (and_r _ _ r))) (lt-ltb g d.n l)));
        links = t.links;
        groups = t.groups;
      })

  pub sound_zero : (f : ℕ) → cause_of (with_bound d f) ≡ 0 → cause_of (with_bound d 0) ≡ 0
  sound_zero f z = let l = (sound (with_bound d f) z).source_below in sound_other f 0 z (omega arith)

  module _ (z : cause_of (with_bound d 0) ≡ 0) where
    pub sound_with : (f : ℕ) → f < d.n → cause_of (with_bound d f) ≡ 0
    sound_with f l = sound_other 0 f z l

    -- what is answered of the plan with a bound
    module _ (f : ℕ) (l : f < d.n) (q : Plan) (e : q ≡ with_bound d f) (a : Answer) (t : a ≡ answer_of q) where
      told_as : a ≡ answer_of (with_bound d f)
      told_as = t ∙ ap answer_of e

      pub never_refused : (a.number ≡ 0 → ⊥) → ⊥
      never_refused some = some (ap (λ (x : Answer). x.number) told_as ∙ number_is (with_bound d f) (sound_with f l))

      pub told_pass : a.failed ≡ 0 → true ≡ passes_with d f
      unfolding passes_with
      told_pass h =
          let u = ap (λ (x : Answer). x.failed) told_as ∙ failed_is (with_bound d f) (sound_with f l) in
          ⊎_elim (λ v. sym v) (λ v. let w = u ∙ pick_no _ 0 1 v in absurd (omega arith)) (decide (verdict (with_bound d f)).passed)

      pub told_fail : a.failed ≡ 1 → false ≡ passes_with d f
      unfolding passes_with
      told_fail h =
          let u = ap (λ (x : Answer). x.failed) told_as ∙ failed_is (with_bound d f) (sound_with f l) in
          sym (no_by (λ v. let w = u ∙ pick_yes _ 0 1 v in omega arith))

  -- it passes exactly where the verdict is a pass
  module _ (z : cause_of (with_bound d 0) ≡ 0) where
    pub passes_told : (f : ℕ) → f < d.n → (q : Plan) → q ≡ with_bound d f → (j : Result (Option Witness) VerdictError) → answered j ≡ answer_of q
        → (b : Bool) → MatchResult j (λ w. b ≡ is_none w) (λ x. b ≡ false) → b ≡ passes_with d f
    passes_told f l q e (Ok None) t b h = h ∙ told_pass z f l q e _ t refl
    passes_told f l q e (Ok (Some w)) t b h = h ∙ told_fail z f l q e _ t refl
    passes_told f l q e (Err x) t b h = absurd (never_refused z f l q e _ t (refuses x))

    pub source_below : d.source < d.n
    source_below = (sound (with_bound d 0) z).source_below

    pub twenty : d.n ≤ 20
    twenty = (sound (with_bound d 0) z).twenty

    -- counted upwards: the first that fails, or n where none does
    pub counted : (f : ℕ) → f ≤ d.n → ((g : ℕ) → suc g ≡ f → passes_with d g ≡ true) → passes_with d f ≡ false → f ≡ height (greatest d)
    counted f l last fails =
        highest_only d d.n _ _
        (record { most = l; above = λ g m k. no_by (λ t. clash (smaller d source_below g f m t) fails); last = last }) (highest d)

    pub counted_all : (f : ℕ) → f ≡ d.n → ((g : ℕ) → suc g ≡ f → passes_with d g ≡ true) → f ≡ height (greatest d)
    counted_all f e last =
        highest_only d d.n _ _ (record { most = omega arith; above = λ g m k. absurd (omega arith); last = last }) (highest d)

    pub told_greatest : (r : Result (Option ℕ) DrawingError) → (told r).number ≡ 0 → height (told r).passed ≡ height (greatest d) → told r ≡ greatest_of d
    told_greatest r n h = told_both (told r) n (same_height _ _ h) ∙ sym (greatest_sound z)
      where
        told_both : (t : Told) → t.number ≡ 0 → t.passed ≡ greatest d → t ≡ record { number = 0; passed = greatest d }
        told_both t n p = ap₂ (λ (a : ℕ) (b : Tolerance). record { number = a; passed = b }) n p

    -- the last of so many
    pub told_last : (last : Option ℕ) (k : ℕ) → SomeIff last (1 ≤ k) (k - 1) → k ≡ height (greatest d) → told (Ok last) ≡ greatest_of d
    told_last None k h e = told_greatest (Ok None) refl (omega arith)
    told_last (Some f) k h e = told_greatest (Ok (Some f)) refl (omega arith)

  -- at most twenty bounds pass, and none of a record that is refused
  pub height_small : (t : Told) → t ≡ greatest_of d → height t.passed ≤ 20
  unfolding greatest_of
  height_small t e =
      subst (λ (x : Told). height x.passed ≤ 20) (sym e)
      (pick_case (λ (x : Told). height x.passed ≤ 20) (eqb (cause_of (with_bound d 0)) 0) _ _
      (λ z. let m = (highest d).most in let w = twenty (eqb-true (cause_of (with_bound d 0)) 0 z) in omega arith) (λ z. omega arith))

  pub told_refused : (k : ℕ) → suc k ≡ cause_of (with_bound d 0) → record { number = suc k; passed = none } ≡ greatest_of d
  unfolding greatest_of
  told_refused k e =
      ap (λ (c : ℕ). record { number = c; passed = none }) e
      ∙ sym (pick_no _ _ _ (ne_eqb (cause_of (with_bound d 0)) 0 (λ z. omega arith)))

  -- a drawing lists no groups, so none is wrong
  groups_sound_lem : groups_sound d.n d.source (at_most 0) ≡ true
  unfolding groups_sound group_at all ◌and◌ pick
  groups_sound_lem = refl

  pub never_seventeen : cause_of (with_bound d 0) ≡ 17 → ⊥
  never_seventeen e =
      ⊎_elim
      (λ r.
      ⊎_elim (λ l. let t = tested (with_bound d 0) (record { range = r; links = l; groups = groups_sound_lem }) in omega arith)
      (λ l. let t = later_cause_lem (with_bound d 0) r ∙ cause_here _ 5 _ (not_i l) in omega arith) (decide (links_sound (with_bound d 0))))
      (λ r. let t = range_cause (with_bound d 0) r in omega arith) (decide (in_range d.n d.source (Most 0)))

  -- what refuses the plan, handed on as the answer
  pub plan_refused : (e : Unsound) (r : Result (Option ℕ) DrawingError) → IsErrAnd r (λ x. x ≡ of_plan e) → number_of (Err e) ≡ cause_of (with_bound d 0)
      → told r ≡ greatest_of d
  plan_refused unsound.WrongRange r k h = rw (err_of r _ k) (told_refused 3 h)
  plan_refused unsound.WrongLink r k h = rw (err_of r _ k) (told_refused 4 h)
  plan_refused unsound.WrongGroups r k h = absurd (never_seventeen (sym h))
