-- The table of a sheet is that of its plan. Assumes nothing.
use Prim.Native.Nat.{ℕ, ◌≤◌, ◌<◌}
use mathlib.Core.Path.{◌≡◌, refl, sym, ap, ◌∙◌, subst}
use mathlib.Core.Bool.{Bool, true, false, not}
use mathlib.Core.List.{List}
use native.Mathlib.Omega.{arith}
use lib.Dec.{eqb, ltb}
use lib.IntN.{ℤ, pos}
use lib.ListN.{length, get_or}
use lib.Signed.{lt_z, le_z}
use borrow.Author.Tests.{eq-eqb, ne_eqb, lt-ltb}
use Rattle.sets.specs.Tests.{◌and◌, pick}
use Rattle.sets.specs.Sets.{count}
use Rattle.sets.proofs.Bools.{pick_yes, pick_no, pick_case}
use Rattle.sets.proofs.Laws.{count_cong, count_width}
use Rattle.sets.proofs.Tables.{table_at}
use Rattle.plan.specs.declared.Plan.{Plan}
use Rattle.plan.specs.Plan.{hears}
use Rattle.plan.proofs.Laws.{sound}
use Rattle.closure.specs.Margin.{margin, is_direct, has_margin, direct_ones, below_zero, at_zero, above_zero}
use Rattle.partition.specs.declared.Standing.{Standing}
use Rattle.partition.specs.declared.Standing.TheVariants.{Source, Direct, Margin, Absent}
use Rattle.std.specs.Prelude.{Ok, Err}
use Rattle.partition.specs.declared.MarginsError.{MarginsError}
use Rattle.partition.specs.declared.MarginsError.TheVariants.{WrongRange, WrongLink}
use Rattle.partition.specs.Margins.{standing_of, margins_cause, margins_of, told}
use Rattle.partition.proofs.Sheets.{stands_absent, bounded_plan, margin_small, sheet_known, sheet_refused}
use Rattle.text.specs.Texts.{joined, written_of, put_into}
use Rattle.text.proofs.Laws.{room_for}
use Rattle.frames.specs.declared.Progress.{Progress}
use Rattle.frames.specs.declared.Refusal.{Refusal}
use Rattle.frames.specs.Reading.{FileRead}
use Rattle.frames.specs.Causes.{number, answer}
use Rattle.output.specs.declared.Written.{Written}
use Rattle.output.specs.OnFile.{refusal_line, on_line, answer_on}
use Rattle.output.proofs.Laws.{put_accepted, put_refused}
use Rattle.margin_output.specs.declared.Tally.{Tally}
use Rattle.margin_output.specs.Margins.{standing_lines, counts_line, margins_lines, margins_answer, margins_on}
use Rattle.margin_output.specs.Counts.{standing_in, stands_direct, stands_below, stands_level, stands_above, tally_of, Small}
use Rattle.margin_output.proofs.TableLaws.{lines_short, same_lines, lines_absent, counts_short}

-- ---- the counts of the standings are the plan's

module _ (p : Plan) where
  side_direct : (b : ℕ) → b < p.n → stands_direct (standing_of p b) ≡ is_direct p b
  unfolding standing_of is_direct stands_direct pick ◌and◌
  side_direct b k = ap stands_direct (pick_yes _ _ _ (lt-ltb b p.n k)) ∙ go (eqb b p.source) (hears p b p.source)
    where
      go : (e h : Bool) → stands_direct (pick e Source (pick h Direct (Margin (margin p b)))) ≡ not e and h
      go true h = refl
      go false true = refl
      go false false = refl

  side_margin : (side : Standing → Bool) (at : ℤ → Bool) → side Source ≡ false → side Direct ≡ false → ((m : ℤ) → side (Margin m) ≡ at m)
      → (b : ℕ) → b < p.n → side (standing_of p b) ≡ has_margin p b and at (margin p b)
  unfolding standing_of has_margin pick ◌and◌
  side_margin side at s d m b k = ap side (pick_yes _ _ _ (lt-ltb b p.n k)) ∙ go (eqb b p.source) (hears p b p.source)
    where
      go : (e h : Bool) → side (pick e Source (pick h Direct (Margin (margin p b)))) ≡ (not e and not h) and at (margin p b)
      go true h = s
      go false true = d
      go false false = m (margin p b)

  -- over twenty numbers as over n
  counted : p.n ≤ 20 → (side : Standing → Bool) (P : ℕ → Bool) → side Absent ≡ false → ((b : ℕ) → b < p.n → side (standing_of p b) ≡ P b)
      → count 20 (λ b. side (standing_of p b)) ≡ count p.n P
  counted t side P a e =
      count_width p.n 20 (λ b. side (standing_of p b)) t (λ b l. ap side (sym (stands_absent p b l)) ∙ a)
      ∙ count_cong p.n (λ b. side (standing_of p b)) P e

  pub counts_are : p.n ≤ 20 → tally_of 20 (standing_of p) ≡ record { direct = direct_ones p; below = below_zero p; level = at_zero p; above = above_zero p }
  unfolding tally_of direct_ones below_zero at_zero above_zero stands_direct stands_below stands_level stands_above
  counts_are t = λ i. record {
    direct = counted t stands_direct (is_direct p) refl side_direct i;
    below = counted t stands_below (λ b. has_margin p b and lt_z (margin p b) (pos 0)) refl (side_margin stands_below (λ m. lt_z m (pos 0)) refl refl (λ m. refl)) i;
    level = counted t stands_level (λ b. has_margin p b and le_z (margin p b) (pos 0) and le_z (pos 0) (margin p b)) refl
        (side_margin stands_level (λ m. le_z m (pos 0) and le_z (pos 0) m) refl refl (λ m. refl)) i;
    above = counted t stands_above (λ b. has_margin p b and lt_z (pos 0) (margin p b)) refl (side_margin stands_above (λ m. lt_z (pos 0) m) refl refl (λ m. refl)) i;
  }

  -- a plan's standings are small
  pub standing_small : margins_cause p ≡ 0 → (b : ℕ) → Small (standing_of p b)
  unfolding standing_of
  standing_small e b =
      pick_case Small (ltb b p.n) (pick (eqb b p.source) Source (pick (hears p b p.source) Direct (Margin (margin p b)))) Absent
      (λ k.
      pick_case Small (eqb b p.source) Source (pick (hears p b p.source) Direct (Margin (margin p b))) (λ s. tt)
      (λ s. pick_case Small (hears p b p.source) Direct (Margin (margin p b)) (λ d. tt) (λ d. margin_small p e b)))
      (λ k. tt)

-- ---- the answer

module _ (p : Plan) where
  module _ (places : List Standing) (e : told (Ok places) ≡ margins_of p) where
    cause : margins_cause p ≡ 0
    cause = (sheet_known p places e).0

    twenty : p.n ≤ 20
    twenty = (sound p (bounded_plan p cause).0).twenty

    standing_at : (b : ℕ) → b < 20 → standing_in places b ≡ standing_of p b
    standing_at b k = ap (λ (l : List Standing). get_or l b Source) (sheet_known p places e).1 ∙ table_at 20 (standing_of p) Source b k

    pub places_small : (b : ℕ) → b < 20 → Small (standing_in places b)
    places_small b k = subst Small (sym (standing_at b k)) (standing_small p cause b)

    tally_is : tally_of 20 (standing_in places) ≡ tally_of 20 (standing_of p)
    unfolding tally_of
    tally_is = λ i. record {
      direct = count_cong 20 (λ b. stands_direct (standing_in places b)) (λ b. stands_direct (standing_of p b)) (λ b k. ap stands_direct (standing_at b k)) i;
      below = count_cong 20 (λ b. stands_below (standing_in places b)) (λ b. stands_below (standing_of p b)) (λ b k. ap stands_below (standing_at b k)) i;
      level = count_cong 20 (λ b. stands_level (standing_in places b)) (λ b. stands_level (standing_of p b)) (λ b k. ap stands_level (standing_at b k)) i;
      above = count_cong 20 (λ b. stands_above (standing_in places b)) (λ b. stands_above (standing_of p b)) (λ b k. ap stands_above (standing_at b k)) i;
    }

    lines_are : standing_lines 20 (standing_in places) ≡ standing_lines p.n (standing_of p)
    lines_are =
        same_lines 20 (standing_in places) (standing_of p) standing_at ∙ lines_absent p.n 20 (standing_of p) (λ b l. sym (stands_absent p b l)) twenty

    pub answer_known : (text last : List ℕ) (t : Tally) → text ≡ standing_lines 20 (standing_in places) → t ≡ tally_of 20 (standing_in places)
        → last ≡ joined text (counts_line t.direct t.below t.level t.above) → last ≡ margins_answer p
    unfolding margins_answer margins_lines
    answer_known text last t a q h =
        let line : List ℕ = counts_line (direct_ones p) (below_zero p) (at_zero p) (above_zero p) in
        let counts = q ∙ tally_is ∙ counts_are p twenty in
        h ∙ (λ i. joined ((a ∙ lines_are) i) (counts_line (counts i).direct (counts i).below (counts i).level (counts i).above))
        ∙ room_for (standing_lines p.n (standing_of p)) (counts_line (direct_ones p) (below_zero p) (at_zero p) (above_zero p))
        (let l = lines_short p.n (standing_of p) in
        let s = counts_short (direct_ones p) (below_zero p) (at_zero p) (above_zero p) in
        let w = twenty in
        omega arith)
        ∙ sym (pick_yes _ _ _ (eq-eqb (margins_cause p) 0 cause))

  some_number : (o : MarginsError) → (told (Err o)).number ≡ 0 → ⊥
  some_number WrongRange z = omega arith
  some_number WrongLink z = omega arith

  pub answer_refused : (o : MarginsError) → told (Err o) ≡ margins_of p → (last : List ℕ) → last ≡ refusal_line (told (Err o)).number 0 → last ≡ margins_answer p
  unfolding margins_answer
  answer_refused o e last h =
      let c = sheet_refused p o e in
      h ∙ ap (λ (k : ℕ). refusal_line k 0) c ∙ sym (pick_no _ _ _ (ne_eqb (margins_cause p) 0 (λ y. some_number o (c ∙ y))))

-- the table on a plan file, where it is accepted and where it is refused
module _ {w : Written} {last : List ℕ} (out : List ℕ) (file : FileRead) where
  pub put_margins : (p : Progress) (said : List ℕ) → answer (Ok p) ≡ file → said ≡ margins_answer p.plan
      → w ≡ on_line 0 (written_of 0 (length said) (length out)) → last ≡ put_into said out → (w ≡ answer_on file (margins_on file) (length out)) × (last ≡ put_into (margins_on file) out)
  unfolding margins_on
  put_margins = put_accepted w last out file (λ (x : Progress). margins_answer x.plan)

  pub put_refusal : (e : Refusal) → answer (Err e) ≡ file → w ≡ answer_on (answer (Err e)) (refusal_line (number e.cause) e.line) (length out) → last ≡ put_into (refusal_line (number e.cause) e.line) out
      → (w ≡ answer_on file (margins_on file) (length out)) × (last ≡ put_into (margins_on file) out)
  unfolding margins_on
  put_refusal = put_refused w last out file (λ (x : Progress). margins_answer x.plan)
