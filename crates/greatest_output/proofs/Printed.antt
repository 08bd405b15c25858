-- What is printed of an accepted plan, by the laws of its reader. Assumes nothing.
use Prim.Native.Nat.{ℕ}
use mathlib.Core.Path.{◌≡◌, refl, sym, ap, ◌∙◌}
use mathlib.Core.List.{List}
use native.Mathlib.Omega.{arith}
use lib.Dec.{ltb}
use borrow.Author.Tests.{eq-eqb}
use Rattle.sets.proofs.Bools.{pick_yes}
use Rattle.quorum.specs.declared.Bound.{Bound}
use Rattle.quorum.specs.Quorum.{at_most}
use Rattle.plan.specs.declared.Plan.{Plan}
use Rattle.plan.specs.Plan.{heard_by, cause_of}
use Rattle.plan.specs.Deaf.{is_deaf, deaf_set}
use Rattle.plan.proofs.Laws.{sound}
use Rattle.closure.specs.Verdict.{verdict}
use Rattle.tolerance.specs.declared.Drawing.{Drawing}
use Rattle.tolerance.specs.Greatest.{drawing_of, with_bound, passes_with, none, greatest, height}
use Rattle.tolerance.specs.Links.{LinksCost}
use Rattle.tolerance.proofs.Links.{links_cost}
use Rattle.tolerance.proofs.Answers.{sound_zero, greatest_sound}
use Rattle.frames.specs.Reading.{Reading, drawing_reader, refusal, drawing_reading, file_read}
use Rattle.frames.proofs.Accepted.{reading_whole}
use Rattle.frames.proofs.Drawing.{drawn}
use Rattle.output.proofs.Laws.{refused_is, answered_is}
use Rattle.greatest_output.specs.Greatest.{tolerance_line, greatest_answer, greatest_on, greatest_text}
use Rattle.greatest_output.specs.Printed.{plan_of, GreatestPrinted}

module _ (file : List ℕ) where
  module _ (z : (drawing_reading file).number ≡ 0) where
    abbrev drawing : Drawing
    drawing = drawing_of (plan_of file)

    bound_f : (f : ℕ) × ((plan_of file).bound ≡ at_most f)
    bound_f = (drawn file).bounded z

    -- the plan is the drawing with its bound
    plan_is : plan_of file ≡ with_bound drawing bound_f.0
    plan_is = ap (λ (b : Bound). record { n = (plan_of file).n; source = (plan_of file).source; bound = b; rows = (plan_of file).rows }) bound_f.1

    plan_sound : cause_of (plan_of file) ≡ 0
    unfolding drawing_reading
    plan_sound = (reading_whole drawing_reader file z).0

    costs : LinksCost drawing
    costs = links_cost drawing (sound (plan_of file) plan_sound).source_below

    printed : greatest_text file ≡ tolerance_line (greatest drawing)
    unfolding greatest_text greatest_on greatest_answer
    printed =
        answered_is (file_read (drawing_reading file)) _ z
        ∙ ap greatest_answer (greatest_sound drawing (sound_zero drawing bound_f.0 (sym (ap cause_of plan_is) ∙ plan_sound))) ∙ pick_yes _ _ _ (eq-eqb 0 0 refl)

    decides : (f : ℕ) × ((plan_of file).bound ≡ at_most f) × ((verdict (plan_of file)).passed ≡ ltb f (height (greatest drawing)))
    unfolding passes_with
    decides = (
      bound_f.0,
      bound_f.1,
      ap (λ (p : Plan). (verdict p).passed) plan_is ∙ costs.decides bound_f.0 ((sound (plan_of file) plan_sound).f_below bound_f.0 (ap (λ (b : Bound). b.kind) bound_f.1)),
    )

    deaf : (deaf_set (plan_of file) ≡ 0 → ⊥) → greatest_text file ≡ tolerance_line none
    unfolding deaf_set is_deaf heard_by
    deaf some = printed ∙ ap tolerance_line (costs.deaf_none some)

  pub greatest_printed : GreatestPrinted file
  unfolding greatest_text greatest_on
  greatest_printed = record {
    printed = printed;
    costs = costs;
    decides = decides;
    deaf = deaf;
    grouped = λ g. ap (λ (r : Reading). greatest_on (file_read r)) ((drawn file).grouped g) ∙ refused_is (file_read (refusal 4 1)) _ (λ y. omega arith);
    alike = λ g. ap (λ (r : Reading). greatest_on (file_read r)) ((drawn file).alike g);
  }
