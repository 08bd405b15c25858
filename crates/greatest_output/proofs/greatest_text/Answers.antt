-- The line on the file, or why it is refused, put into the list. Assumes nothing.
use mathlib.Core.Path.{ap, ◌∙◌}
use Rattle.tolerance.specs.Answer.{greatest_of}
use Rattle.tolerance.proofs.Answers.{height_small}
use Rattle.greatest_output.specs.Greatest.{greatest_text}
use Rattle.greatest_output.proofs.LineLaws.{put_greatest, put_refusal}
use Rattle.greatest_output.proofs.greatest_text.Goals as goal

pub answer-requires : goal.answer-requires
answer-requires c = height_small _ _ c.greatest_bound.ensures

pub returns-in-Ok : goal.returns-in-Ok
unfolding greatest_text
returns-in-Ok c = let g = c.greatest_bound.ensures ∙ ap greatest_of c.drawing_of.ensures in
    let p = put_greatest _ _ _ _ _ (c.in-Ok.ensures {u = tt}) g c.answer.ensures c.accepted.ensures.value c.accepted.ensures.out_after in
    record { value = p.0; out_after = p.1 }

pub returns-in-Err : goal.returns-in-Err
unfolding greatest_text
returns-in-Err c = let p = put_refusal _ _ _ (c.in-Err.ensures {u = tt}) c.refused.ensures.value c.refused.ensures.out_after in
    record { value = p.0; out_after = p.1 }
