-- The table on the file, or why it is refused, put into the list. Assumes nothing.
use Rattle.margin_output.specs.Margins.{margins_text}
use Rattle.margin_output.proofs.AnswerLaws.{put_margins, put_refusal}
use Rattle.margin_output.proofs.margins_text.Goals as goal

pub returns-in-Ok : goal.returns-in-Ok
unfolding margins_text
returns-in-Ok c = let p = put_margins _ _ _ _ (c.in-Ok.ensures {u = tt}) c.answer.ensures c.accepted.ensures.value c.accepted.ensures.out_after in
    record { value = p.0; out_after = p.1 }

pub returns-in-Err : goal.returns-in-Err
unfolding margins_text
returns-in-Err c = let p = put_refusal _ _ _ (c.in-Err.ensures {u = tt}) c.refused.ensures.value c.refused.ensures.out_after in
    record { value = p.0; out_after = p.1 }
