-- The judgement's line on the file, or why it is refused, put into the list. Assumes nothing.
use Rattle.plan.specs.Plan.{most_quoted}
use Rattle.closure.specs.Answer.{quote_of}
use Rattle.verdict_output.specs.Verdict.{quote_text}
use Rattle.verdict_output.proofs.LineLaws.{answer_small, put_verdict, put_refusal}
use Rattle.verdict_output.proofs.quote_text.Goals as goal

pub answer-requires : goal.answer-requires
unfolding quote_of
answer-requires c = answer_small most_quoted _ c.quote.result c.quote.ensures.answer

pub returns-in-Ok : goal.returns-in-Ok
unfolding quote_of quote_text
returns-in-Ok c = let p = put_verdict most_quoted _ _ _ _ _ (c.in-Ok.ensures {u = tt}) c.quote.ensures.answer c.answer.ensures c.accepted.ensures.value c.accepted.ensures.out_after in
    record { value = p.0; out_after = p.1 }

pub returns-in-Err : goal.returns-in-Err
unfolding quote_text
returns-in-Err c = let p = put_refusal most_quoted _ _ _ (c.in-Err.ensures {u = tt}) c.refused.ensures.value c.refused.ensures.out_after in
    record { value = p.0; out_after = p.1 }
