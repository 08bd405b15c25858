-- The judgement's line on the file, or why it is refused, put into the list. Assumes nothing.
use mathlib.Core.Path.{ap}
use Rattle.frames.specs.Reading.{ArchiveRead}
use Rattle.quorum.specs.Quorum.{most_terminals}
use Rattle.closure.specs.Answer.{answer_of}
use Rattle.verdict_output.specs.Verdict.{archive_text}
use Rattle.verdict_output.proofs.LineLaws.{answer_small, put_verdict, put_refusal}
use Rattle.verdict_output.proofs.archive_text.Goals as goal

pub answer-requires : goal.answer-requires
unfolding answer_of
answer-requires c = answer_small most_terminals _ c.verdict.result c.verdict.ensures.answer

pub returns-in-Ok : goal.returns-in-Ok
unfolding answer_of archive_text
returns-in-Ok c = let e = ap (λ (r : ArchiveRead). r.file) (c.in-Ok.ensures {u = tt}) in
    let p = put_verdict most_terminals _ _ _ _ _ e c.verdict.ensures.answer c.answer.ensures c.accepted.ensures.value c.accepted.ensures.out_after in
    record { value = p.0; out_after = p.1 }

pub returns-in-Err : goal.returns-in-Err
unfolding archive_text
returns-in-Err c = let e = ap (λ (r : ArchiveRead). r.file) (c.in-Err.ensures {u = tt}) in
    let p = put_refusal most_terminals _ _ _ e c.refused.ensures.value c.refused.ensures.out_after in
    record { value = p.0; out_after = p.1 }
