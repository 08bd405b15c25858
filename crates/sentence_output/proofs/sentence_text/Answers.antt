-- The sentence on the file, or why it is refused, put into the list. Assumes nothing.
use Rattle.closure.specs.Answer.{answer_of}
use Rattle.sentence_output.specs.Sentence.{sentence_text}
use Rattle.sentence_output.proofs.Answers.{answer_composes, put_sentence, put_refusal}
use Rattle.sentence_output.proofs.sentence_text.Goals as goal

pub answer-requires : goal.answer-requires
unfolding answer_of
answer-requires c = answer_composes _ _ c.verdict.ensures.answer

pub returns-in-Ok : goal.returns-in-Ok
unfolding answer_of sentence_text
returns-in-Ok c = let p = put_sentence _ _ _ _ _ (c.in-Ok.ensures {u = tt}) c.verdict.ensures.answer c.answer.ensures c.accepted.ensures.value c.accepted.ensures.out_after in
    record { value = p.0; out_after = p.1 }

pub returns-in-Err : goal.returns-in-Err
unfolding sentence_text
returns-in-Err c = let p = put_refusal _ _ _ (c.in-Err.ensures {u = tt}) c.refused.ensures.value c.refused.ensures.out_after in
    record { value = p.0; out_after = p.1 }
