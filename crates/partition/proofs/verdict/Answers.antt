-- The one judgement, within 20 terminals. Assumes nothing.
use Rattle.closure.specs.Answer.{answer_of}
use Rattle.partition.proofs.verdict.Goals as goal

pub returns : goal.returns
unfolding answer_of
returns c = record {
  answer = c.judge_within.ensures.answer;
  accepted = c.judge_within.ensures.accepted;
}
