-- The one judgement, within 12 terminals. Assumes nothing.
use Rattle.closure.specs.Answer.{quote_of}
use Rattle.partition.proofs.quote.Goals as goal

pub returns : goal.returns
unfolding quote_of
returns c = record {
  answer = c.judge_within.ensures.answer;
  accepted = c.judge_within.ensures.accepted;
}
