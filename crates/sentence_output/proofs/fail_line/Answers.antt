-- The sentence and the line end, with room. Assumes nothing.
use mathlib.Core.Path.{sym, ap, ◌∙◌}
use Rattle.wording.specs.Answers.{words_of}
use Rattle.sentence_output.proofs.Answers.{is_composed, says_fail}
use Rattle.sentence_output.proofs.fail_line.Goals as goal

pub unwrap-requires : goal.unwrap-requires
unwrap-requires c = is_composed _ (c.sentence.ensures.cause ∙ c.requires)

pub returns : goal.returns
returns c = let a = c.args in says_fail a.n a.f a.l a.r c.requires (sym (ap words_of c.unwrap.ensures) ∙ c.sentence.ensures.sentence) c.raw.ensures
