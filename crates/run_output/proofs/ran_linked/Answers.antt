-- The run with a word for each hearer that an accepted file asks for is not refused, so the records show those of the rules. Assumes nothing.
use mathlib.Core.Path.{◌∙◌}
use Rattle.run_output.proofs.SiteLaws.{ran_lines}
use Rattle.run_output.proofs.ran_linked.Goals as goal

pub returns : goal.returns
returns c = c.of_site.ensures ∙ ran_lines c.args.p c.args.words.now c.args.later.now c.requires.0 c.requires.1 c.requires.2 _ c.run_site-ran.ensures.records_after
