-- The set of those who pass the test. Assumes nothing.
use mathlib.Core.Path.{◌∙◌}
use borrow.Author.Rules.{rules}
use Rattle.sets.proofs.Masks.{mask_few}
use Rattle.plan.specs.Deaf.{is_deaf, deaf_set}
use Rattle.frames.proofs.deaf.deaf_set.Goals as goal

pub returns : goal.returns
unfolding deaf_set
returns c = let p = c.args.p in c.those.ensures (is_deaf p) (λ b x k h. search rules) ∙ mask_few p.n (is_deaf p) c.requires
