-- What stands between, by how many follow. Assumes nothing.
use mathlib.Core.Path.{sym, ap, ◌∙◌}
use Prim.Native.Nat.{ℕ}
use native.Mathlib.Omega.{arith}
use Rattle.text.specs.Texts.{held, joined}
use Rattle.text.specs.Phrases.{phrase}
use Rattle.text.proofs.Phrases.{joined_none}
use Rattle.wording.specs.Sentence.{between}
use Rattle.wording.proofs.Listings.{between_many}
use Rattle.wording.proofs.names.with_between.Goals as goal

pub returns-in-0 : goal.returns-in-0
unfolding between
returns-in-0 c = joined_none _ c.requires ∙ ap (λ (k : ℕ). joined (held c.args.t) (between k)) (sym c.in-0.is)

pub returns-in-1 : goal.returns-in-1
unfolding between phrase
returns-in-1 c = c.phrase.ensures ∙ ap (λ (k : ℕ). joined (held c.args.t) (between k)) (sym c.in-1.is)

pub returns-in_default : goal.returns-in_default
unfolding phrase
returns-in_default c = c.phrase-in_default.ensures ∙ ap (joined (held c.args.t)) (sym (between_many c.args.more (λ e. omega arith) (λ e. omega arith)))
