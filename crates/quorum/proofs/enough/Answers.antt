use mathlib.Core.Path.{◌≡◌, sym, ap, ◌∙◌}
use mathlib.Core.Bool.{not}
use native.Mathlib.Omega.{arith}
use lib.Count.{ones}
use lib.Dec.{ltb}
use Rattle.sets.specs.Sets.{mem, count}
use Rattle.sets.proofs.Laws.{count_le}
use Rattle.sets.proofs.Masks.{ones_count}
use Rattle.quorum.specs.Quorum.{group_at, fit}
use Rattle.quorum.proofs.Laws.{enough_most, enough_groups}
use mir.Val.{Fits}
use mir.Syntax.{w32}
use borrow.Author.Rules.{rules}
use Rattle.quorum.proofs.enough.Goals as goal

pub overflow_cast-result : goal.overflow_cast-result
overflow_cast-result c = let s : Fits w32 c.args.who = search rules in let e : ones c.args.who ≡ count 32 (λ i. mem i c.args.who) = ones_count 32 c.args.who s.fits in omega (arith, e, count_le 32 (λ i. mem i c.args.who))

pub returns-in-Most : goal.returns-in-Most
returns-in-Most c = let a = c.args in let s : Fits w32 a.who = search rules in ap (ltb c.in-Most.f) (ones_count 32 a.who s.fits) ∙ sym (enough_most 32 a.bound (λ j. mem j a.who) _ c.in-Most.is)

pub returns-in-Groups : goal.returns-in-Groups
unfolding fit group_at
returns-in-Groups c = let a = c.args in ap not c.fits.ensures ∙ sym (enough_groups 32 a.bound (λ j. mem j a.who) _ c.in-Groups.is)
