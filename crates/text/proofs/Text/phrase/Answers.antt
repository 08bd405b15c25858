use mathlib.Core.Path.{◌≡◌, ap, ◌∙◌}
use native.Mathlib.Omega.{arith}
use lib.ListN.{length, length-take}
use lib.Seq.{take_all}
use borrow.Author.Rules.{rules}
use Rattle.text.specs.Texts.{held, joined}
use Rattle.text.proofs.Phrases.{joined_none, joined_next}
use Rattle.text.proofs.Text.phrase.Goals as goal

pub loop-b-init : goal.loop-b-init
unfolding held
loop-b-init c = let e : length c.args.self.bytes ≡ 344 = search rules in joined_none (held c.args.self) (omega (arith, length-take c.args.self.len c.args.self.bytes))

pub loop-b-preserved : goal.loop-b-preserved
loop-b-preserved c = let l = c.loop-b in joined_next _ _ l.b-index (omega arith) l.invariant c.raw-self.ensures

pub returns : goal.returns
returns c = let l = c.loop-b in l.invariant ∙ ap (joined (held c.args.self)) (take_all l.b-index c.args.bytes.now (omega arith))
