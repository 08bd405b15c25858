use mathlib.Core.Path.{refl, ap, ◌∙◌}
use Rattle.std.proofs.lemmas.List.{take_all}
use Rattle.terminal.specs.Rule.{among}
use Rattle.terminal.proofs.Walks.{among_turn}
use Rattle.terminal.proofs.Note.has.Goals as goal

pub loop-layout-init : goal.loop-layout-init
unfolding among
loop-layout-init c = refl

pub loop-layout-preserved : goal.loop-layout-preserved
loop-layout-preserved c = let l = c.loop-layout in among_turn c.args.value l.layout-index l.found _ c.loop-layout-test.true l.invariant

pub returns : goal.returns
returns c =
    c.loop-layout.invariant ∙ ap (among c.args.value) (take_all _ c.said-layout-items.result.now c.loop-layout-test.false ∙ c.said-layout-items.ensures)
