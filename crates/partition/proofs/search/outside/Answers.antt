-- A plan has fewer terminals than a word has bits. Assumes nothing.
use mathlib.Core.Path.{◌∙◌}
use native.Mathlib.Omega.{arith}
use Rattle.sets.proofs.Partition.{few_outside}
use Rattle.plan.proofs.Laws.{sound}
use Rattle.partition.proofs.search.outside.Goals as goal

pub returns : goal.returns
returns c =
    let a = c.args in
    let t = (sound _ a.site.now.sound).twenty in
    c.outside.ensures ∙ few_outside a.site.now.plan.n a.a a.b (omega arith)
