use mathlib.Core.Path.{◌∙◌}
use native.Mathlib.Omega.{arith}
use Rattle.plan.proofs.Laws.{sound}
use Rattle.faults.proofs.Rows.{over_hearing}
use Rattle.partition.proofs.Bounds.{swept_at_once}
use Rattle.partition.proofs.search.at_once.Goals as goal

pub overflow_cast-f : goal.overflow_cast-f
overflow_cast-f c =
    let g = sound _ c.args.site.now.sound in
    let k = g.f_below _ c.requires.0 in
    let t = g.twenty in
    omega arith

pub returns : goal.returns
returns c =
    swept_at_once _ (sound _ c.args.site.now.sound) _ _ _ c.ranges.wall.fits c.requires.1 (c.over.ensures ∙ over_hearing _ _ _ _ c.requires.0)
