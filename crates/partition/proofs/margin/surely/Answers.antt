-- The greater of two bounds. Assumes nothing.
use Prim.Native.Nat.{ℕ, ◌-◌, max}
use mathlib.Core.Path.{ap, ap₂, ◌∙◌}
use lib.Bits.{bit_and}
use Rattle.partition.proofs.Lows.{ones_row, surely_max}
use Rattle.partition.proofs.margin.surely.Goals as goal

pub returns : goal.returns
returns c =
    let a = c.args in
    let good = ones_row a.row (bit_and a.sure a.out) c.ranges.row.fits in
    let all = ones_row a.row a.sure c.ranges.row.fits in
    c.max.ensures ∙ ap₂ max good (c.saturating_sub.ensures ∙ ap (λ (x : ℕ). x - a.f) all) ∙ surely_max a.row a.f a.out a.sure
