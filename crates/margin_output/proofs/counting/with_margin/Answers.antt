-- The sign tells which count. Assumes nothing.
use mathlib.Core.Path.{sym, ap, ◌∙◌}
use lib.IntN.{ℤ, pos}
use lib.Signed.{lt_z}
use mir.Facts.{to_z-of_z}
use Rattle.margin_output.proofs.TableLaws.{tally_below, tally_above, tally_level}
use Rattle.margin_output.proofs.counting.with_margin.Goals as goal

pub returns-then-m-lt0 : goal.returns-then-m-lt0
returns-then-m-lt0 c = let back = to_z-of_z c.ranges.m in tally_below c.args.t c.args.m (sym (ap (λ (z : ℤ). lt_z z (pos 0)) back) ∙ c.if-m-lt0.true)

pub returns-then-m-gt0 : goal.returns-then-m-gt0
returns-then-m-gt0 c = let back = to_z-of_z c.ranges.m in
    tally_above c.args.t c.args.m (sym (ap (λ (z : ℤ). lt_z z (pos 0)) back) ∙ c.if-m-lt0.false) (sym (ap (λ (z : ℤ). lt_z (pos 0) z) back) ∙ c.if-m-gt0.true)

pub returns : goal.returns
returns c = let back = to_z-of_z c.ranges.m in
    tally_level c.args.t c.args.m (sym (ap (λ (z : ℤ). lt_z z (pos 0)) back) ∙ c.if-m-lt0.false) (sym (ap (λ (z : ℤ). lt_z (pos 0) z) back) ∙ c.if-m-gt0.false)
