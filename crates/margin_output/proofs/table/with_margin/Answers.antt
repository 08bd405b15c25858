-- A sign and the size. Assumes nothing.
use Prim.Native.Nat.{ℕ}
use mathlib.Core.Path.{sym, ap, ◌∙◌}
use mathlib.Core.List.{◌∷◌, []}
use lib.IntN.{ℤ, pos, nat_abs}
use lib.Signed.{lt_z}
use mir.Facts.{to_z-of_z}
use Rattle.text.specs.Texts.{held, joined}
use Rattle.text.proofs.Laws.{then}
use Rattle.text.specs.Digits.{decimal}
use Rattle.margin_output.proofs.TableLaws.{signed_below, signed_above}
use Rattle.margin_output.proofs.table.with_margin.Goals as goal

pub returns-then-m-lt0 : goal.returns-then-m-lt0
returns-then-m-lt0 c = let back = to_z-of_z c.ranges.m in
    then _ (45 ∷ []) _ c.raw.ensures (c.decimal.ensures ∙ ap (λ (k : ℕ). joined (held c.raw.result) (decimal k)) (c.unsigned_abs-size.ensures.value ∙ ap nat_abs back))
    ∙ ap (joined (held c.args.t)) (signed_below c.args.m (sym (ap (λ (z : ℤ). lt_z z (pos 0)) back) ∙ c.if-m-lt0.true))

pub returns : goal.returns
returns c = let back = to_z-of_z c.ranges.m in
    c.decimal-2.ensures
    ∙ ap (λ (k : ℕ). joined (held c.args.t) (decimal k)) (c.unsigned_abs-size.ensures.value ∙ ap nat_abs back)
    ∙ ap (joined (held c.args.t)) (signed_above c.args.m (sym (ap (λ (z : ℤ). lt_z z (pos 0)) back) ∙ c.if-m-lt0.false))
