use Prim.Native.Nat.{ℕ}
use mathlib.Core.Path.{◌≡◌, refl, ap, ◌∙◌}
use native.Mathlib.Omega.{arith}
use lib.ListN.{length}
use Rattle.margin_output.specs.Margins.{standing_lines}
use Rattle.margin_output.specs.Counts.{standing_in}
use Rattle.margin_output.proofs.TableLaws.{lines_short, next_line}
use Rattle.margin_output.proofs.table.lines.Goals as goal

pub loop-b-init : goal.loop-b-init
unfolding standing_lines
loop-b-init c = c.empty-t.ensures

pub with_line-t-requires : goal.with_line-t-requires
with_line-t-requires c = let turn = c.loop-b in let short = lines_short turn.b (standing_in c.args.places) in let e = ap length turn.invariant in (c.requires turn.b (omega arith), omega (arith, short, e))

pub loop-b-preserved : goal.loop-b-preserved
loop-b-preserved c = let turn = c.loop-b in next_line turn.b (standing_in c.args.places) _ _ _ (omega arith) refl turn.invariant c.with_line-t.ensures

pub returns : goal.returns
returns c = let turn = c.loop-b in let e : turn.b ≡ 20 = omega arith in turn.invariant ∙ ap (λ (k : ℕ). standing_lines k (standing_in c.args.places)) e
