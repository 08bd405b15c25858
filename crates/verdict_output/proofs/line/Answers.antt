use Prim.Native.Nat.{◌%◌, ◌≤◌}
use lib.ListN.{length}
use native.Mathlib.Omega.{arith}
use Rattle.text.proofs.Laws.{then, whole}
use Rattle.verdict_output.specs.Verdict.{verdict_line}
use Rattle.verdict_output.proofs.LineLaws.{verdict_length}
use Rattle.verdict_output.proofs.line.Goals as goal

-- The line's parts, one after the other. Assumes nothing.

pub returns : goal.returns
unfolding verdict_line
returns c = let a = c.args in
    let short : length (verdict_line a.failed (a.f % 16777216) (a.l % 16777216) (a.r % 16777216)) ≤ 344 = omega (arith, verdict_length a.failed (a.f % 16777216) (a.l % 16777216) (a.r % 16777216)) in
    let head = then _ _ _ c.byte.ensures c.byte-2.ensures in
    let sets = then _ _ _ (then _ _ _ (then _ _ _ head c.triple.ensures) c.triple-2.ensures) c.triple-3.ensures in
    whole c.empty.ensures (then _ _ _ sets c.raw.ensures) short
