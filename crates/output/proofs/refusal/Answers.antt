use Prim.Native.Nat.{◌≤◌}
use lib.ListN.{length}
use native.Mathlib.Omega.{arith}
use Rattle.text.proofs.Laws.{then, whole}
use Rattle.output.specs.OnFile.{refusal_line}
use Rattle.output.proofs.Laws.{refusal_length}
use Rattle.output.proofs.refusal.Goals as goal

-- The line's parts, one after the other. Assumes nothing.

pub returns : goal.returns
unfolding refusal_line
returns c =
    let short : length (refusal_line c.args.number c.args.line) ≤ 344 = omega (arith, refusal_length c.args.number c.args.line) in
    whole c.empty.ensures (then _ _ _ (then _ _ _ (then _ _ _ c.byte.ensures c.byte-2.ensures) c.pair.ensures) c.raw.ensures) short
