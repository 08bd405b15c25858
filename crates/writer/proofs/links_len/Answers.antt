use Prim.Native.Nat.{◌-◌}
use mathlib.Core.Path.{◌≡◌, ap}
use mathlib.Core.Logic.{inl, inr}
use native.Mathlib.Omega.{arith}
use lib.ListN.{length}
use Rattle.writer.specs.Written.{link_lines}
use Rattle.writer.proofs.Lines.{links_length}
use Rattle.writer.proofs.WriteLaws.{links_none, len_turn}
use Rattle.writer.proofs.links_len.Goals.{then-linked, else-linked}
use Rattle.writer.proofs.links_len.Goals as goal

pub overflow_add-len : goal.overflow_add-len
overflow_add-len c = omega (arith, links_length c.args.p 400 0)

pub loop-k-preserved : goal.loop-k-preserved
loop-k-preserved c = len_turn c.args.p c.loop-k.k c.loop-k-test.true c.linked.result c.linked.ensures c.loop-k.len c.if-linked.len (length (link_lines c.args.p 400 0)) (elim c.if-linked.branch [ then-linked w ↦ inl (w.if-linked.true, w.len-is) | else-linked w ↦ inr (w.if-linked.false, w.len-is) ]) c.loop-k.invariant

pub returns : goal.returns
returns c = let none : length (link_lines c.args.p (400 - c.loop-k.k) c.loop-k.k) ≡ 0 = ap length (links_none c.args.p c.loop-k.k c.loop-k-test.false) in omega arith
