use mathlib.Core.Path.{sym, ap, ◌∙◌}
use mathlib.Core.Logic.{inl, inr}
use native.Mathlib.Omega.{arith}
use lib.ListN.{length}
use lib.Seq.{sets}
use Rattle.writer.proofs.WriteLaws.{links_none, room_here, put_turn}
use Rattle.writer.proofs.put_links.Goals.{then-linked, else-linked}
use Rattle.writer.proofs.put_links.Goals as goal

pub put_link-requires : goal.put_link-requires
put_link-requires c = (room_here c.args.p c.loop-k.k c.loop-k-test.true c.linked.result c.linked.ensures c.loop-k.at (length c.loop-k.out) c.if-linked.true c.loop-k.invariant.1, omega arith, omega arith)

pub loop-k-preserved : goal.loop-k-preserved
loop-k-preserved c = put_turn c.args.p c.loop-k.k c.loop-k-test.true c.linked.result c.linked.ensures c.args.out.now c.loop-k.out c.if-linked.out c.loop-k.at c.if-linked.at (elim c.if-linked.branch [ then-linked w ↦ inl (w.if-linked.true, w.out-is ∙ w.put_link.ensures, w.at-is) | else-linked w ↦ inr (w.if-linked.false, w.out-is, w.at-is) ]) c.loop-k.invariant

pub returns : goal.returns
returns c = sym (ap (sets c.loop-k.out c.loop-k.at) (links_none c.args.p c.loop-k.k c.loop-k-test.false)) ∙ c.loop-k.invariant.2
