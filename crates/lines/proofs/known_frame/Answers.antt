-- Each return is the definition's case by the test that led there. Assumes nothing.
use mathlib.Core.Path.{sym, ◌∙◌}
use native.Mathlib.Omega.{arith}
use Rattle.sets.proofs.Bools.{pick_yes, pick_no}
use Rattle.lines.specs.Frames.{known_frame}
use Rattle.lines.proofs.known_frame.Goals as goal

pub overflow_cast-kind : goal.overflow_cast-kind
overflow_cast-kind c = omega (arith, c.type_inv.bytes 0)

pub returns-then-member : goal.returns-then-member
unfolding known_frame
returns-then-member c = c.kind_of.ensures ∙ sym (pick_yes _ _ _ (sym c.member.ensures ∙ c.if-member.true))

pub returns : goal.returns
unfolding known_frame
returns c = sym (pick_no _ _ _ (sym c.member.ensures ∙ c.if-member.false))
