use mathlib.Core.Path.{sym, ap, ◌∙◌}
use native.Mathlib.Omega.{arith}
use lib.ListN.{drop_of_length-le}
use Rattle.wording.specs.Ear.{after_all}
use Rattle.wording.proofs.Ears.{heard_next}
use Rattle.wording.proofs.ear.heard.Goals as goal

pub loop-byte-preserved : goal.loop-byte-preserved
loop-byte-preserved c = let l = c.loop-byte in heard_next l.e _ l.byte-index (omega arith) c.after_byte-e.ensures ∙ l.invariant

pub returns : goal.returns
unfolding after_all
returns c = let l = c.loop-byte in sym (ap (after_all l.e) (drop_of_length-le c.args.text.now {i = l.byte-index} (omega arith))) ∙ l.invariant
