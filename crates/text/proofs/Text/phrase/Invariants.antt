-- The bytes so far are joined. Assumes nothing.
use mathlib.Core.Path.{◌≡◌}
use lib.ListN.{take}
use Rattle.text.specs.Texts.{held, joined}
use Rattle.text.proofs.Text.phrase.Given as goal

abbrev pub invariant-loop-b : goal.invariant-loop-b
invariant-loop-b l = held l.self ≡ joined (held l.initial.self) (take l.b-index l.bytes)
