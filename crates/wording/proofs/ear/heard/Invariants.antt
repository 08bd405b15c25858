-- What is still to be heard, heard from here, is the whole text's. Assumes nothing.
use mathlib.Core.Path.{◌≡◌}
use lib.ListN.{drop}
use Rattle.wording.specs.Ear.{attentive, after_all}
use Rattle.wording.proofs.ear.heard.Given as goal

abbrev pub invariant-loop-byte : goal.invariant-loop-byte
invariant-loop-byte l = after_all l.e (drop l.byte-index l.text) ≡ after_all attentive l.text
