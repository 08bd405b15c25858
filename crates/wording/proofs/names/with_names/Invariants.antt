-- What is still to be said after what was said is the whole listing. Assumes nothing.
use Prim.Native.Nat.{◌≤◌, ◌-◌}
use mathlib.Core.Path.{◌≡◌}
use lib.ListN.{length}
use Rattle.text.specs.Texts.{held, joined}
use Rattle.wording.specs.Sentence.{members_from, members, listing}
use Rattle.wording.proofs.names.with_names.Given as goal

abbrev pub invariant-loop-i : goal.invariant-loop-i
invariant-loop-i l =
    (length (held l.t) ≤ 344) × (joined (held l.t) (listing (members_from l.i (l.n - l.i) l.s)) ≡ joined (held l.initial.t) (listing (members l.n l.s)))
