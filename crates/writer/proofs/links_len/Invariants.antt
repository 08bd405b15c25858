-- The loop's invariant: the bytes counted and those of the places from k on are all. Assumes nothing.
use Prim.Native.Nat.{◌-◌, ◌+◌}
use mathlib.Core.Path.{◌≡◌}
use lib.ListN.{length}
use Rattle.writer.specs.Written.{link_lines}
use Rattle.writer.proofs.links_len.Given as goal

abbrev pub invariant-loop-k : goal.invariant-loop-k
invariant-loop-k l = l.len + length (link_lines l.p (400 - l.k) l.k) ≡ length (link_lines l.p 400 0)
