-- Two small counts, read back from their bits. Assumes nothing.
use Prim.Native.Nat.{◌+◌, ◌≤◌}
use mathlib.Core.Path.{◌≡◌, sym, subst, ◌∙◌}
use native.Mathlib.Omega.{arith}
use lib.IntN.{pos, ◌-ℤ◌}
use mir.Syntax.{w32}
use mir.Val.{SFits, to_z}
use mir.Facts.{to_z-of_z}
use Rattle.partition.proofs.Sheets.{small_count, difference_fits}
use Rattle.partition.proofs.standings.difference.Goals as goal

few : (c : goal.Start) → c.args.f + 1 ≤ 20
few c = let l = c.requires.0 in omega arith

-- what the machine reads back from the bits of the two counts
read : (c : goal.Start) → to_z w32 c.args.heard -ℤ to_z w32 (c.args.f + 1) ≡ pos c.args.heard -ℤ pos (c.args.f + 1)
read c = λ i. small_count c.args.heard c.requires.1 i -ℤ small_count (c.args.f + 1) (few c) i

pub overflow_sub-result : goal.overflow_sub-result
overflow_sub-result c = subst (SFits w32) (sym (read c)) (difference_fits c.args.heard (c.args.f + 1) c.requires.1 (few c))

pub returns : goal.returns
returns c = to_z-of_z (overflow_sub-result c) ∙ read c
