use mathlib.Core.Path.{refl}
use borrow.Author.Rules.{rules}
use lib.ListN.{get_or}
use mir.Val.{Fits}
use mir.Syntax.{w32}
use Rattle.sets.proofs.Bools.{clash}
use Rattle.partition.proofs.Members.{inside_test}
use Rattle.partition.proofs.groups.part_of_earlier.Goals as goal

pub returns-then-s-groups-eq0 : goal.returns-then-s-groups-eq0
returns-then-s-groups-eq0 c = let l = c.requires in let a = c.args in let one : Fits w32 a.s = search rules in let other : Fits w32 (get_or a.groups c.loop-j.j 0) = search rules in λ e. (c.loop-j.j, c.loop-j-test.true, inside_test _ _ one.fits other.fits c.if-s-groups-eq0.true)

pub returns : goal.returns
returns c = λ e. clash e refl
