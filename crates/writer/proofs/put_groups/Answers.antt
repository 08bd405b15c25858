use Prim.Native.Nat.{ℕ, ◌+◌, ◌*◌, ◌≤◌}
use mathlib.Core.Path.{sym, ap, ◌∙◌, subst}
use native.Mathlib.Omega.{arith}
use lib.ListN.{length}
use lib.Seq.{sets}
use Rattle.quorum.specs.Quorum.{group_at}
use Rattle.writer.specs.Written.{group_lines}
use Rattle.writer.proofs.Laws.{sound_listed}
use Rattle.writer.proofs.ReadBack.{group_low}
use Rattle.writer.proofs.WriteLaws.{groups_room, groups_turn, groups_done}
use Rattle.writer.proofs.put_groups.Goals as goal

pub bounds-p-i : goal.bounds-p-i
bounds-p-i c =
    let l : c.listed-i-end.result ≤ 16 = subst (λ (n : ℕ). n ≤ 16) (sym c.listed-i-end.ensures) (sound_listed _ c.requires.0) in
    omega arith

pub put_group-requires : goal.put_group-requires
unfolding group_at
put_group-requires c =
    let l : c.listed-i-end.result ≤ 16 = subst (λ (n : ℕ). n ≤ 16) (sym c.listed-i-end.ensures) (sound_listed _ c.requires.0) in
    let room = subst (λ (n : ℕ). c.args.from + 9 * n ≤ length c.args.out.now) (sym c.listed-i-end.ensures) c.requires.1 in
    (groups_room _ _ _ _ _ _ c.loop-i-test.true room c.loop-i.invariant, group_low _ c.requires.0 c.loop-i.i (omega arith))

pub loop-i-preserved : goal.loop-i-preserved
loop-i-preserved c = groups_turn _ _ _ _ _ _ _ c.loop-i-test.true c.put_group.ensures c.loop-i.invariant

pub returns : goal.returns
returns c = let a = c.args in
    groups_done _ _ _ _ _ _ c.loop-i-test.false c.loop-i.invariant ∙ ap (λ (n : ℕ). sets a.out.now a.from (group_lines a.p.bound.groups n 0)) c.listed-i-end.ensures
