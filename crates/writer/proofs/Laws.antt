-- What the writer's callers use: what is written of a sound plan, and how long that can be. Assumes nothing.
use Prim.Native.Nat.{◌+◌, ◌*◌, ◌≤◌}
use mathlib.Core.Path.{◌≡◌}
use mathlib.Core.Bool.{true}
use mathlib.Core.List.{◌++◌}
use native.Mathlib.Omega.{arith}
use lib.ListN.{length, length-append}
use borrow.Author.Tests.{eq-eqb, leb-true}
use Rattle.sets.proofs.Bools.{and_l, and_r, pick_yes}
use Rattle.quorum.specs.declared.BoundKind.{BoundKind}
use Rattle.quorum.specs.declared.BoundKind.TheVariants.{Most, Groups}
use Rattle.quorum.specs.Quorum.{most_groups, listed, listed_sound, groups_sound}
use Rattle.plan.specs.declared.Plan.{Plan}
use Rattle.plan.specs.Plan.{cause_of}
use Rattle.plan.proofs.Laws.{tests}
use Rattle.writer.specs.Written.{head_line, link_lines, group_lines, plan_text, written_text}
use Rattle.writer.proofs.Lines.{head_length, links_length, groups_length}

-- the text of a sound plan is written
pub sound_text : (p : Plan) → cause_of p ≡ 0 → written_text p ≡ plan_text p
unfolding written_text
sound_text p s = pick_yes _ _ _ (eq-eqb (cause_of p) 0 s)

-- a sound plan lists at most sixteen groups
listed_most : (kind : BoundKind) → listed_sound kind ≡ true → listed kind ≤ most_groups
listed_most (Most f) h = omega arith
listed_most (Groups count) h = leb-true count most_groups (and_r _ _ h)

pub sound_listed : (p : Plan) → cause_of p ≡ 0 → listed p.bound.kind ≤ most_groups
unfolding groups_sound
sound_listed p s = listed_most p.bound.kind (and_l _ _ (tests p s).groups)

-- head, links, groups
pub text_length : (p : Plan) → length (plan_text p) ≡ 9 + length (link_lines p 400 0) + 9 * listed p.bound.kind
unfolding plan_text
text_length p =
    let a : length (plan_text p) ≡ length (head_line p) + length (link_lines p 400 0 ++ group_lines p.bound.groups (listed p.bound.kind) 0) =
    length-append (head_line p) (link_lines p 400 0 ++ group_lines p.bound.groups (listed p.bound.kind) 0) in
    let b : length (link_lines p 400 0 ++ group_lines p.bound.groups (listed p.bound.kind) 0)
    ≡ length (link_lines p 400 0) + length (group_lines p.bound.groups (listed p.bound.kind) 0) =
    length-append (link_lines p 400 0) (group_lines p.bound.groups (listed p.bound.kind) 0) in
    omega (arith, head_length p, groups_length p.bound.groups (listed p.bound.kind) 0)

-- at most 9 bytes for the head, 7 for each of 400 places and 9 for each of 16 groups
pub text_short : (p : Plan) → cause_of p ≡ 0 → length (plan_text p) ≤ 2953
text_short p s = let m = sound_listed p s in omega (arith, text_length p, links_length p 400 0)
