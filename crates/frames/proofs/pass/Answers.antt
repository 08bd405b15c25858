-- The links end and are refused, or the frame is refused or accepted. Assumes nothing.
use mathlib.Core.Path.{refl}
use Rattle.frames.proofs.LineLaws.{numbered, pass_ends, pass_refused, pass_told}
use Rattle.frames.proofs.pass.Goals as goal

pub returns-in-Err : goal.returns-in-Err
returns-in-Err c = let g = c.requires in
    pass_ends _ _ _ _ _ g.0 g.1 g.3 _ c.frame_of-frame.ensures _ c.in-Err.ensures (numbered _)

pub returns-in-Ok : goal.returns-in-Ok
returns-in-Ok c = let g = c.requires in
    let e = c.in-Ok.ensures in
    pass_told _ _ _ _ _ g.0 g.1 g.3 _ c.frame_of-frame.ensures _ c.in_default.ensures refl _ e.cause _ _ refl e.next e.said c.tell.auto.words c.tell.auto.later

pub returns-in-Err-tell : goal.returns-in-Err-tell
returns-in-Err-tell c = let g = c.requires in
    pass_refused _ _ _ _ _ g.0 g.1 g.3 _ c.frame_of-frame.ensures _ c.in_default.ensures refl _ c.in-Err-tell.ensures.cause (numbered _)
