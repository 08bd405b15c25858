-- A line is foreign, longer than any frame, or its front is its bytes. Assumes nothing.
use Prim.Native.Nat.{◌/◌}
use mathlib.Core.Path.{◌≡◌, sym, ◌∙◌}
use native.Mathlib.Omega.{arith}
use lib.ListN.{length, length-take}
use borrow.Author.Rules.{rules}
use Rattle.lines.proofs.FrameLaws.{formed_length, frame_foreign, frame_long, frame_short}
use Rattle.lines.proofs.frame_of.Goals as goal

pub slice_bounds-first-end : goal.slice_bounds-first-end
slice_bounds-first-end c = let room : length c.in-Some.first ≡ 8 = search rules in omega arith

pub slice_bounds-known_frame-end : goal.slice_bounds-known_frame-end
slice_bounds-known_frame-end c =
    let first = c.in-Some.first in
    let room : length first ≡ 8 = search rules in
    omega (arith, length-take (length c.args.line.now / 2) first)

pub known_frame-requires : goal.known_frame-requires
known_frame-requires c =
    let first = c.in-Some.first in
    let room : length first ≡ 8 = search rules in
    let long = formed_length _ c.in-Some.ensures.0 in
    omega (arith, length-take (length c.args.line.now / 2) first)

pub returns-in_default : goal.returns-in_default
returns-in_default c = sym (frame_foreign _ _ c.in_default.ensures)

pub returns-then-n-gt-MOST : goal.returns-then-n-gt-MOST
returns-then-n-gt-MOST c = sym (frame_long _ _ c.in-Some.ensures.0 c.if-n-gt-MOST.true)

pub returns : goal.returns
returns c =
    let first = c.in-Some.first in
    let room : length first ≡ 8 = search rules in
    c.known_frame.ensures ∙ frame_short _ _ first room c.in-Some.ensures.0 c.if-n-gt-MOST.false c.in-Some.ensures.1
