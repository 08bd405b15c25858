use mathlib.Core.Path.{refl, sym, ◌∙◌}
use native.Mathlib.Omega.{arith}
use Rattle.frames.specs.Reading.{both}
use Rattle.frames.proofs.LineLaws.{numbered, going_starts, pass_grows, ends_cut, ends_refused, ends_told}
use Rattle.frames.proofs.read_lines.Goals as goal

pub loop-i-init : goal.loop-i-init
loop-i-init c = going_starts _ _ _ _ c.requires c.nothing_read.ensures

pub loop-i-preserved-then-text-i-ne10 : goal.loop-i-preserved-then-text-i-ne10
loop-i-preserved-then-text-i-ne10 c = let l = c.loop-i in
    pass_grows c.args.reader c.args.text.now (both l.words l.later) l.at l.i l.invariant c.loop-i-test.true c.if-text-i-ne10.true

pub returns-then-at-text : goal.returns-then-at-text
returns-then-at-text c = let l = c.loop-i in
    let a = c.args in
    sym l.invariant.same ∙ ends_cut a.reader a.text.now l.at.progress (both l.words l.later) l.at.line l.at.from l.i c.loop-i-test.false l.invariant.within (omega arith)

pub returns-in-Ok : goal.returns-in-Ok
returns-in-Ok c = let l = c.loop-i in
    let a = c.args in
    sym l.invariant.same ∙ ends_told a.reader a.text.now l.at.progress (both l.words l.later) l.at.line l.at.from l.i c.loop-i-test.false (omega arith) _ c.in-Ok.ensures refl

pub returns-in-Err : goal.returns-in-Err
returns-in-Err c = let l = c.loop-i in
    let a = c.args in
    sym l.invariant.same ∙ ends_refused a.reader a.text.now l.at.progress (both l.words l.later) l.at.line l.at.from l.i c.loop-i-test.false (omega arith) _ c.in-Err.ensures (numbered _)
