-- By the bytes, one test at a time. Assumes nothing.
use borrow.Author.Tests.{eq-eqb, ne_eqb}
use Rattle.sets.specs.Tests.{◌and◌, pick}
use Rattle.firmware.specs.Board.{state_of}
use Rattle.firmware.proofs.state_of.Goals.{else-taken-eq0-via-then-taken-eq0+then-at-eq0+else-notice-eq0, else-taken-eq0-via-then-taken-eq0+else-at-eq0, else-taken-eq0-via-else-taken-eq0}
use Rattle.firmware.proofs.state_of.Goals as goal

pub returns-then-taken-eq1 : goal.returns-then-taken-eq1
unfolding state_of pick ◌and◌
returns-then-taken-eq1 c = simp (eq-eqb _ 1 c.if-taken-eq1.true)

pub returns-then-notice-eq0 : goal.returns-then-notice-eq0
unfolding state_of pick ◌and◌
returns-then-notice-eq0 c = simp (ne_eqb _ 1 c.if-taken-eq1.false, eq-eqb _ 0 c.if-taken-eq0.true, eq-eqb _ 0 c.if-at-eq0.true, eq-eqb _ 0 c.if-notice-eq0.true)

pub returns : goal.returns
unfolding state_of pick ◌and◌
returns c =
    elim c.else-taken-eq0.branch [
      | else-taken-eq0-via-then-taken-eq0+then-at-eq0+else-notice-eq0 w ↦
          simp (ne_eqb _ 1 c.if-taken-eq1.false, eq-eqb _ 0 w.if-taken-eq0.true, eq-eqb _ 0 w.if-at-eq0.true, ne_eqb _ 0 w.if-notice-eq0.false)
      | else-taken-eq0-via-then-taken-eq0+else-at-eq0 w ↦
          simp (ne_eqb _ 1 c.if-taken-eq1.false, eq-eqb _ 0 w.if-taken-eq0.true, ne_eqb _ 0 w.if-at-eq0.false)
      | else-taken-eq0-via-else-taken-eq0 w ↦ simp (ne_eqb _ 1 c.if-taken-eq1.false, ne_eqb _ 0 w.if-taken-eq0.false)
    ]
