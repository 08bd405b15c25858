-- `record_sound` meets its contract: the tests of the round, of the number and of the state, then the counts'. Assumes nothing.
use mathlib.Core.Path.{◌≡◌, refl, sym, ◌∙◌}
use mathlib.Core.Bool.{false}
use borrow.Author.Tests.{lt-ltb, le-ltb}
use Rattle.sets.specs.Tests.{◌and◌}
use Rattle.sets.proofs.Bools.{clash}
use Rattle.terminal.specs.Answer.{record_sound}
use Rattle.terminal.proofs.record_sound.Goals.{then-before-ge40-via-then-before-ge40, then-before-ge40-via-else-before-ge40+then-n-own, then-before-ge40-via-else-before-ge40+else-n-own+then-not-state_sound}
use Rattle.terminal.proofs.record_sound.Goals as goal

pub returns-then-before-ge40 : goal.returns-then-before-ge40
unfolding record_sound ◌and◌
returns-then-before-ge40 c =
    let a = c.args in
    let no : false ≡ record_sound a.n a.source a.own a.heard a.before.now = elim c.then-before-ge40.branch [
      | then-before-ge40-via-then-before-ge40 w ↦ simp (le-ltb _ _ w.if-before-ge40.true)
      | then-before-ge40-via-else-before-ge40+then-n-own w ↦ simp (lt-ltb _ _ w.if-before-ge40.false, le-ltb _ _ w.if-n-own.true)
      | then-before-ge40-via-else-before-ge40+else-n-own+then-not-state_sound w ↦
          simp (lt-ltb _ _ w.if-before-ge40.false, lt-ltb _ _ w.if-n-own.false, sym w.state_sound.ensures ∙ w.if-not-state_sound.true)
    ] in
    (no, λ t. clash t refl)

pub returns : goal.returns
unfolding record_sound ◌and◌
returns c = (
  simp (lt-ltb _ _ c.if-before-ge40.false, lt-ltb _ _ c.if-n-own.false, sym c.state_sound.ensures ∙ c.if-not-state_sound.false, c.counts_sound.ensures.0),
  c.counts_sound.ensures.1,
)
