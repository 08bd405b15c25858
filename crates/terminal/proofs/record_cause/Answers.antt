-- `record_cause` meets its contract: the record's test, then the list's. Assumes nothing.
use native.Mathlib.Omega.{arith}
use mathlib.Core.Path.{sym, ◌∙◌}
use borrow.Author.Tests.{eq-eqb, ne_eqb}
use Rattle.sets.specs.Tests.{pick}
use Rattle.sets.specs.Causes.{first_cause}
use Rattle.terminal.specs.Votes.{record_cause_of}
use Rattle.terminal.proofs.record_cause.Goals as goal

pub returns-then-not-record_sound : goal.returns-then-not-record_sound
unfolding record_cause_of first_cause pick
returns-then-not-record_sound c = (simp (sym c.record_sound.ensures.0 ∙ c.if-not-record_sound.true), λ z. absurd (omega (arith, z)))

pub returns-then-words-n : goal.returns-then-words-n
unfolding record_cause_of first_cause pick
returns-then-words-n c = (
  simp (sym c.record_sound.ensures.0 ∙ c.if-not-record_sound.false, ne_eqb _ _ c.if-words-n.true),
  λ z. absurd (omega (arith, z)),
)

pub returns : goal.returns
unfolding record_cause_of first_cause pick
returns c = (
  simp (sym c.record_sound.ensures.0 ∙ c.if-not-record_sound.false, eq-eqb _ _ c.if-words-n.false),
  λ z. c.record_sound.ensures.1 c.if-not-record_sound.false,
)
