-- It asks the causes in the order in which `given_cause` picks the first. Assumes nothing.
use Prim.Native.Nat.{ℕ}
use mathlib.Core.Path.{◌≡◌, sym, ap, ◌∙◌}
use mathlib.Core.Bool.{Bool}
use Rattle.quorum.specs.Notice.{layout_of}
use Rattle.quorum.specs.Words.{start_sound}
use Rattle.quorum.proofs.Words.{start_parts}
use Rattle.simulation.proofs.Causes.{given_played, given_length, given_edition, given_start}
use Rattle.simulation.proofs.judge_given.Goals as goal

-- the test of the start, as the code asked it
tested : (first rounds layout : ℕ) (asked said : Bool) → layout ≡ layout_of first → asked ≡ start_sound layout rounds → asked ≡ said → start_sound (layout_of first) rounds ≡ said
tested first rounds layout asked said l e t = ap (λ (k : ℕ). start_sound k rounds) (sym l) ∙ sym e ∙ t

pub returns-then-not-start_sound : goal.returns-then-not-start_sound
returns-then-not-start_sound c = given_start _ _ _ _ _ _ (tested _ _ _ _ _ c.layout_of.ensures c.start_sound.ensures c.if-not-start_sound.true)

pub returns-then-not-office_sound : goal.returns-then-not-office_sound
returns-then-not-office_sound c = given_edition _ _ _ _ _ _ (tested _ _ _ _ _ c.layout_of.ensures c.start_sound.ensures c.if-not-start_sound.false) (sym c.office_sound.ensures ∙ c.if-not-office_sound.true)

pub lists_fit-requires : goal.lists_fit-requires
lists_fit-requires c = (c.requires, (start_parts _ _ (sym c.start_sound.ensures ∙ c.if-not-start_sound.false)).1)

pub returns-then-not-lists_fit : goal.returns-then-not-lists_fit
returns-then-not-lists_fit c =
    given_length _ _ _ _ _ _ (tested _ _ _ _ _ c.layout_of.ensures c.start_sound.ensures c.if-not-start_sound.false) (sym c.office_sound.ensures ∙ c.if-not-office_sound.false)
    (sym c.lists_fit.ensures ∙ c.if-not-lists_fit.true)

pub returns : goal.returns
returns c =
    given_played _ _ _ _ _ _ (tested _ _ _ _ _ c.layout_of.ensures c.start_sound.ensures c.if-not-start_sound.false) (sym c.office_sound.ensures ∙ c.if-not-office_sound.false)
    (sym c.lists_fit.ensures ∙ c.if-not-lists_fit.false)
