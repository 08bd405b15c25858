use Prim.Native.Nat.{ℕ}
use mathlib.Core.Path.{refl, ap, ◌∙◌}
use mathlib.Core.List.{map}
use lib.ListN.{get_or}
use Rattle.std.proofs.lemmas.List.{take_all}
use Rattle.terminal.specs.Rule.{least_of, candidate}
use Rattle.terminal.specs.Shown.{values_in}
use Rattle.terminal.specs.Votes.{if_enough}
use Rattle.terminal.proofs.Walks.{least_of_turn}
use Rattle.terminal.proofs.Search.{voters_candidate}
use Rattle.terminal.proofs.choice.least_of.Goals as goal

pub loop-value-init : goal.loop-value-init
unfolding least_of
loop-value-init c = refl

pub loop-value-preserved : goal.loop-value-preserved
loop-value-preserved c =
    let a = c.args in
    let turn = c.loop-value in
    let items = c.said-value-items.result.now in
    c.lesser-best.ensures
    ∙ least_of_turn turn.value-index turn.best c.if_enough.result (candidate a.n a.bound a.heard (map values_in a.notes.now)) items c.loop-value-test.true
    turn.invariant
    (c.if_enough.ensures ∙ ap (λ (s : ℕ). if_enough a.bound s (get_or items turn.value-index 0)) c.voters-who.ensures
    ∙ voters_candidate a.n a.bound a.heard a.notes.now c.requires.0 (get_or items turn.value-index 0))

pub returns : goal.returns
returns c =
    let a = c.args in
    c.loop-value.invariant
    ∙ ap (least_of (candidate a.n a.bound a.heard (map values_in a.notes.now))) (take_all _ c.said-value-items.result.now c.loop-value-test.false ∙ c.said-value-items.ensures)
