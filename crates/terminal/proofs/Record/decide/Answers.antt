-- `decide` meets its contract: its state stays where the choice is 0, and takes the choice where it is not. Assumes nothing.
use mathlib.Core.Path.{sym, ap, ◌∙◌}
use mathlib.Core.List.{map}
use Rattle.terminal.specs.declared.State.{State}
use Rattle.terminal.specs.Rule.{chosen, taking}
use Rattle.terminal.specs.Shown.{spoken_in}
use Rattle.terminal.proofs.Laws.{taking_none, taking_some}
use Rattle.terminal.proofs.Record.decide.Goals as goal

pub returns-then-notice-ne0 : goal.returns-then-notice-ne0
returns-then-notice-ne0 c =
    let r = c.args.self in
    let a = c.args in
    let e = c.chosen-notice.ensures ∙ ap (chosen a.n a.source a.bound a.heard (map spoken_in r.notes)) c.held.ensures in
    ap (λ (s : State). record { state = s; round = r.round; notes = r.notes })
    (sym (taking_some r.round r.state _ c.if-notice-ne0.true) ∙ ap (taking r.round r.state) e)

pub returns-else-notice-ne0 : goal.returns-else-notice-ne0
returns-else-notice-ne0 c =
    let r = c.args.self in
    let a = c.args in
    let e = c.chosen-notice.ensures ∙ ap (chosen a.n a.source a.bound a.heard (map spoken_in r.notes)) c.held.ensures in
    ap (λ (s : State). record { state = s; round = r.round; notes = r.notes }) (sym (taking_none r.round r.state _ (sym e ∙ c.if-notice-ne0.false)))
