-- `least_from` meets its contract, by whether the neighbour is heard. Assumes nothing.
use mathlib.Core.Path.{sym, ap, ◌∙◌}
use mathlib.Core.List.{map}
use Rattle.sets.proofs.Bools.{pick_yes, pick_no}
use Rattle.terminal.specs.Rule.{least_of, candidate, least_from}
use Rattle.terminal.specs.Shown.{values_in}
use Rattle.terminal.proofs.Shown.{view_values}
use Rattle.terminal.proofs.choice.least_from.Goals as goal

pub returns-then-member : goal.returns-then-member
unfolding least_from
returns-then-member c =
    let a = c.args in
    c.least_of.ensures
    ∙ ap (least_of (candidate a.n a.bound a.heard (map values_in a.notes.now))) (sym (view_values a.notes.now a.j))
    ∙ sym (pick_yes _ _ _ (sym c.member.ensures ∙ c.if-member.true))

pub returns : goal.returns
unfolding least_from
returns c = sym (pick_no _ _ _ (sym c.member.ensures ∙ c.if-member.false))
