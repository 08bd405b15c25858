-- `least_certified` meets its contract: where those who have said more than one value are not enough, the first values tell. Assumes nothing.
use mathlib.Core.Path.{sym, ap, ◌∙◌}
use Rattle.sets.specs.Sets.{mem}
use Rattle.terminal.proofs.Search.{fickle_heard, firsts_found}
use Rattle.terminal.proofs.choice.least_certified.Goals as goal

pub least_of_firsts-requires : goal.least_of_firsts-requires
least_of_firsts-requires c =
    let a = c.args in
    let p = c.requires in
    (p.0, λ j m. p.2 j (fickle_heard a.n a.bound a.heard a.notes.now p.0 p.1 a.first.now.values p.5 j (ap (mem j) (sym p.4) ∙ m)))

pub returns : goal.returns
returns c =
    let a = c.args in
    let p = c.requires in
    c.least_of_firsts.ensures
    ∙ firsts_found a.n a.bound a.heard a.notes.now p.0 p.1 a.first.now.values p.5 a.first.now.single a.first.now.fickle p.3 p.4
    (sym c.enough.ensures ∙ c.if-enough.false)
