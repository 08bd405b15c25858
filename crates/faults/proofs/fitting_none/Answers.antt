use mathlib.Core.Path.{◌≡◌, ◌∙◌}
use mathlib.Core.Bool.{not}
use lib.ListN.{get_or}
use borrow.Author.Rules.{rules}
use Rattle.sets.specs.Tests.{◌and◌, ◌implies◌}
use Rattle.sets.specs.Sets.{mem, all, some}
use Rattle.faults.proofs.Rows.{row_fits}
use Rattle.faults.proofs.fitting_none.Goals as goal

pub returns : goal.returns
returns c =
    let a = c.args in
    let outer = c.outside_groups-others.result in
    c.those.ensures (λ b. not (some 16 (λ i. all 32 (λ j. (mem j (get_or a.rows b 0) and mem j a.a) implies mem j (get_or a.groups i 0)))))
    (λ b x k h.
    let meets : x ≡ not (some 16 (λ i. all 32 (λ j. not (mem j (get_or a.rows b 0) and mem j (get_or outer i 0))))) = search rules in
    meets ∙ row_fits (get_or a.rows b 0) a.a outer a.groups c.outside_groups-others.ensures)
