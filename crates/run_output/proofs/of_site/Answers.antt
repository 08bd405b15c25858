use mathlib.Core.Path.{sym}
use mathlib.Core.List.{[]}
use native.Mathlib.Omega.{arith}
use Rattle.terminal.specs.declared.State.TheVariants.{Waiting}
use Rattle.terminal.specs.Shown.{nothing_heard}
use Rattle.terminal.specs.Rule.{start}
use Rattle.terminal.proofs.Shown.{shown_state}
use Rattle.simulation.specs.Answer.{state_of}
use Rattle.run_output.specs.Site.{site_lines}
use Rattle.run_output.proofs.SiteLaws.{next_line, same_state}
use Rattle.run_output.proofs.of_site.Goals as goal

pub loop-b-init : goal.loop-b-init
unfolding site_lines
loop-b-init c = c.empty-t.ensures

pub loop-b-preserved : goal.loop-b-preserved
loop-b-preserved c = let l = c.loop-b in
    let a = c.args in
    let e = same_state a.records l.b (record { state = Waiting; round = 0; notes = [] }) nothing_heard (sym (shown_state start)) in
    next_line a.form l.b a.faulty (state_of a.records) _ _ _ _ (omega arith) c.member-bad.ensures e l.invariant c.with_terminal-t.ensures
