-- The run on a shared channel that an accepted file asks for is not refused, so the records show those of the rules. Assumes nothing.
use Prim.Native.Nat.{ℕ, ◌*◌}
use mathlib.Core.Path.{ap, ◌∙◌}
use mathlib.Core.List.{List}
use lib.ListN.{take}
use Rattle.quorum.specs.Notice.{layout_of}
use Rattle.simulation.specs.Channel.{shared_array_after}
use Rattle.run_output.proofs.SharedLaws.{shared_lines}
use Rattle.run_output.proofs.ran_shared.Goals as goal

pub returns : goal.returns
returns c =
    let p = c.args.p in
    c.of_site.ensures
    ∙ shared_lines p c.args.words.now c.requires.0 c.requires.1 _
    (c.run_shared_site-ran.ensures.records_after
    ∙ ap (λ (v : ℕ). shared_array_after p.plan p.faulty v p.default p.rounds (take (p.rounds * p.plan.n) c.layouts-list.result)) c.layout_of.ensures
    ∙ ap (λ (l : List ℕ). shared_array_after p.plan p.faulty (layout_of p.notice) p.default p.rounds (take (p.rounds * p.plan.n) l)) c.layouts-list.ensures)
