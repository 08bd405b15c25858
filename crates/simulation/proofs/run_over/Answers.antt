-- What refuses the run leaves the records; the turns of an accepted one leave those that the contract says. Assumes nothing.
use mathlib.Core.Path.{sym, ◌∙◌}
use Rattle.std.proofs.Common.{rules}
use Rattle.simulation.specs.Turns.{record_of}
use Rattle.simulation.proofs.Causes.{refused_by}
use Rattle.simulation.proofs.Promise.{small, ready, all_turns, no_turns}
use Rattle.simulation.proofs.run_over.Goals as goal

pub returns-in_err-judge-clause-left : goal.returns-in_err-judge-clause-left
returns-in_err-judge-clause-left c = no_turns _ _ _ _ _ _ _ _ (refused_by _ _ c.in_err-judge.ensures)

pub play-requires : goal.play-requires
play-requires c =
    let e = sym c.in_ok-judge.ensures in
    record {
      small = small _ _ _ _ _ c.args.words.now _ c.args.records.now e _ c.first_turn.ensures;
      ready = (
        record_of c.args.words.now,
        (
          record { may = λ t before n at round. search rules; makes = λ t before after h. search rules },
          ready _ _ _ _ _ _ _ _ e (c.requires e) _ c.first_turn.ensures,
        ),
      );
    }

pub returns-clause-left : goal.returns-clause-left
returns-clause-left c =
    c.play.ensures (record_of c.args.words.now) (record { may = λ t before n at round. search rules; makes = λ t before after h. search rules })
    ∙ all_turns _ _ _ _ _ _ _ _ (sym c.in_ok-judge.ensures) _ c.first_turn.ensures
