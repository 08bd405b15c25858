-- What refuses the run leaves the records; the turns of an accepted one leave those that the contract says. Assumes nothing.
use Prim.Native.Nat.{ℕ}
use mathlib.Core.Path.{sym, ap, ◌∙◌}
use mathlib.Core.List.{[]}
use Rattle.std.proofs.Common.{rules}
use Rattle.simulation.specs.Turns.{shared_record_of, first_turn}
use Rattle.simulation.proofs.Causes.{refused_by}
use Rattle.simulation.proofs.SharedPromise.{shared_small, shared_ready, shared_all_turns, shared_no_turns}
use Rattle.simulation.proofs.run_shared_over.Goals as goal

pub returns-in_err-judge_shared-clause-left : goal.returns-in_err-judge_shared-clause-left
returns-in_err-judge_shared-clause-left c = let f = c.ranges in shared_no_turns _ _ _ _ _ _ f.value.fits f.default.fits _ _ (refused_by _ _ c.in_err-judge_shared.ensures)

pub play-requires : goal.play-requires
play-requires c =
    let a = c.args in
    let f = c.ranges in
    let e = sym c.in_ok-judge_shared.ensures in
    let opening = c.first_turn.ensures ∙ ap (λ (x : ℕ). first_turn a.p a.faulty x [] a.default) c.notice_of-first.ensures in
    record {
      small = shared_small _ _ _ _ _ a.words.now f.value.fits f.default.fits _ a.records.now e _ opening;
      ready = (
        shared_record_of a.words.now,
        (
          record { may = λ t before n at round. search rules; makes = λ t before after h. search rules },
          shared_ready _ _ _ _ _ _ f.value.fits f.default.fits _ _ e (c.requires e) _ opening,
        ),
      );
    }

pub returns-clause-left : goal.returns-clause-left
returns-clause-left c =
    let a = c.args in
    let f = c.ranges in
    let opening = c.first_turn.ensures ∙ ap (λ (x : ℕ). first_turn a.p a.faulty x [] a.default) c.notice_of-first.ensures in
    c.play.ensures (shared_record_of a.words.now) (record { may = λ t before n at round. search rules; makes = λ t before after h. search rules })
    ∙ shared_all_turns _ _ _ _ _ _ f.value.fits f.default.fits _ _ (sym c.in_ok-judge_shared.ensures) _ opening
