-- The text of the file's lines, or why it is refused, put into the list. Assumes nothing.
use mathlib.Core.Path.{refl, ◌∙◌}
use Rattle.run_output.proofs.SiteLaws.{words_room, later_room, read_playable, read_shared_playable, read_is, said_is, put_ran, put_refusal}
use Rattle.run_output.proofs.RoundsLeftOut.{put_left_out}
use Rattle.run_output.proofs.run_text.Goals as goal

pub ran-requires : goal.ran-requires
ran-requires c = let e = c.in-Ok.ensures {u = tt} in
    let lists = c.read_run.auto in
    (read_shared_playable _ _ _ _ e.value e.words_after e.later_after refl, read_playable _ _ _ _ e.value e.words_after e.later_after refl, lists.words ∙ words_room, lists.later ∙ later_room)

pub returns-in-Ok : goal.returns-in-Ok
returns-in-Ok c = let e = c.in-Ok.ensures {u = tt} in
    let put = put_ran _ _ _ _ _ (read_is _ _ _ _ e.value e.words_after e.later_after) (said_is _ _ _ _ e.value e.words_after e.later_after refl) c.ran.ensures c.accepted.ensures.value c.accepted.ensures.out_after in
    record { value = put.0; out_after = put.1; rounds_left_out = put_left_out _ _ _ _ put.0 put.1 }

pub returns-in-Err : goal.returns-in-Err
returns-in-Err c = let e = c.in-Err.ensures {u = tt} in
    let put = put_refusal _ _ _ (read_is _ _ _ _ e.value e.words_after e.later_after) c.refused.ensures.value c.refused.ensures.out_after in
    record { value = put.0; out_after = put.1; rounds_left_out = put_left_out _ _ _ _ put.0 put.1 }
