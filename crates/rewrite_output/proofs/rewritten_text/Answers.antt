use mathlib.Core.Path.{refl, ap, ◌∙◌}
use Rattle.frames.specs.Reading.{ArchiveRead}
use Rattle.output.proofs.Laws.{put_as}
use Rattle.rewrite_output.specs.Rewritten.{rewritten_on, rewritten_text}
use Rattle.rewrite_output.proofs.Laws.{put_refusal, anew_text, anew_answer}
use Rattle.rewrite_output.proofs.rewritten_text.Goals as goal

-- The file's reading decides: the writer's text of the plan, or the refusal's line. Assumes nothing.

pub returns-in-Ok : goal.returns-in-Ok
unfolding rewritten_text
returns-in-Ok c = let e = ap (λ (r : ArchiveRead). r.file) (c.in-Ok.ensures {u = tt}) in
    let w = c.write_plan.ensures in
    let p = put_as c.on_line.result c.write_plan.new.out c.args.out.now _ _ _ _ e (anew_text _ _ e refl ∙ ap rewritten_on e) (anew_answer _ _ e refl _ _ c.args.out.now c.on_line.ensures w.value) w.out_after in
    record { value = p.0; out_after = p.1 }

pub returns-in-Err : goal.returns-in-Err
unfolding rewritten_text
returns-in-Err c = let e = ap (λ (r : ArchiveRead). r.file) (c.in-Err.ensures {u = tt}) in
    let p = put_refusal _ _ _ e c.refused.ensures.value c.refused.ensures.out_after in
    record { value = p.0; out_after = p.1 }
