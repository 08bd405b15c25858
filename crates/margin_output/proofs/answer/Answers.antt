-- The table, or why the record is refused. Assumes nothing.
use Prim.Native.Nat.{ℕ}
use mathlib.Core.Path.{ap, ◌∙◌}
use Rattle.output.specs.OnFile.{refusal_line}
use Rattle.margin_output.proofs.AnswerLaws.{places_small, answer_known, answer_refused}
use Rattle.margin_output.proofs.answer.Goals as goal

pub lines-requires : goal.lines-requires
lines-requires c = places_small _ _ (c.in-Ok.ensures {u = tt})

pub returns-in-Ok : goal.returns-in-Ok
returns-in-Ok c = answer_known _ _ (c.in-Ok.ensures {u = tt}) _ _ _ c.lines.ensures c.counted.ensures c.with_counts.ensures

pub returns-in-Err : goal.returns-in-Err
returns-in-Err c = answer_refused _ _ (c.in-Err.ensures {u = tt}) _ (c.refusal.ensures ∙ ap (λ (k : ℕ). refusal_line k 0) c.from.ensures)
