-- The office's promise, on what the board's record stands for; no note of it changes. Assumes nothing.
use mathlib.Core.Path.{◌≡◌, sym, ap, ◌∙◌}
use mathlib.Core.List.{List}
use Rattle.terminal.specs.declared.Note.{Note}
use Rattle.firmware.specs.declared.BoardAnswer.{BoardAnswer}
use Rattle.firmware.proofs.Laws.{issue_answered, issue_kept, issued_notes}
use Rattle.firmware.proofs.hulmayek_issue.Goals as goal

with_notes : (a b : BoardAnswer) (notes : List Note) → a ≡ b → b.after.notes ≡ notes
    → record { number = a.number; after = record { taken = a.after.taken; at = a.after.at; round = a.after.round; notice = a.after.notice; notes = notes } } ≡ b
with_notes a b notes e k =
    ap
    (λ (l : List Note). record {
      number = a.number;
      after = record { taken = a.after.taken; at = a.after.at; round = a.after.round; notice = a.after.notice; notes = l };
    })
    (sym k ∙ sym (ap (λ (y : BoardAnswer). y.after.notes) e))
    ∙ e

pub answer_of-answer-requires : goal.answer_of-answer-requires
answer_of-answer-requires c = issue_kept _ _ c.record_of.ensures _ _ _ c.issue.ensures.0 c.issue.ensures.1

pub returns : goal.returns
returns c =
    let s = c.issue.ensures in
    with_notes _ _ _ (c.answer_of-answer.ensures ∙ issue_answered _ _ c.record_of.ensures _ _ _ s.0 s.1) (issued_notes _ _)
