-- Each judgement's line, by what the judgement tells. Assumes nothing.
use Prim.Native.Nat.{ℕ}
use mathlib.Core.Path.{◌≡◌, refl, ap, ◌∙◌}
use Rattle.std.specs.Prelude.{Some, None, Ok}
use Rattle.output.specs.OnFile.{refusal_line}
use Rattle.sentence_output.proofs.Answers.{says_passed, says_failed, says_refused}
use Rattle.sentence_output.proofs.answer.Goals as goal

pub returns-in-Ok-None : goal.returns-in-Ok-None
returns-in-Ok-None c = let e : c.in-Ok-None.field-0 ≡ None = rw c.in-Ok-None.is at c.in-Ok-None.field-0-is in
    says_passed _ _ _ (c.in-Ok-None.is ∙ ap Ok e) c.pass_line.ensures

pub fail_line-requires : goal.fail_line-requires
fail_line-requires c = let e : c.in-Ok-Some.field-0 ≡ Some c.in-Ok-Some.w = rw c.in-Ok-Some.is at c.in-Ok-Some.field-0-is in
    let composes = rw (c.in-Ok-Some.is ∙ ap Ok e) at c.requires in
    composes refl

pub returns-in-Ok-Some : goal.returns-in-Ok-Some
returns-in-Ok-Some c = let e : c.in-Ok-Some.field-0 ≡ Some c.in-Ok-Some.w = rw c.in-Ok-Some.is at c.in-Ok-Some.field-0-is in
    says_failed _ _ _ _ (c.in-Ok-Some.is ∙ ap Ok e) c.fail_line.ensures

pub returns-in-Err : goal.returns-in-Err
returns-in-Err c = says_refused _ _ _ _ c.in-Err.is (c.refusal.ensures ∙ ap (λ (k : ℕ). refusal_line k 0) c.from.ensures)
