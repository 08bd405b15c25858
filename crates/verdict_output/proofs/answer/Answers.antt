-- Each judgement's line, by what the judgement tells. Assumes nothing.
use Prim.Native.Nat.{ℕ}
use mathlib.Core.Path.{◌≡◌, refl, ap, ◌∙◌}
use Rattle.std.specs.Prelude.{Some, None, Ok}
use Rattle.output.specs.OnFile.{refusal_line}
use Rattle.verdict_output.proofs.LineLaws.{says_verdict, says_refusal, low_sets}
use Rattle.verdict_output.proofs.answer.Goals as goal

pub returns-in-Ok-None : goal.returns-in-Ok-None
returns-in-Ok-None c = let e : c.in-Ok-None.field-0 ≡ None = rw c.in-Ok-None.is at c.in-Ok-None.field-0-is in
    says_verdict _ (Ok None) _ (c.in-Ok-None.is ∙ ap Ok e) refl c.line.ensures

pub returns-in-Ok-Some : goal.returns-in-Ok-Some
returns-in-Ok-Some c = let e : c.in-Ok-Some.field-0 ≡ Some c.in-Ok-Some.w = rw c.in-Ok-Some.is at c.in-Ok-Some.field-0-is in
    let small = rw (c.in-Ok-Some.is ∙ ap Ok e) at c.requires in
    says_verdict _ (Ok (Some _)) _ (c.in-Ok-Some.is ∙ ap Ok e) refl (c.line-in-Ok-Some.ensures ∙ low_sets _ _ _ _ small)

pub returns-in-Err : goal.returns-in-Err
returns-in-Err c = says_refusal _ _ _ c.in-Err.is (c.refusal.ensures ∙ ap (λ (k : ℕ). refusal_line k 0) c.from.ensures)
