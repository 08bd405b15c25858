-- Each answer's line, by what it tells. Assumes nothing.
use Prim.Native.Nat.{ℕ}
use mathlib.Core.Path.{◌≡◌, refl, ap, ◌∙◌}
use native.Mathlib.Omega.{arith}
use Rattle.std.specs.Prelude.{Some, None, Ok}
use Rattle.output.specs.OnFile.{refusal_line}
use Rattle.greatest_output.proofs.LineLaws.{says_found, says_refusal}
use Rattle.greatest_output.proofs.answer.Goals as goal

pub returns-in-Ok-None : goal.returns-in-Ok-None
returns-in-Ok-None c = let e : c.in-Ok-None.field-0 ≡ None = rw c.in-Ok-None.is at c.in-Ok-None.field-0-is in
    says_found _ (Ok None) _ (c.in-Ok-None.is ∙ ap Ok e) refl c.none_line.ensures

pub bound_line-requires : goal.bound_line-requires
bound_line-requires c = let e : c.in-Ok-Some.field-0 ≡ Some c.in-Ok-Some.f = rw c.in-Ok-Some.is at c.in-Ok-Some.field-0-is in
    let small = rw (c.in-Ok-Some.is ∙ ap Ok e) at c.requires in
    omega (arith, small)

pub returns-in-Ok-Some : goal.returns-in-Ok-Some
returns-in-Ok-Some c = let e : c.in-Ok-Some.field-0 ≡ Some c.in-Ok-Some.f = rw c.in-Ok-Some.is at c.in-Ok-Some.field-0-is in
    says_found _ (Ok (Some _)) _ (c.in-Ok-Some.is ∙ ap Ok e) refl c.bound_line.ensures

pub returns-in-Err : goal.returns-in-Err
returns-in-Err c = says_refusal _ _ _ c.in-Err.is (c.refusal.ensures ∙ ap (λ (k : ℕ). refusal_line k 0) c.from.ensures)
