-- The verdict's answer tells it. Assumes nothing.
use mathlib.Core.Path.{◌≡◌}
use mathlib.Core.Bool.{false}
use borrow.Author.Rules.{rules}
use Rattle.std.specs.Prelude.{MatchResult, is_none}
use Rattle.tolerance.proofs.Answers.{passes_told}
use Rattle.tolerance.proofs.passes.Goals as goal

pub returns : goal.returns
returns c = let g = c.requires in
    let told : MatchResult c.verdict.result (λ w. c.is_ok_and.result ≡ is_none w) (λ x. c.is_ok_and.result ≡ false) = search rules in
    passes_told c.args.d g.0 c.args.f g.1 _ c.with_bound.ensures _ c.verdict.ensures.answer _ told
