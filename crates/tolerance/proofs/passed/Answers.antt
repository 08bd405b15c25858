use mathlib.Core.Path.{◌≡◌, sym, ap, ◌∙◌}
use native.Mathlib.Omega.{arith}
use Rattle.tolerance.specs.Greatest.{passes_with}
use Rattle.tolerance.proofs.Answers.{counted, counted_all}
use Rattle.tolerance.proofs.passed.Goals as goal

pub loop-f-init : goal.loop-f-init
loop-f-init c = λ g e. absurd (omega arith)

pub loop-f-preserved : goal.loop-f-preserved
loop-f-preserved c = λ g e.
    let same : g ≡ c.loop-f.f = omega arith in
    ap (passes_with c.args.d) same ∙ sym c.passes.ensures ∙ c.if-not-passes.false

pub returns-then-not-passes : goal.returns-then-not-passes
returns-then-not-passes c =
    let turn = c.loop-f in
    counted _ c.requires turn.f (omega arith) turn.invariant (sym c.passes.ensures ∙ c.if-not-passes.true)

pub returns : goal.returns
returns c =
    let e : c.loop-f.f ≡ c.args.d.n = omega arith in sym e ∙ counted_all _ c.requires _ e c.loop-f.invariant
