-- Too many terminals, or else the answer by the plan's cause. Assumes nothing.
use mathlib.Core.Path.{◌≡◌, sym, ap, ◌∙◌}
use Rattle.plan.specs.declared.Plan.{Plan}
use Rattle.plan.specs.Plan.{cause_of}
use Rattle.closure.specs.Verdict.{verdict}
use Rattle.closure.specs.Answer.{judged}
use Rattle.closure.proofs.Quote.{many_refused}
use Rattle.partition.proofs.Laws.{answer_judged, plan_refused, with_check}
use Rattle.partition.proofs.judge_within.Goals as goal

pub returns-then-too_many : goal.returns-then-too_many
returns-then-too_many c =
    let told = with_check _ _ _ (sym (many_refused _ _ (sym c.too_many.ensures ∙ c.if-too_many.true))) in
    record { answer = told.0; accepted = told.1 }

pub returns : goal.returns
returns c =
    let few = sym c.too_many.ensures ∙ c.if-too_many.false in
    let site = c.in_ok-site.site in
    let e : site.plan ≡ c.args.p = c.in_ok-site.ensures in
    let told = with_check _ _ _ (answer_judged _ _ few _ (ap cause_of (sym e) ∙ site.sound) (c.judge.ensures ∙ ap (λ (p : Plan). judged (verdict p)) e)) in
    record { answer = told.0; accepted = told.1 }

pub returns-in_err-site : goal.returns-in_err-site
returns-in_err-site c =
    let few = sym c.too_many.ensures ∙ c.if-too_many.false in
    let told = with_check _ _ _ (plan_refused _ _ few _ _ c.from_residual.ensures.1 c.in_err-site.ensures) in
    record { answer = told.0; accepted = told.1 }
