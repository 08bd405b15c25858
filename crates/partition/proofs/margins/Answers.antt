-- Whether a group is listed decides, then the plan's cause. Assumes nothing.
use mathlib.Core.Path.{◌≡◌, refl, sym, ap, ◌∙◌}
use native.Mathlib.Omega.{arith}
use Rattle.sets.specs.Tables.{table}
use Rattle.plan.specs.declared.Plan.{Plan}
use Rattle.plan.specs.Plan.{cause_of}
use Rattle.plan.proofs.Laws.{sound}
use Rattle.partition.specs.Margins.{standing_of}
use Rattle.partition.specs.declared.MarginsError.TheVariants.{WrongRange}
use Rattle.partition.proofs.Sheets.{groupless_i, groupless_no, groupless_cause, groups_no, grouped_cause, margins_refused, margins_known, plan_refused}
use Rattle.partition.proofs.margins.Goals.{In_ok-site}
use Rattle.partition.proofs.margins.Goals as goal

pub returns-in_default : goal.returns-in_default
returns-in_default c = margins_refused _ WrongRange (sym (grouped_cause _ (groups_no c.args.p _ c.in_default.is)))

pub returns-then-not-no_groups : goal.returns-then-not-no_groups
returns-then-not-no_groups c = margins_refused _ WrongRange (sym (grouped_cause _ (groupless_no c.args.p _ refl _ c.in-Most.is (sym c.no_groups.ensures ∙ c.if-not-no_groups.true))))

pub returns-in_err-site : goal.returns-in_err-site
returns-in_err-site c =
    let kind = c.in-Most.is in
    let none = groupless_i c.args.p _ refl _ kind (sym c.no_groups.ensures ∙ c.if-not-no_groups.false) in
    plan_refused _ _ _ c.from_residual.ensures.1 (c.in_err-site.ensures ∙ sym (groupless_cause _ _ kind none))

module _ (c : In_ok-site) where
  site_is : c.in_ok-site.site.plan ≡ c.args.p
  site_is = c.in_ok-site.ensures

  is_plan : cause_of c.args.p ≡ 0
  is_plan = ap cause_of (sym site_is) ∙ c.in_ok-site.site.sound

pub overflow_cast-f : goal.overflow_cast-f
overflow_cast-f c =
    let s = sound _ (is_plan (goal.at.overflow_cast-f c).In_ok-site) in
    let l = s.f_below _ c.in-Most.is in
    let t = s.twenty in
    omega arith

pub standings-requires : goal.standings-requires
standings-requires c = ap (λ (p : Plan). p.bound.kind) (site_is (goal.at.standings-requires c).In_ok-site) ∙ c.in-Most.is

pub returns : goal.returns
returns c =
    let kind = c.in-Most.is in
    let none = groupless_i c.args.p _ refl _ kind (sym c.no_groups.ensures ∙ c.if-not-no_groups.false) in
    let made = (goal.at.returns c).In_ok-site in
    margins_known _ _ (c.standings.ensures ∙ ap (λ (p : Plan). table 20 (standing_of p)) (site_is made)) (groupless_cause _ _ kind none ∙ is_plan made)
