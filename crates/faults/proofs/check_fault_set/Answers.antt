use Prim.Native.Nat.{◌^◌}
use mathlib.Core.Path.{sym, ◌∙◌}
use borrow.Author.Tests.{ltb-true}
use Rattle.sets.specs.Sets.{within}
use Rattle.sets.proofs.Bools.{and_l}
use Rattle.quorum.specs.Quorum.{others}
use Rattle.faults.proofs.Laws.{fault_bounded, fault_unbounded, fault_members, plan_refused}
use Rattle.faults.proofs.check_fault_set.Goals as goal

pub returns-in_err-check : goal.returns-in_err-check
returns-in_err-check c = plan_refused _ _ _ _ c.from_residual.ensures.1 c.in_err-check.ensures

pub bounded-requires : goal.bounded-requires
unfolding others within
bounded-requires c =
    (sym c.in_ok-check.ensures, ltb-true c.args.s (2 ^ c.args.p.n) (and_l _ _ (sym c.others.ensures ∙ c.if-not-others.false)))

pub returns-then-not-others : goal.returns-then-not-others
returns-then-not-others c = fault_members _ _ (sym c.in_ok-check.ensures) (sym c.others.ensures ∙ c.if-not-others.true)

pub returns-then-not-bounded : goal.returns-then-not-bounded
returns-then-not-bounded c =
    fault_unbounded _ _ (sym c.in_ok-check.ensures) (sym c.others.ensures ∙ c.if-not-others.false)
    (sym c.bounded.ensures ∙ c.if-not-bounded.true)

pub returns : goal.returns
returns c =
    fault_bounded _ _ (sym c.in_ok-check.ensures) (sym c.others.ensures ∙ c.if-not-others.false)
    (sym c.bounded.ensures ∙ c.if-not-bounded.false)
