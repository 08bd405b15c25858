-- The definition's choices by the tests that led there; the last is what the step promises. Assumes nothing.
use Prim.Native.Nat.{ℕ}
use mathlib.Core.Path.{sym, ap, ◌∙◌}
use mathlib.Core.List.{List}
use borrow.Author.Tests.{eq-eqb, ne_eqb}
use lib.ListN.{take}
use Rattle.std.proofs.Common.{rules}
use Rattle.sets.proofs.Bools.{pick_yes, pick_no}
use Rattle.terminal.specs.Channel.{shared_record_after}
use Rattle.plan.specs.Plan.{heard_by}
use Rattle.simulation.specs.Turns.{shared_in, shared_record_of}
use Rattle.sets.proofs.Filled.{filled}
use Rattle.simulation.proofs.Heard.{layout_heard}
use Rattle.simulation.proofs.channel.record_of.Goals as goal

pub returns-then-member : goal.returns-then-member
unfolding shared_record_of
returns-then-member c = c.start.ensures ∙ sym (pick_yes _ _ _ (sym c.member.ensures ∙ c.if-member.true))

pub returns-then-t-eq0 : goal.returns-then-t-eq0
unfolding shared_record_of
returns-then-t-eq0 c =
    c.start_record.ensures
    ∙ sym (pick_no _ _ _ (sym c.member.ensures ∙ c.if-member.false) ∙ pick_yes _ _ _ (eq-eqb _ _ c.if-t-eq0.true))

pub returns : goal.returns
unfolding shared_record_of heard_by
returns c =
    let a = c.args in
    c.shared_step-stepped.ensures.1
    ∙ ap (λ (l : List ℕ). shared_record_after a.t.plan.n a.t.plan.source a.t.plan.bound a.t.at (heard_by a.t.plan a.t.at) a.t.default a.before (take a.t.plan.n l))
    (filled _ (shared_in a.t a.words.now) _ 0 20 c.from_fn-said.result (λ k y q l call. search (rules, layout_heard)) c.from_fn-said.ensures.items)
    ∙ sym (pick_no _ _ _ (sym c.member.ensures ∙ c.if-member.false) ∙ pick_no _ _ _ (ne_eqb _ _ c.if-t-eq0.false))
