-- `issue_cause` meets its contract: it asks the causes in the order in which `issue_cause` picks the first. Assumes nothing.
use mathlib.Core.Path.{◌≡◌, sym, ◌∙◌}
use mathlib.Core.Bool.{true, false}
use native.Mathlib.Omega.{arith}
use lib.Dec.{ltb}
use borrow.Author.Tests.{eq-eqb, ne_eqb, lt-ltb, le-ltb}
use Rattle.sets.proofs.Bools.{not_i, not_yes}
use Rattle.sets.proofs.Causes.{cause_here, cause_later, cause_last}
use Rattle.quorum.specs.Notice.{edition_of}
use Rattle.terminal.specs.Rule.{held_by}
use Rattle.terminal.specs.Answer.{issue_cause}
use Rattle.terminal.proofs.issue_cause.Goals as goal

pub returns-then-layout_of-eq0 : goal.returns-then-layout_of-eq0
unfolding issue_cause
returns-then-layout_of-eq0 c = sym (cause_here _ 9 _ (eq-eqb _ 0 (sym c.layout_of.ensures ∙ c.if-layout_of-eq0.true)))

pub returns-then-edition_of-held : goal.returns-then-edition_of-held
unfolding issue_cause
returns-then-edition_of-held c =
    let not_above : ltb (held_by c.args.before.now.state) (edition_of c.args.notice) ≡ false =
    le-ltb _ _ (let h = c.held.ensures in let e = c.edition_of.ensures in let t = c.if-edition_of-held.true in omega arith) in
    sym (cause_later _ 9 _ (ne_eqb _ 0 (λ e. c.if-layout_of-eq0.false (c.layout_of.ensures ∙ e))) ∙ cause_here _ 16 _ (not_i not_above))

pub returns-then-not-office_sound : goal.returns-then-not-office_sound
unfolding issue_cause
returns-then-not-office_sound c =
    let above : ltb (held_by c.args.before.now.state) (edition_of c.args.notice) ≡ true =
    lt-ltb _ _ (let h = c.held.ensures in let e = c.edition_of.ensures in let t = c.if-edition_of-held.false in omega arith) in
    sym (
    cause_later _ 9 _ (ne_eqb _ 0 (λ e. c.if-layout_of-eq0.false (c.layout_of.ensures ∙ e))) ∙ cause_later _ 16 _ (not_yes above)
    ∙ cause_here _ 13 _ (not_i (sym c.office_sound.ensures ∙ c.if-not-office_sound.true))
    )

pub returns : goal.returns
unfolding issue_cause
returns c =
    let above : ltb (held_by c.args.before.now.state) (edition_of c.args.notice) ≡ true =
    lt-ltb _ _ (let h = c.held.ensures in let e = c.edition_of.ensures in let t = c.if-edition_of-held.false in omega arith) in
    sym (
    cause_later _ 9 _ (ne_eqb _ 0 (λ e. c.if-layout_of-eq0.false (c.layout_of.ensures ∙ e))) ∙ cause_later _ 16 _ (not_yes above)
    ∙ cause_last _ 13 (not_yes (sym c.office_sound.ensures ∙ c.if-not-office_sound.false))
    )
