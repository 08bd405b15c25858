-- `choice` meets its contract: the code asks for the source's first value first, as the rule does; both ways past it end at the least that is certified.
-- Assumes nothing.
use mathlib.Core.Path.{sym, ◌∙◌}
use mathlib.Core.Logic.{inl, inr}
use lib.Bits.{bit_or}
use Rattle.sets.specs.Sets.{mem}
use Rattle.terminal.proofs.Search.{direct_yes, direct_no}
use Rattle.terminal.proofs.choice.choice.Goals.{else-member-via-then-member+else-word-ne0, else-member-via-else-member}
use Rattle.terminal.proofs.choice.choice.Goals as goal

pub returns-then-word-ne0 : goal.returns-then-word-ne0
returns-then-word-ne0 c =
    let a = c.args in
    let p = c.requires in
    let e = c.first_values-first.ensures in
    direct_yes a.n a.bound a.heard a.notes.now p.0 p.2 c.first_values-first.result.values e.2 a.source p.1
    (sym (λ i. mem a.source (bit_or (e.0 i) (e.1 i))) ∙ sym c.member.ensures ∙ c.if-member.true) c.if-word-ne0.true

pub returns : goal.returns
returns c =
    let a = c.args in
    let p = c.requires in
    let e = c.first_values-first.ensures in
    let same = sym (λ i. mem a.source (bit_or (e.0 i) (e.1 i))) in
    c.least_certified.ensures
    ∙ direct_no a.n a.bound a.heard a.notes.now p.0 p.2 c.first_values-first.result.values e.2 a.source p.1
    (elim c.else-member.branch [
      | else-member-via-then-member+else-word-ne0 w ↦ inl (same ∙ sym c.member.ensures ∙ w.if-member.true, w.if-word-ne0.false)
      | else-member-via-else-member w ↦ inr (same ∙ sym c.member.ensures ∙ w.if-member.false)
    ])
