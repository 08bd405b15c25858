-- A member and what stands after it, or nothing. Assumes nothing.
use mathlib.Core.Path.{sym, ap, ◌∙◌}
use Rattle.sets.proofs.Bools.{pick_yes, pick_no}
use Rattle.text.specs.Texts.{held, joined}
use Rattle.text.proofs.Laws.{then}
use Rattle.text.proofs.Phrases.{joined_none, joined_length}
use Rattle.wording.specs.Turn.{named}
use Rattle.wording.proofs.names.with_one.Goals as goal

pub with_between-requires : goal.with_between-requires
with_between-requires c = joined_length _ _ c.decimal.ensures

pub returns-then-member : goal.returns-then-member
unfolding named
returns-then-member c = then _ _ _ c.decimal.ensures c.with_between.ensures ∙ ap (joined (held c.args.t)) (sym (pick_yes _ _ _ (sym c.member.ensures ∙ c.if-member.true)))

pub returns : goal.returns
unfolding named
returns c = joined_none _ c.requires.1 ∙ ap (joined (held c.args.t)) (sym (pick_no _ _ _ (sym c.member.ensures ∙ c.if-member.false)))
