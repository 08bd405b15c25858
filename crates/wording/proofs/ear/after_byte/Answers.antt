-- A figure, or the end of a number. Assumes nothing.
use mathlib.Core.Path.{sym, ap, ◌∙◌}
use Rattle.sets.proofs.Bools.{pick_yes, pick_no}
use Rattle.wording.specs.declared.ear.Ear.{Ear}
use Rattle.wording.specs.Ear.{turned, after_byte}
use Rattle.wording.proofs.Ears.{figure_is}
use Rattle.wording.proofs.ear.after_byte.Goals as goal

pub figured-requires : goal.figured-requires
figured-requires c = sym (c.is_ascii_digit.ensures.value ∙ figure_is c.args.byte) ∙ c.if-is_ascii_digit.true

pub returns-then-is_ascii_digit : goal.returns-then-is_ascii_digit
unfolding after_byte
returns-then-is_ascii_digit c =
    c.figured.ensures ∙ sym (pick_yes _ _ _ (sym (c.is_ascii_digit.ensures.value ∙ figure_is c.args.byte) ∙ c.if-is_ascii_digit.true))

pub returns : goal.returns
unfolding after_byte
returns c =
    c.turned.ensures
    ∙ ap (λ (e : Ear). turned e c.args.byte) c.placed.ensures
    ∙ sym (pick_no _ _ _ (sym (c.is_ascii_digit.ensures.value ∙ figure_is c.args.byte) ∙ c.if-is_ascii_digit.false))
