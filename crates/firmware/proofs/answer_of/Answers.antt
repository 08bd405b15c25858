-- By the number, which is 0 or is not. Assumes nothing.
use mathlib.Core.Path.{◌≡◌, sym, ◌∙◌}
use borrow.Author.Tests.{eq-eqb, ne_eqb}
use Rattle.sets.proofs.Bools.{pick_yes, pick_no}
use Rattle.terminal.specs.Answer.{number_of}
use Rattle.firmware.specs.Board.{answer_of}
use Rattle.firmware.proofs.Laws.{kept_board}
use Rattle.firmware.proofs.answer_of.Goals as goal

pub returns-then-number-ne0 : goal.returns-then-number-ne0
unfolding answer_of
returns-then-number-ne0 c =
    let told = c.number-number.ensures in
    let z : number_of c.args.stepped.now.outcome ≡ 0 → ⊥ = λ y. c.if-number-ne0.true (told ∙ y) in
    (λ i. record { number = told i; after = kept_board c.args.before.now c.board_of-after.result _ c.board_of-after.ensures (c.requires z) i })
    ∙ sym (pick_no _ _ _ (ne_eqb _ 0 z))

pub returns-else-number-ne0 : goal.returns-else-number-ne0
unfolding answer_of
returns-else-number-ne0 c =
    (λ i. record { number = c.if-number-ne0.false i; after = c.board_of-after.ensures i })
    ∙ sym (pick_yes _ _ _ (eq-eqb _ 0 (sym c.number-number.ensures ∙ c.if-number-ne0.false)))
