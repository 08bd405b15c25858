-- One digit, two or three. Assumes nothing.
use mathlib.Core.Path.{ap, ◌∙◌}
use Rattle.text.specs.Texts.{held, joined}
use Rattle.text.proofs.Laws.{then, decimal_one, decimal_two, decimal_three}
use Rattle.text.proofs.Text.decimal.Goals as goal

pub returns-then-v-lt10 : goal.returns-then-v-lt10
returns-then-v-lt10 c = c.raw.ensures ∙ ap (joined (held c.args.self)) (decimal_one c.args.v c.if-v-lt10.true)

pub returns-then-v-lt100 : goal.returns-then-v-lt100
returns-then-v-lt100 c = let a = c.args in
    then _ _ _ c.raw-then-v-lt100.ensures c.raw-then-v-lt100-2.ensures ∙ ap (joined (held a.self)) (decimal_two a.v c.if-v-lt10.false c.if-v-lt100.true)

pub returns : goal.returns
returns c = let a = c.args in
    then _ _ _ (then _ _ _ c.raw-2.ensures c.raw-3.ensures) c.raw-4.ensures ∙ ap (joined (held a.self)) (decimal_three a.v c.if-v-lt100.false)
