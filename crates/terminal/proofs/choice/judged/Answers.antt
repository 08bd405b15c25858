-- `judged` meets its contract: where all who may have said the value are not enough, nobody's vote is looked at. Assumes nothing.
use Prim.Native.Nat.{ℕ}
use mathlib.Core.Path.{sym, ap, ◌∙◌}
use lib.Bits.{bit_or}
use Rattle.terminal.specs.Votes.{if_enough}
use Rattle.terminal.proofs.Search.{few_none}
use Rattle.terminal.proofs.choice.judged.Goals as goal

pub returns-then-enough : goal.returns-then-enough
returns-then-enough c =
    let a = c.args in
    c.if_enough.ensures ∙ ap (λ (s : ℕ). if_enough a.bound (bit_or a.who s) a.value) c.voters.ensures

pub returns : goal.returns
returns c =
    let a = c.args in
    sym (few_none a.n a.bound a.notes.now a.who a.fickle a.value (sym c.enough.ensures ∙ c.if-enough.false))
