-- `same` meets its contract. Assumes nothing.
use mathlib.Core.Path.{ap, ◌∙◌}
use Prim.Native.Nat.{ℕ}
use borrow.Author.Rules.{rules}
use lib.Bits.{bit_and}
use lib.Dec.{eqb}
use lib.ListN.{get_or}
use Rattle.sets.proofs.Masks.{mask_few, mask_and}
use Rattle.terminal.specs.Votes.{same_in}
use Rattle.terminal.proofs.choice.same.Goals as goal

pub returns : goal.returns
unfolding same_in
returns c =
    let a = c.args in
    let holds = c.those.ensures (λ j. eqb (get_or a.firsts.now j 0) a.value) (λ j b k h. search rules) ∙ mask_few a.n _ c.requires in
    ap (λ (x : ℕ). bit_and x a.neighbours) holds ∙ mask_and a.n _ a.neighbours
