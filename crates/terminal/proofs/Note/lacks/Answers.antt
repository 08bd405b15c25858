-- `lacks` meets its contract: a higher edition, the note's own and a lower one. Assumes nothing.
use mathlib.Core.Path.{sym, ap, ◌∙◌}
use mathlib.Core.Bool.{not}
use native.Mathlib.Omega.{arith}
use borrow.Author.Tests.{lt-ltb, ne_eqb}
use Rattle.terminal.proofs.Noting.{lacks_higher, lacks_own, lacks_lower}
use Rattle.terminal.proofs.Note.lacks.Goals as goal

pub returns-then-self-edition : goal.returns-then-self-edition
returns-then-self-edition c = lt-ltb _ _ c.if-self-edition.true ∙ sym (lacks_higher c.args.self.now _ _ c.if-self-edition.true)

pub returns-then-self-edition-2 : goal.returns-then-self-edition-2
returns-then-self-edition-2 c = ap not c.has.ensures ∙ sym (lacks_own c.args.self.now _ _ c.if-self-edition-2.true)

pub returns-else-self-edition-2 : goal.returns-else-self-edition-2
returns-else-self-edition-2 c =
    let n = c.if-self-edition-2.false in
    let l = c.if-self-edition.false in
    ne_eqb _ _ n ∙ sym (lacks_lower c.args.self.now c.args.edition c.args.layout (omega arith))
