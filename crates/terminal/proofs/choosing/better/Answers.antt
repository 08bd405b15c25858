-- `better` meets its contract: both tests of the code are the definition's. Assumes nothing.
use mathlib.Core.Path.{sym}
use mathlib.Core.Logic.{⊎_elim}
use borrow.Author.Tests.{lt-ltb, le-ltb, eq-eqb, ne_eqb}
use Rattle.sets.proofs.Bools.{and_i, and_no_l, and_no_r, not_i, not_yes, pick_yes, pick_no}
use Rattle.terminal.proofs.choosing.better.Goals as goal

pub returns-then-layout-ne0 : goal.returns-then-layout-ne0
returns-then-layout-ne0 c = sym (pick_yes _ _ _ (and_i _ _ (lt-ltb _ _ c.if-best-edition.true) (not_i (ne_eqb _ 0 c.if-layout-ne0.true))))

pub returns : goal.returns
returns c =
    ⊎_elim (λ e. sym (pick_no _ _ _ (and_no_r _ _ (not_yes (eq-eqb _ 0 e.1))))) (λ l. sym (pick_no _ _ _ (and_no_l _ _ (le-ltb _ _ l))))
    c.else-best-edition.either
