-- By the letter. Assumes nothing.
use mathlib.Core.Path.{sym}
use borrow.Author.Tests.{eq-eqb, ne_eqb}
use Rattle.sets.proofs.Bools.{or_l, or_r, or_no, pick_yes, pick_no}
use Rattle.wording.specs.Ear.{is_turn, turned}
use Rattle.wording.proofs.ear.turned.Goals as goal
use Rattle.wording.proofs.ear.turned.Goals.{then-byte-eq69-via-then-byte-eq69, then-byte-eq69-via-else-byte-eq69+then-byte-eq115}

pub returns-then-byte-eq69 : goal.returns-then-byte-eq69
unfolding turned is_turn
returns-then-byte-eq69 c = let b = c.args.byte in
    elim c.then-byte-eq69.branch [
      | then-byte-eq69-via-then-byte-eq69 w ↦ sym (pick_yes _ _ _ (or_l _ _ (eq-eqb b 69 w.if-byte-eq69.true)))
      | then-byte-eq69-via-else-byte-eq69+then-byte-eq115 w ↦ sym (pick_yes _ _ _ (or_r _ _ (eq-eqb b 115 w.if-byte-eq115.true)))
    ]

pub returns : goal.returns
unfolding turned is_turn
returns c = let b = c.args.byte in sym (pick_no _ _ _ (or_no _ _ (ne_eqb b 69 c.if-byte-eq69.false) (ne_eqb b 115 c.if-byte-eq115.false)))
