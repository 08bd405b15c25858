-- `speakers` meets its contract. Assumes nothing.
use Prim.Native.Nat.{ℕ}
use mathlib.Core.Path.{ap, ◌∙◌}
use borrow.Author.Rules.{rules}
use lib.Bits.{bit_and}
use lib.Dec.{eqb}
use Rattle.sets.proofs.Masks.{mask_few, mask_and}
use Rattle.terminal.specs.Shown.{note_of}
use Rattle.terminal.specs.Votes.{speakers_in}
use Rattle.terminal.proofs.choosing.speakers.Goals as goal

pub returns : goal.returns
unfolding speakers_in
returns c =
    let a = c.args in
    let holds = c.those.ensures (λ j. eqb (note_of a.notes.now j).edition a.edition) (λ j b k h. search rules) ∙ mask_few a.n _ c.requires in
    ap (λ (x : ℕ). bit_and x a.heard) holds ∙ mask_and a.n _ a.heard
