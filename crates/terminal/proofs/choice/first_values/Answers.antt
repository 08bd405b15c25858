-- `first_values` meets its contract. Assumes nothing.
use Prim.Native.Nat.{ℕ}
use mathlib.Core.Path.{ap, ◌∙◌}
use native.Mathlib.Omega.{arith}
use borrow.Author.Rules.{rules}
use mathlib.Core.List.{List}
use lib.Bits.{bit_and}
use lib.Dec.{eqb, ltb}
use lib.ListN.{get_or}
use Rattle.sets.proofs.Masks.{mask_few, mask_and}
use Rattle.sets.proofs.Tables.{table_at}
use Rattle.terminal.specs.Shown.{note_of}
use Rattle.terminal.specs.Votes.{single_in, fickle_in, first_place}
use Rattle.sets.proofs.Filled.{filled}
use Rattle.terminal.proofs.choice.first_values.Goals as goal

pub returns : goal.returns
unfolding single_in fickle_in first_place
returns c =
    let a = c.args in
    let single = c.those.ensures (λ j. eqb (note_of a.notes.now j).count 1) (λ j b k h. search rules) ∙ mask_few a.n _ c.requires in
    let fickle = c.those-2.ensures (λ j. ltb 1 (note_of a.notes.now j).count) (λ j b k h. search rules) ∙ mask_few a.n _ c.requires in
    let firsts = filled _ (first_place a.notes.now) _ 0 20 c.from_fn.result (λ k y q l call. search rules) c.from_fn.ensures.items in (
      ap (λ (x : ℕ). bit_and x a.heard) single ∙ mask_and a.n _ a.heard,
      ap (λ (x : ℕ). bit_and x a.heard) fickle ∙ mask_and a.n _ a.heard,
      λ j k. ap (λ (l : List ℕ). get_or l j 0) firsts ∙ table_at 20 (first_place a.notes.now) 0 j (let small = c.requires in omega arith),
    )
