-- The sentences of the table, computed. Assumes nothing.
use mathlib.Core.Path.{◌≡◌, refl}
use mathlib.Core.Bool.{true}
use Rattle.sets.specs.Tests.{◌and◌, pick}
use Rattle.sets.specs.Sets.{mem, count, size}
use Rattle.sets.proofs.Bools.{every}
use Rattle.text.specs.Digits.{decimal}
use Rattle.text.specs.Phrases.{phrase, same}
use Rattle.wording.specs.Sentence.{members_from, between, listing, agreeing, opening, closing, sentence}
use Rattle.wording.specs.Rows.{Row, rows}

pub computed : every (λ (row : Row). same row.composed row.expected) rows ≡ true
unfolding ◌and◌ pick mem count size every decimal phrase same members_from between listing agreeing opening closing sentence rows
computed = refl
