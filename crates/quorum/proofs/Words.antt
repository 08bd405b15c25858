-- What a sound start has. The place of a word lies in a list of `most_words`: 39 times 400, 19 times 20 and 19 lie below 16,000. Assumes nothing.
use Prim.Native.Nat.{ℕ, ◌-◌, ◌*◌, ◌≤◌, ◌<◌}
use mathlib.Core.Path.{◌≡◌}
use mathlib.Core.Bool.{true}
use native.Mathlib.Nat.{mul-le-mul}
use native.Mathlib.Omega.{arith}
use lib.Dec.{eqb}
use borrow.Author.Tests.{eqb-false, leb-true}
use Rattle.sets.proofs.Bools.{and_l, and_r, not_e}
use Rattle.quorum.specs.Quorum.{most_terminals}
use Rattle.quorum.specs.Words.{most_rounds, most_words, start_sound, place_of, most_shared_words, shared_place_of}

pub start_parts : (layout rounds : ℕ) → start_sound layout rounds ≡ true → (1 ≤ layout) × (rounds ≤ most_rounds)
unfolding start_sound
start_parts layout rounds h =
    let some = eqb-false layout 0 (not_e (eqb layout 0) (and_l _ _ h)) in (omega (arith, some), leb-true rounds most_rounds (and_r _ _ h))

-- each product that the place is a sum of
pub square_le : (n : ℕ) → n ≤ most_terminals → n * n ≤ 400
square_le n h = mul-le-mul {n₂ = 20} {m₂ = 20} h h

pub rounds_le : (n round : ℕ) → n ≤ most_terminals → round ≤ most_rounds → (round - 1) * (n * n) ≤ 15600
rounds_le n round h k = let l : round - 1 ≤ 39 = omega arith in mul-le-mul {n₂ = 39} {m₂ = 400} l (square_le n h)

pub row_le : (n sender : ℕ) → n ≤ most_terminals → sender < most_terminals → sender * n ≤ 380
row_le n sender h k = let l : sender ≤ 19 = omega arith in mul-le-mul {n₂ = 19} {m₂ = 20} l h

pub place_below : (n round sender hearer : ℕ) → n ≤ most_terminals → round ≤ most_rounds → sender < n → hearer < n → place_of n round sender hearer < most_words
unfolding place_of
place_below n round sender hearer h k s t = omega (arith, rounds_le n round h k, row_le n sender h (omega arith))

-- on a shared channel: 39 times 20 and 19 lie below 800
pub shared_rounds_le : (n round : ℕ) → n ≤ most_terminals → round ≤ most_rounds → (round - 1) * n ≤ 780
shared_rounds_le n round h k = let l : round - 1 ≤ 39 = omega arith in mul-le-mul {n₂ = 39} {m₂ = 20} l h

pub shared_place_below : (n round sender : ℕ) → n ≤ most_terminals → round ≤ most_rounds → sender < n → shared_place_of n round sender < most_shared_words
unfolding shared_place_of
shared_place_below n round sender h k s = omega (arith, shared_rounds_le n round h k)
