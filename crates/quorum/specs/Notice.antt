-- A notice of the office (document 02, P8): an edition and a layout, each from 1 to 65,535. In records, lists and calls it is one number. Assumes nothing.
use Rattle.std.specs.Prelude.{ℕ, ◌+◌, ◌*◌, ◌/◌, ◌%◌, Bool, true, List, [], ◌∷◌, eqb, ltb}
use Rattle.sets.specs.Tests.{◌and◌, ◌or◌, pick}

abbrev pub Edition : Type 0
Edition = ℕ

abbrev pub Layout : Type 0
Layout = ℕ

abbrev pub Notice : Type 0
Notice = ℕ

-- edition · 65,536 + layout, and the two halves
unfoldable pub notice_of : Edition → Layout → Notice
notice_of edition layout = edition * 65536 + layout

unfoldable pub edition_of : Notice → Edition
edition_of x = x / 65536

unfoldable pub layout_of : Notice → Layout
layout_of x = x % 65536

-- a zero in either half is silence
unfoldable pub silent : Notice → Bool
silent x = eqb (edition_of x) 0 or eqb (layout_of x) 0

-- a layout that is said without an edition counts as edition 1; 0 stays silence
unfoldable pub first_edition : Layout → Notice
first_edition layout = pick (eqb layout 0) 0 (notice_of 1 layout)

-- what the office issues later, in its order: each that is not silence has an edition above the last before it
unfoldable pub rising : (last : Edition) (later : List Notice) → Bool
rising last [] = true
rising last (x ∷ later) = pick (silent x) (rising last later) (ltb last (edition_of x) and rising (edition_of x) later)
