-- A choice by whether two numbers are the same, as the definitions of specs/Frames make it by a length or a kind. Assumes nothing.
use Prim.Native.Nat.{ℕ}
use mathlib.Core.Path.{◌≡◌}
use lib.Dec.{eqb}
use borrow.Author.Tests.{eq-eqb, ne_eqb}
use Rattle.sets.specs.Tests.{pick}
use Rattle.sets.proofs.Bools.{pick_yes, pick_no}
use Rattle.lines.specs.declared.Frame.{Frame}

pub picked : (n k : ℕ) (x y : Frame) → n ≡ k → pick (eqb n k) x y ≡ x
picked n k x y e = pick_yes _ _ _ (eq-eqb n k e)

pub passed : (n k : ℕ) (x y : Frame) → (n ≡ k → ⊥) → pick (eqb n k) x y ≡ y
passed n k x y d = pick_no _ _ _ (ne_eqb n k d)
