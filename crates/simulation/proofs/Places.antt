-- Bounds of the words and turns of a run. Assumes nothing.
use Prim.Native.Nat.{ℕ, ◌+◌, ◌*◌, ◌≤◌}
use native.Mathlib.Nat.{mul-le-mul}
use native.Mathlib.Omega.{arith}
use Rattle.quorum.proofs.Words.{square_le}

pub all_le : (n rounds : ℕ) → n ≤ 20 → rounds ≤ 40 → rounds * (n * n) ≤ 16000
all_le n rounds h k = mul-le-mul {n₂ = 40} {m₂ = 400} k (square_le n h)

pub turns_le : (n rounds : ℕ) → n ≤ 20 → rounds ≤ 40 → (rounds + 1) * n ≤ 820
turns_le n rounds h k = let l : rounds + 1 ≤ 41 = omega arith in mul-le-mul {n₂ = 41} {m₂ = 20} l h
