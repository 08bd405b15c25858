-- The lowest bit of a number and the rest of it. Assumes nothing.
use Prim.Native.Nat.{ℕ, zero, suc, ◌+◌, ◌-◌, ◌*◌, ◌/◌, ◌%◌, ◌^◌, ◌<◌, min, max}
use mathlib.Core.Path.{◌≡◌, refl, sym, ap, ◌∙◌}
use mathlib.Core.Bool.{Bool, true, false, not}
use native.Mathlib.Nat.{pow-suc}
use native.Mathlib.Omega.{arith}
use lib.Dec.{eqb}
use lib.Pow.{pow_pos}
use Rattle.sets.specs.Tests.{◌and◌, ◌or◌}
use Rattle.sets.specs.Sets.{bit}

pub bit_test : (b : Bool) → eqb (bit b) 1 ≡ b
bit_test true = refl
bit_test false = refl

test_digit : (d : ℕ) → d < 2 → bit (eqb d 1) ≡ d
test_digit zero h = refl
test_digit (suc zero) h = refl
test_digit (suc (suc d)) h = absurd (omega arith)

-- the lowest bit, as a number
pub low_bit : (s : ℕ) → bit (eqb (s % 2) 1) ≡ s % 2
low_bit s = test_digit (s % 2) (omega arith)

pub low_of : (b : Bool) (m : ℕ) → (bit b + 2 * m) % 2 ≡ bit b
low_of true m = omega arith
low_of false m = omega arith

pub high_of : (b : Bool) (m : ℕ) → (bit b + 2 * m) / 2 ≡ m
high_of true m = omega arith
high_of false m = omega arith

pub bit_and_lem : (a b : Bool) → min (bit a) (bit b) ≡ bit (a and b)
unfolding ◌and◌
bit_and_lem true true = refl
bit_and_lem true false = refl
bit_and_lem false true = refl
bit_and_lem false false = refl

pub bit_or_lem : (a b : Bool) → max (bit a) (bit b) ≡ bit (a or b)
unfolding ◌or◌
bit_or_lem true true = refl
bit_or_lem true false = refl
bit_or_lem false true = refl
bit_or_lem false false = refl

pub half_lt : {s : ℕ} (w : ℕ) → s < 2 ^ suc w → s / 2 < 2 ^ w
half_lt {s} w h = omega (arith, pow-suc 2 w)

pub twice_lt : (b : Bool) {m : ℕ} (w : ℕ) → m < 2 ^ w → bit b + 2 * m < 2 ^ suc w
twice_lt true {m} w h = omega (arith, pow-suc 2 w)
twice_lt false {m} w h = omega (arith, pow-suc 2 w)

-- the complement of a number of w bits: its lowest bit and the rest
pub flip_low : (a w : ℕ) → a < 2 ^ suc w → (2 ^ suc w - 1 - a) % 2 ≡ 1 - a % 2
flip_low a w h = omega (arith, pow-suc 2 w, pow_pos w)

pub flip_high : (a w : ℕ) → a < 2 ^ suc w → (2 ^ suc w - 1 - a) / 2 ≡ 2 ^ w - 1 - a / 2
flip_high a w h = omega (arith, pow-suc 2 w, pow_pos w)

pub bit_not : (a : Bool) → 1 - bit a ≡ bit (not a)
bit_not true = refl
bit_not false = refl

-- a power of two: its lowest bit and the rest
pub power_low : (i : ℕ) → 2 ^ suc i % 2 ≡ 0
power_low i = omega (arith, pow-suc 2 i)

pub power_high : (i : ℕ) → 2 ^ suc i / 2 ≡ 2 ^ i
power_high i = omega (arith, pow-suc 2 i)

-- two numbers with the same lowest bit and the same rest
pub digits_same : (a b : ℕ) → eqb (a % 2) 1 ≡ eqb (b % 2) 1 → a / 2 ≡ b / 2 → a ≡ b
digits_same a b p q =
    let l : a % 2 ≡ b % 2 = sym (low_bit a) ∙ ap bit p ∙ low_bit b in
    omega arith
