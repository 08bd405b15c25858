-- What shifts and masks do to membership, one law an operator, over the width. Assumes nothing.
use Prim.Native.Nat.{ℕ, zero, suc, ◌+◌, ◌-◌, ◌*◌, ◌/◌, ◌%◌, ◌^◌, ◌≤◌, ◌<◌, min, max}
use mathlib.Core.Path.{◌≡◌, refl, sym, ap, ap₂, ◌∙◌, subst}
use mathlib.Core.Bool.{Bool, true, false, not}
use native.Mathlib.Nat.{le_of_suc-le-suc, not-suc-le-zero, lt_of_le_of_lt, div-one, one-mul, zero-mul, mod-eq_of_lt}
use native.Mathlib.Numerals.{one-add, add-one}
use native.Mathlib.Omega.{arith}
use lib.Dec.{eqb, eqb-zero-suc, eqb-suc-zero, eqb-suc-suc}
use lib.Bits.{bit_and, bit_or, and_step, or_step, and_shr, or_shr, and_le_l, or_shifted_r}
use lib.Count.{ones, ones_step}
use lib.Pow.{shr-shr, pow-lt, pow_pos}
use mir.Val.{bool_byte}
use Rattle.sets.specs.Tests.{◌and◌, ◌or◌}
use Rattle.sets.specs.Sets.{bit, mem, count, mask}
use Rattle.sets.proofs.Digits.{bit_test, low_bit, bit_and_lem, bit_or_lem, bit_not, half_lt, flip_low, flip_high, power_low, power_high}
use Rattle.sets.proofs.Laws.{mem_zero, count_cong, mask_lt, mem_mask, mask_of, mask_next}

-- the lowest bit decides: a number whose lowest digit is `bit b` has terminal 0 exactly if b
low : (s : ℕ) (b : Bool) → s % 2 ≡ bit b → eqb (s % 2) 1 ≡ b
low s b e = ap (λ (d : ℕ). eqb d 1) e ∙ bit_test b

pub mem_and : (i a b : ℕ) → mem i (bit_and a b) ≡ mem i a and mem i b
unfolding mem
mem_and zero a b =
    low (bit_and a b) (eqb (a % 2) 1 and eqb (b % 2) 1)
    (let s : bit_and a b ≡ bit_and (a / 2) (b / 2) * 2 + min (a % 2) (b % 2) = and_step a b in
    let t : bit_and a b % 2 ≡ min (a % 2) (b % 2) = omega arith in
    t ∙ ap₂ min (sym (low_bit a)) (sym (low_bit b)) ∙ bit_and_lem (eqb (a % 2) 1) (eqb (b % 2) 1))
mem_and (suc i) a b = ap (mem i) (and_shr a b 1) ∙ mem_and i (a / 2) (b / 2)

pub mem_or : (i a b : ℕ) → mem i (bit_or a b) ≡ mem i a or mem i b
unfolding mem
mem_or zero a b =
    low (bit_or a b) (eqb (a % 2) 1 or eqb (b % 2) 1)
    (let s : bit_or a b ≡ bit_or (a / 2) (b / 2) * 2 + max (a % 2) (b % 2) = or_step a b in
    let t : bit_or a b % 2 ≡ max (a % 2) (b % 2) = omega arith in
    t ∙ ap₂ max (sym (low_bit a)) (sym (low_bit b)) ∙ bit_or_lem (eqb (a % 2) 1) (eqb (b % 2) 1))
mem_or (suc i) a b = ap (mem i) (or_shr a b 1) ∙ mem_or i (a / 2) (b / 2)

-- the complement in w bits
pub mem_not : (w i a : ℕ) → a < 2 ^ w → i < w → mem i (2 ^ w - 1 - a) ≡ not (mem i a)
unfolding mem
mem_not zero i a h k = absurd (not-suc-le-zero k)
mem_not (suc w) zero a h k =
    low (2 ^ suc w - 1 - a) (not (eqb (a % 2) 1)) (flip_low a w h ∙ ap (λ (d : ℕ). 1 - d) (sym (low_bit a)) ∙ bit_not (eqb (a % 2) 1))
mem_not (suc w) (suc i) a h k = ap (mem i) (flip_high a w h) ∙ mem_not w i (a / 2) (half_lt w h) (le_of_suc-le-suc k)

-- one terminal alone
pub mem_power : (i j : ℕ) → mem j (2 ^ i) ≡ eqb j i
unfolding mem
mem_power zero zero = refl
mem_power zero (suc j) = mem_zero j ∙ sym (eqb-suc-zero j)
mem_power (suc i) zero = ap (λ (d : ℕ). eqb d 1) (power_low i) ∙ sym (eqb-zero-suc i)
mem_power (suc i) (suc j) = ap (mem j) (power_high i) ∙ mem_power i j ∙ sym (eqb-suc-suc j i)

-- a shift brings terminal i to the lowest place
pub mem_shift : (i s : ℕ) → mem i s ≡ eqb (s / 2 ^ i % 2) 1
unfolding mem
mem_shift zero s = ap (λ (x : ℕ). eqb (x % 2) 1) (sym (div-one s))
mem_shift (suc i) s =
    mem_shift i (s / 2) ∙ ap (λ (x : ℕ). eqb (x % 2) 1) (shr-shr s 1 i ∙ ap (λ (k : ℕ). s / 2 ^ k) (one-add i))

-- the digits that are set, counted
pub ones_count : (w s : ℕ) → s < 2 ^ w → ones s ≡ count w (λ i. mem i s)
unfolding mem count ones
ones_count zero s h = let e : s ≡ 0 = omega arith in ap ones e
ones_count (suc w) s h = ones_step s ∙ ap₂ ◌+◌ (sym (low_bit s)) (ones_count w (s / 2) (half_lt w h))

-- the members that two sets share, counted
pub ones_and : (w a b : ℕ) → a < 2 ^ w → ones (bit_and a b) ≡ count w (λ i. mem i a and mem i b)
ones_and w a b h =
    ones_count w (bit_and a b) (lt_of_le_of_lt (and_le_l a b) h) ∙ count_cong w (λ i. mem i (bit_and a b)) (λ i. mem i a and mem i b) (λ i k. mem_and i a b)

-- a loop that builds a mask of at most w bits: one more bit, set or not
pub mask_or : (w i : ℕ) (P : ℕ → Bool) → i < w → bit_or (mask i P) ((bit (P i) * 2 ^ i) % 2 ^ w) ≡ mask (i + 1) P
mask_or w i P h =
    ap (bit_or (mask i P)) (mod-eq_of_lt (one_bit (P i))) ∙ or_shifted_r (bit (P i)) i (mask i P) (mask_lt i P)
    ∙ (let t : mask (suc i) P ≡ mask i P + bit (P i) * 2 ^ i = mask_next i P in
    let u : bit (P i) * 2 ^ i + mask i P ≡ mask (suc i) P = omega arith in
    u ∙ ap (λ (k : ℕ). mask k P) (sym (add-one i)))
  where
    one_bit : (b : Bool) → bit b * 2 ^ i < 2 ^ w
    one_bit true = subst (λ (x : ℕ). x < 2 ^ w) (sym (one-mul (2 ^ i))) (pow-lt h)
    one_bit false = subst (λ (x : ℕ). x < 2 ^ w) (sym (zero-mul (2 ^ i))) (pow_pos w)

-- such a loop at 32 bits, where the bit is d
pub next_bit : (i : ℕ) (P : ℕ → Bool) (found d : ℕ) → i < 32 → found ≡ mask i P → d ≡ bit (P i)
    → bit_or found ((d * 2 ^ i) % 4294967296) ≡ mask (i + 1) P
next_bit i P found d k e q =
    ap (λ (x : ℕ). bit_or x ((d * 2 ^ i) % 4294967296)) e
    ∙ ap (λ (x : ℕ). bit_or (mask i P) ((x * 2 ^ i) % 4294967296)) q
    ∙ mask_or 32 i P k

pub byte_bit : (b : Bool) → bool_byte b ≡ bit b
byte_bit true = refl
byte_bit false = refl

pub byte_le : (b : Bool) → bool_byte b ≤ 1
byte_le true = omega arith
byte_le false = omega arith

-- no more than 32 terminals are looked at: of a plan's, all
pub mask_few : (n : ℕ) (P : ℕ → Bool) → n ≤ 20 → mask (min n 32) P ≡ mask n P
mask_few n P h = let e : min n 32 ≡ n = omega arith in ap (λ (k : ℕ). mask k P) e

-- a mask cut down to a set
pub mask_and : (n : ℕ) (P : ℕ → Bool) (s : ℕ) → bit_and (mask n P) s ≡ mask n (λ j. P j and mem j s)
mask_and n P s =
    mask_of n (bit_and (mask n P) s) (λ j. P j and mem j s) (lt_of_le_of_lt (and_le_l (mask n P) s) (mask_lt n P))
    (λ i k. mem_and i (mask n P) s ∙ ap (λ (b : Bool). b and mem i s) (mem_mask n i P k))
