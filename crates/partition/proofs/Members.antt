-- Laws of sets that the search uses: one terminal more, a count split in two, and the order by members and number. Assumes nothing.
use Prim.Native.Nat.{ℕ, zero, suc, ◌+◌, ◌-◌, ◌/◌, ◌%◌, ◌^◌, ◌≤◌, ◌<◌, zero-le, suc-le-suc}
use mathlib.Core.Path.{◌≡◌, refl, sym, ap, ◌∙◌, subst}
use mathlib.Core.Logic.{◌⊎◌, inl, inr, ⊎_elim}
use mathlib.Core.Bool.{Bool, true, false, not}
use native.Mathlib.Nat.{lt_of_lt_of_le, lt_of_le_of_lt, zero-lt-suc, pos_of_ne-zero, le-div_iff_mul-le, div-lt_iff_lt-mul, one-mul, pow-suc}
use native.Mathlib.Omega.{arith}
use lib.Bits.{bit_and, or_lt, and_le_l, and_mask}
use lib.Count.{count_leading_zeros, leading_top}
use lib.Dec.{eqb, ltb}
use lib.Pow.{pow_mono, pow_pos}
use borrow.Author.Tests.{eqb-true, eq-eqb, ltb-false}
use mir.Val.{bool_byte}
use Rattle.sets.specs.Tests.{◌and◌, ◌or◌, ◌implies◌}
use Rattle.sets.specs.Sets.{bit, mem, count, mask, size, singleton, with, outside}
use Rattle.sets.proofs.Bools.{clash, and_l, and_r, and_i, and_no_r, or_l, or_r, or_e, not_i, not_yes, no_by, same_test, implies_e}
use Rattle.sets.proofs.Laws.{all_at, mask_lt, mem_mask, set_ext, mem_above, mem_below, count_le, count_more, count_width, subset_fewer}
use Rattle.sets.proofs.Masks.{mem_and, mem_not, mem_shift}
use Rattle.sets.proofs.Operations.{singleton_narrow, or_with, test_inside}
use Rattle.partition.specs.Search.{less, key, Inside, SomeOf}

-- ---- a set of n terminals with one more

module _ (n s i x : ℕ) (t : n ≤ 20) (h : s < 2 ^ n) (k : i < n) (e : x ≡ with 32 s i) where
  pub with_below : x < 2 ^ n
  with_below =
      let w : n ≤ 32 = omega arith in
      subst (λ (y : ℕ). y < 2 ^ n) (or_with 32 s i (lt_of_lt_of_le h (pow_mono w)) ∙ sym e)
      (or_lt n s (singleton 32 i) h (subst (λ (y : ℕ). y < 2 ^ n) (sym (singleton_narrow 32 n i k w)) (mask_lt n (λ j. eqb j i))))

  with_mem : (j : ℕ) → j < n → mem j x ≡ mem j s or eqb j i
  unfolding with
  with_mem j l = ap (mem j) e ∙ mem_mask 32 j (λ j. mem j s or eqb j i) (omega arith)

  pub with_keeps : Inside s x
  with_keeps j m = with_mem j (mem_below n j s h m) ∙ or_l _ _ m

  pub with_one : mem i x ≡ true
  with_one = with_mem i k ∙ or_r _ _ (eq-eqb i i refl)

  pub with_why : (j : ℕ) → mem j x ≡ true → (mem j s ≡ true) ⊎ (j ≡ i)
  with_why j m = ⊎_elim inl (λ d. inr (eqb-true j i d)) (or_e _ _ (sym (with_mem j (mem_below n j x with_below m)) ∙ m))

-- ---- one word within another

pub inside_test : (a b : ℕ) → a < 2 ^ 32 → b < 2 ^ 32 → bit_and a (4294967295 - b) ≡ 0 → Inside a b
inside_test a b h k e i m =
    implies_e _ _
    (all_at 32 (λ i. mem i a implies mem i b) (sym (test_inside 32 32 a b (omega arith) h k) ∙ eq-eqb (bit_and a (4294967295 - b)) 0 e) i (mem_below 32 i a h m)) m

-- ---- a set with one less

pub mem_less : (s b i : ℕ) → i < 32 → mem i (less s b) ≡ mem i s and not (eqb i b)
unfolding less singleton
mem_less s b i k =
    mem_and i s (4294967295 - mask 32 (λ j. eqb j b))
    ∙ ap (λ (t : Bool). mem i s and t) (mem_not 32 i (mask 32 (λ j. eqb j b)) (mask_lt 32 (λ j. eqb j b)) k ∙ ap not (mem_mask 32 i (λ j. eqb j b) k))

pub less_le : (s b : ℕ) → less s b ≤ s
unfolding less
less_le s b = and_le_l s (4294967295 - singleton 32 b)

pub less_by : (s b one : ℕ) → one ≡ singleton 32 b → bit_and s (4294967295 - one) ≡ less s b
unfolding less
less_by s b one e = ap (λ (x : ℕ). bit_and s (4294967295 - x)) e

pub less_fewer : (n s b : ℕ) → n ≤ 20 → s < 2 ^ n → mem b s ≡ true → count n (λ i. mem i (less s b)) < count n (λ i. mem i s)
less_fewer n s b t h m =
    let k = mem_below n b s h m in
    count_more n (λ i. mem i (less s b)) (λ i. mem i s) (λ i l v. and_l _ _ (sym (mem_less s b i (omega arith)) ∙ v)) b k
    (mem_less s b b (omega arith) ∙ and_no_r _ _ (not_yes (eq-eqb b b refl))) m

-- what lies in a set and lacks the one lies in the rest
pub less_holds : (n all b s : ℕ) → n ≤ 20 → s < 2 ^ n → Inside s all → mem b s ≡ false → Inside s (less all b)
less_holds n all b s t h inside g i m =
    let k = mem_below n i s h m in
    mem_less all b i (omega arith) ∙ and_i _ _ (inside i m) (not_i (no_by (λ e. clash (subst (λ (x : ℕ). mem x s ≡ true) (eqb-true i b e) m) g)))

-- ---- the terminals outside two sets

pub outside_mem : (n a b x i : ℕ) → x ≡ outside n a b → i < n → mem i x ≡ not (mem i a) and not (mem i b)
outside_mem n a b x i e k = ap (mem i) e ∙ mem_mask n i (λ i. not (mem i a) and not (mem i b)) k

pub outside_i : (n a b x i : ℕ) → x ≡ outside n a b → i < n → mem i a ≡ false → mem i b ≡ false → mem i x ≡ true
outside_i n a b x i e k p q = outside_mem n a b x i e k ∙ and_i _ _ (not_i p) (not_i q)

pub outside_below : (n a b x i : ℕ) → x ≡ outside n a b → mem i x ≡ true → i < n
outside_below n a b x i e m =
    mem_below n i x (subst (λ (y : ℕ). y < 2 ^ n) (sym e) (mask_lt n (λ i. not (mem i a) and not (mem i b)))) m

-- ---- the highest terminal

-- some of some, and some of those in two sets
pub some_of_some : (s r t : ℕ) → SomeOf s r → SomeOf r t → SomeOf s t
some_of_some s r t a b = record { some = b.some; inside = λ i h. a.inside i (b.inside i h) }

pub some_both : (of s : ℕ) → (bit_and of s ≡ 0 → ⊥) → SomeOf s (bit_and of s)
some_both of s h = record { some = h; inside = λ i m. and_r _ _ (sym (mem_and i of s) ∙ m) }

pub highest_mem : (s : ℕ) → (s ≡ 0 → ⊥) → s < 2 ^ 32 → (count_leading_zeros 32 s ≤ 31) × (mem (31 - count_leading_zeros 32 s) s ≡ true)
highest_mem s z h = go (leading_top 32 s (pos_of_ne-zero z) h)
  where
    go : (j : ℕ) × (count_leading_zeros 32 s + suc j ≡ 32) × (2 ^ j ≤ s) × (s < 2 ^ suc j)
        → (count_leading_zeros 32 s ≤ 31) × (mem (31 - count_leading_zeros 32 s) s ≡ true)
    go (j, e, l, u) =
        let k : 31 - count_leading_zeros 32 s ≡ j = omega arith in
        let low : 1 ≤ s / 2 ^ j = (le-div_iff_mul-le (pow_pos j)).1 (subst (λ (x : ℕ). x ≤ s) (sym (one-mul (2 ^ j))) l) in
        let high : s / 2 ^ j < 2 = (div-lt_iff_lt-mul (pow_pos j)).1 (omega (arith, pow-suc 2 j)) in
        let one : s / 2 ^ j ≡ 1 = omega arith in
        (omega arith, ap (λ (x : ℕ). mem x s) k ∙ mem_shift j s ∙ ap (λ (x : ℕ). eqb (x % 2) 1) one)

-- ---- counts

bit_split : (a b c : Bool) → (a ≡ true → (b ≡ true) ⊎ (c ≡ true)) → bit a ≤ bit b + bit c
bit_split true true c f = let t : 0 ≤ bit c = zero-le in omega arith
bit_split true false true f = omega arith
bit_split true false false f = ⊎_elim (λ e. clash e refl) (λ e. clash e refl) (f refl)
bit_split false b c f = zero-le

-- those that have P have Q or R
pub count_split : (n : ℕ) (P Q R : ℕ → Bool) → ((i : ℕ) → i < n → P i ≡ true → (Q i ≡ true) ⊎ (R i ≡ true)) → count n P ≤ count n Q + count n R
unfolding count
count_split zero P Q R f = zero-le
count_split (suc n) P Q R f =
    let t : count n (λ j. P (suc j)) ≤ count n (λ j. Q (suc j)) + count n (λ j. R (suc j)) =
    count_split n (λ j. P (suc j)) (λ j. Q (suc j)) (λ j. R (suc j)) (λ i k. f (suc i) (suc-le-suc k)) in
    let u : bit (P 0) ≤ bit (Q 0) + bit (R 0) = bit_split (P 0) (Q 0) (R 0) (f 0 (zero-lt-suc n)) in
    omega arith

bit_join : (a b c : Bool) → (b ≡ true → a ≡ true) → (c ≡ true → a ≡ true) → (b ≡ true → c ≡ false) → bit b + bit c ≤ bit a
bit_join true true true f g h = clash refl (h refl)
bit_join true true false f g h = omega arith
bit_join true false true f g h = omega arith
bit_join true false false f g h = omega arith
bit_join false true c f g h = clash (f refl) refl
bit_join false false true f g h = clash (g refl) refl
bit_join false false false f g h = omega arith

-- those that have Q or R, never both, have P
pub count_join : (n : ℕ) (P Q R : ℕ → Bool) → ((i : ℕ) → i < n → Q i ≡ true → P i ≡ true) → ((i : ℕ) → i < n → R i ≡ true → P i ≡ true)
    → ((i : ℕ) → i < n → Q i ≡ true → R i ≡ false) → count n Q + count n R ≤ count n P
unfolding count
count_join zero P Q R f g h = zero-le
count_join (suc n) P Q R f g h =
    let t : count n (λ j. Q (suc j)) + count n (λ j. R (suc j)) ≤ count n (λ j. P (suc j)) =
    count_join n (λ j. P (suc j)) (λ j. Q (suc j)) (λ j. R (suc j)) (λ i k. f (suc i) (suc-le-suc k)) (λ i k. g (suc i) (suc-le-suc k))
    (λ i k. h (suc i) (suc-le-suc k)) in
    let u : bit (Q 0) + bit (R 0) ≤ bit (P 0) = bit_join (P 0) (Q 0) (R 0) (f 0 (zero-lt-suc n)) (g 0 (zero-lt-suc n)) (h 0 (zero-lt-suc n)) in
    omega arith

-- a loop that only adds members ends
pub grows : (n s t : ℕ) → s < 2 ^ n → t < 2 ^ n → Inside s t → (t ≡ s → ⊥) → n - count n (λ i. mem i t) < n - count n (λ i. mem i s)
grows n s t p q i z =
    ⊎_elim (λ e. absurd (z (sym e))) (λ l. omega (arith, count_le n (λ i. mem i t))) (subset_fewer n s t p q (λ j k. i j))

-- ---- a set inside another

pub inside_le : (s t : ℕ) → s < 2 ^ 20 → t < 2 ^ 20 → Inside s t → s ≤ t
inside_le s t p q i = subst (λ (x : ℕ). x ≤ t) same (and_le_l t s)
  where
    same : bit_and t s ≡ s
    same =
        set_ext 20 (bit_and t s) s (lt_of_le_of_lt (and_le_l t s) q) p
        (λ j k. mem_and j t s ∙ same_test _ _ (λ m. and_r _ _ m) (λ m. and_i _ _ (i j m) m))

-- ---- the key

pub key_low : (s : ℕ) → s < 2 ^ 20 → key s < 22020096
unfolding key size
key_low s h = omega (arith, count_le 20 (λ i. mem i s))

pub key_members : (s : ℕ) → s < 2 ^ 20 → key s / 1048576 ≡ size 20 s
unfolding key
key_members s h = omega arith

pub key_set : (s : ℕ) → s < 2 ^ 20 → key s % 1048576 ≡ s
unfolding key
key_set s h = omega arith

-- a set with more members comes later
pub key_mono : (s t : ℕ) → s < 2 ^ 20 → t < 2 ^ 20 → Inside s t → key s ≤ key t
unfolding key size
key_mono s t p q i =
    ⊎_elim (λ e. let u : key s ≡ key t = ap key e in omega arith) (λ l. omega arith) (subset_fewer 20 s t p q (λ j k. i j))

-- more members than best, or as many and a number that is no less
pub key_later : (best inn s : ℕ) → inn ≤ s → best / 1048576 + bool_byte (ltb inn (bit_and best 1048575)) ≤ size 20 s → best ≤ key s
unfolding key
key_later best inn s l = go (ltb inn (bit_and best 1048575)) refl
  where
    go : (b : Bool) → ltb inn (bit_and best 1048575) ≡ b → best / 1048576 + bool_byte b ≤ size 20 s → best ≤ key s
    go true e h = omega arith
    go false e h =
        let q : bit_and best 1048575 ≡ best % 1048576 = and_mask best 20 in
        let u : bit_and best 1048575 ≤ inn = ltb-false inn (bit_and best 1048575) e in
        omega arith

pub size_twenty : (n s : ℕ) → n ≤ 20 → s < 2 ^ n → size 20 s ≡ size n s
unfolding size
size_twenty n s t h = count_width n 20 (λ i. mem i s) t (λ i k. mem_above n i s h k)
