-- Everyone outside two sets, and three sets that are a partition, by the words that compute them. Assumes nothing.
use Prim.Native.Nat.{ℕ, ◌+◌, ◌-◌, ◌*◌, ◌%◌, ◌^◌, ◌≤◌, ◌<◌, min}
use mathlib.Core.Path.{◌≡◌, refl, sym, ap, ap₂, ◌∙◌, subst}
use mathlib.Core.Bool.{Bool, true, false, not}
use native.Mathlib.Nat.{lt_of_le_of_lt, one-mul, mod-eq_of_lt, sub-zero, min-eq_left, min-eq_right}
use native.Mathlib.Omega.{arith}
use lib.Bits.{bit_and, bit_or, and_le_l, or_lt}
use lib.Dec.{eqb, ltb}
use lib.Pow.{pow-lt, pow_pos, ones_lt}
use borrow.Author.Tests.{ltb-true, lt-ltb, eqb-true, eq-eqb}
use Rattle.sets.specs.Tests.{◌and◌, ◌or◌}
use Rattle.sets.specs.Sets.{bit, mem, mask, within, outside, is_partition}
use Rattle.sets.proofs.Bools.{clash, and_l, and_r, and_i, and_no_l, and_no_r, no_by, same_test}
use Rattle.sets.proofs.Laws.{mem_zero, mem_above, mask_lt, mem_mask, mask_of, all_at, all_i, some_member}
use Rattle.sets.proofs.Masks.{mem_and, mem_or, mem_not}

-- ---- everyone outside two sets

none_of : (x y : Bool) → not (x or y) ≡ not x and not y
unfolding ◌and◌ ◌or◌
none_of true y = refl
none_of false y = refl

pub one_shift : (n : ℕ) → n < 32 → (1 * 2 ^ n) % 4294967296 ≡ 2 ^ n
one_shift n t = ap (λ (x : ℕ). x % 4294967296) (one-mul (2 ^ n)) ∙ mod-eq_of_lt (pow-lt {j = 32} (omega arith))

pub left_is : (n a b : ℕ) → n < 32 → a < 2 ^ 32 → b < 2 ^ 32
    → bit_and ((1 * 2 ^ n) % 4294967296 - 1) (4294967295 - bit_or a b) ≡ mask n (λ i. not (mem i a) and not (mem i b))
unfolding ◌and◌
left_is n a b t ha hb =
    ap (λ (x : ℕ). bit_and (x - 1) (4294967295 - bit_or a b)) (one_shift n t)
    ∙ mask_of n (bit_and (2 ^ n - 1) (4294967295 - bit_or a b)) (λ i. not (mem i a) and not (mem i b))
    (lt_of_le_of_lt (and_le_l (2 ^ n - 1) (4294967295 - bit_or a b)) (ones_lt n))
    (λ i k.
    mem_and i (2 ^ n - 1) (4294967295 - bit_or a b)
    ∙ ap₂ ◌and◌ (ap (mem i) (sym (sub-zero (2 ^ n - 1))) ∙ mem_not n i 0 (pow_pos n) k ∙ ap not (mem_zero i))
    (mem_not 32 i (bit_or a b) (or_lt 32 a b ha hb) (omega arith) ∙ ap not (mem_or i a b) ∙ none_of (mem i a) (mem i b)))

-- in a whole word
pub wide_is : (a b : ℕ) → a < 2 ^ 32 → b < 2 ^ 32 → 4294967295 - bit_or a b ≡ outside 32 a b
wide_is a b ha hb =
    mask_of 32 (4294967295 - bit_or a b) (λ i. not (mem i a) and not (mem i b)) (omega arith)
    (λ i k. mem_not 32 i (bit_or a b) (or_lt 32 a b ha hb) k ∙ ap not (mem_or i a b) ∙ none_of (mem i a) (mem i b))

-- of so many terminals as a word has, or fewer
pub few_outside : (n a b : ℕ) → n ≤ 32 → outside (min n 32) a b ≡ outside n a b
few_outside n a b h = ap (λ (k : ℕ). outside k a b) (min-eq_left h)

pub many_outside : (n a b : ℕ) → 32 ≤ n → outside (min n 32) a b ≡ outside 32 a b
many_outside n a b h = ap (λ (k : ℕ). outside k a b) (min-eq_right h)

-- ---- a partition

pub rest_one : (a b c : Bool) → (b ≡ true → a ≡ false) → c ≡ not a and not b → eqb (bit a + bit b + bit c) 1 ≡ true
unfolding ◌and◌
rest_one true true c d e = clash refl (d refl)
rest_one true false c d e = ap (λ (x : Bool). eqb (bit true + bit false + bit x) 1) e
rest_one false true c d e = ap (λ (x : Bool). eqb (bit false + bit true + bit x) 1) e
rest_one false false c d e = ap (λ (x : Bool). eqb (bit false + bit false + bit x) 1) e

-- exactly one of three: the third is neither of the others, and the first two never meet
third : (a b c : Bool) → eqb (bit a + bit b + bit c) 1 ≡ true → (c ≡ not a and not b) × (a and b ≡ false)
unfolding ◌and◌
third true true true e = clash e refl
third true true false e = clash e refl
third true false true e = clash e refl
third true false false e = (refl, refl)
third false true true e = clash e refl
third false true false e = (refl, refl)
third false false true e = (refl, refl)
third false false false e = clash e refl

-- and so is the second
second : (a b c : Bool) → eqb (bit a + bit b + bit c) 1 ≡ true → b ≡ not a and not c
unfolding ◌and◌
second true true true e = clash e refl
second true true false e = clash e refl
second true false true e = clash e refl
second true false false e = refl
second false true true e = clash e refl
second false true false e = refl
second false false true e = refl
second false false false e = clash e refl

none_in : (a b c : Bool) → a ≡ false → b ≡ false → c ≡ false → eqb (bit a + bit b + bit c) 1 ≡ false
none_in true b c x y z = clash refl x
none_in false true c x y z = clash refl y
none_in false false true x y z = clash refl z
none_in false false false x y z = refl

module _ (n f l r : ℕ) where
  parts : is_partition n f l r ≡ true → (i : ℕ) → i < n → (mem i r ≡ not (mem i f) and not (mem i l)) × (mem i f and mem i l ≡ false)
  unfolding is_partition
  parts h i k =
      third (mem i f) (mem i l) (mem i r)
      (all_at n (λ b. eqb (bit (mem b f) + bit (mem b l) + bit (mem b r)) 1) (and_r _ _ (and_r _ _ (and_r _ _ h))) i k)

  pub part_test : (x : ℕ) → within n f ≡ true → within n l ≡ true → bit_and f l ≡ 0 → x ≡ mask n (λ i. not (mem i f) and not (mem i l))
      → eqb x r ≡ is_partition n f l r
  unfolding is_partition within
  part_test x wf wl z e = same_test _ _ there back
    where
      apart : (i : ℕ) → mem i l ≡ true → mem i f ≡ false
      apart i h = no_by (λ g. clash (and_i _ _ g h) (sym (mem_and i f l) ∙ ap (mem i) z ∙ mem_zero i))

      there : eqb x r ≡ true → is_partition n f l r ≡ true
      there t =
          let q : r ≡ mask n (λ i. not (mem i f) and not (mem i l)) = sym (eqb-true x r t) ∙ e in
          and_i _ _ wf
          (and_i _ _ wl
          (and_i _ _ (subst (λ (y : ℕ). ltb y (2 ^ n) ≡ true) (sym q) (lt-ltb (mask n (λ i. not (mem i f) and not (mem i l))) (2 ^ n) (mask_lt n (λ i. not (mem i f) and not (mem i l)))))
          (all_i n (λ b. eqb (bit (mem b f) + bit (mem b l) + bit (mem b r)) 1)
          (λ b k. rest_one (mem b f) (mem b l) (mem b r) (apart b) (ap (mem b) q ∙ mem_mask n b (λ i. not (mem i f) and not (mem i l)) k)))))

      back : is_partition n f l r ≡ true → eqb x r ≡ true
      back h =
          eq-eqb x r
          (e
          ∙ sym (mask_of n r (λ i. not (mem i f) and not (mem i l)) (ltb-true r (2 ^ n) (and_l _ _ (and_r _ _ (and_r _ _ h)))) (λ i k. (parts h i k).0)))

  pub part_overlap : within n f ≡ true → (bit_and f l ≡ 0 → ⊥) → is_partition n f l r ≡ false
  unfolding within
  part_overlap wf z =
      no_by
      (λ h.
      let w = some_member n (bit_and f l) (lt_of_le_of_lt (and_le_l f l) (ltb-true f (2 ^ n) wf)) z in
      clash (sym (mem_and w.0 f l) ∙ w.2) (parts h w.0 w.1).1)

  pub part_wide_l : within n l ≡ false → is_partition n f l r ≡ false
  unfolding is_partition
  part_wide_l e = and_no_r _ _ (and_no_l _ _ e)

  pub part_wide_f : within n f ≡ false → is_partition n f l r ≡ false
  unfolding is_partition
  part_wide_f e = and_no_l _ _ e

  -- nobody at or above 32 is in a word
  pub part_many : f < 2 ^ 32 → l < 2 ^ 32 → r < 2 ^ 32 → 32 < n → is_partition n f l r ≡ false
  unfolding is_partition
  part_many hf hl hr k =
      no_by
      (λ h.
      clash (all_at n (λ b. eqb (bit (mem b f) + bit (mem b l) + bit (mem b r)) 1) (and_r _ _ (and_r _ _ (and_r _ _ h))) 32 k)
      (none_in (mem 32 f) (mem 32 l) (mem 32 r) (mem_above 32 32 f hf (omega arith)) (mem_above 32 32 l hl (omega arith)) (mem_above 32 32 r hr (omega arith))))

  -- the second is everyone outside the others
  pub part_rest : is_partition n f l r ≡ true → l ≡ outside n f r
  unfolding is_partition within
  part_rest h =
      mask_of n l (λ i. not (mem i f) and not (mem i r)) (ltb-true l (2 ^ n) (and_l _ _ (and_r _ _ h)))
      (λ i k. second (mem i f) (mem i l) (mem i r) (all_at n (λ b. eqb (bit (mem b f) + bit (mem b l) + bit (mem b r)) 1) (and_r _ _ (and_r _ _ (and_r _ _ h))) i k))
