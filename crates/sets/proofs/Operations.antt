-- Each operation of specs/Sets.antt as the shifts and masks that compute it, over the width. Assumes nothing.
use Prim.Native.Nat.{ℕ, zero, suc, ◌-◌, ◌*◌, ◌/◌, ◌%◌, ◌^◌, ◌≤◌, ◌<◌}
use mathlib.Core.Path.{◌≡◌, refl, sym, ap, ◌∙◌, subst}
use mathlib.Core.Logic.{⊎_elim}
use mathlib.Core.Bool.{Bool, true, false, not}
use native.Mathlib.Nat.{lt_of_le_of_lt, lt_of_lt_of_le, div-lt_iff_lt-mul, le-div_iff_mul-le, one-mul, mod-eq_of_lt}
use native.Mathlib.Omega.{arith}
use lib.Dec.{eqb, ltb}
use lib.Bits.{bit_and, bit_or, and_le_l, or_lt, and_mask}
use lib.Pow.{pow-lt, pow_pos}
use borrow.Author.Tests.{eq-eqb, ne_eqb, eqb-true, lt-ltb, le-ltb}
use Rattle.sets.specs.Tests.{◌and◌, ◌or◌, ◌implies◌}
use Rattle.sets.specs.Sets.{mem, all, mask, within, singleton, with, without}
use Rattle.sets.proofs.Bools.{not_e, same_test, or_no, and_no_l}
use Rattle.sets.proofs.Laws.{mem_zero, set_ext, mem_mask, mask_of, mask_lt, all_at, all_i, all_cong, mem_above, mem_mask_above, below_or_not}
use Rattle.sets.proofs.Masks.{mem_and, mem_or, mem_not, mem_power, mem_shift}

pub test_member : (i s : ℕ) → eqb (bit_and (s / 2 ^ i) 1) 1 ≡ mem i s
test_member i s = ap (λ (d : ℕ). eqb d 1) (and_mask (s / 2 ^ i) 1) ∙ sym (mem_shift i s)

pub test_within : (n s : ℕ) → eqb (s / 2 ^ n) 0 ≡ within n s
unfolding within
test_within n s = go (s / 2 ^ n) refl
  where
    go : (q : ℕ) → s / 2 ^ n ≡ q → eqb q 0 ≡ ltb s (2 ^ n)
    go zero e =
        sym (lt-ltb s (2 ^ n) (subst (λ (x : ℕ). s < x) (one-mul (2 ^ n)) ((div-lt_iff_lt-mul (pow_pos n)).0 (omega arith))))
    go (suc q) e =
        ne_eqb (suc q) 0 (λ z. omega arith)
        ∙ sym (le-ltb s (2 ^ n) (subst (λ (x : ℕ). x ≤ s) (one-mul (2 ^ n)) ((le-div_iff_mul-le (pow_pos n)).0 (omega arith))))

pub power_singleton : (w i : ℕ) → i < w → (1 * 2 ^ i) % 2 ^ w ≡ singleton w i
unfolding singleton
power_singleton w i h =
    ap (λ (x : ℕ). x % 2 ^ w) (one-mul (2 ^ i)) ∙ mod-eq_of_lt (pow-lt h) ∙ mask_of w (2 ^ i) (λ j. eqb j i) (pow-lt h) (λ j k. mem_power i j)

-- a terminal below n alone, in a wider word
pub singleton_narrow : (w n i : ℕ) → i < n → n ≤ w → singleton w i ≡ mask n (λ j. eqb j i)
singleton_narrow w n i h k =
    sym (power_singleton w i (lt_of_lt_of_le h k)) ∙ ap (λ (x : ℕ). x % 2 ^ w) (one-mul (2 ^ i)) ∙ mod-eq_of_lt (pow-lt (lt_of_lt_of_le h k))
    ∙ mask_of n (2 ^ i) (λ j. eqb j i) (pow-lt h) (λ j l. mem_power i j)

pub zero_singleton : (w i : ℕ) → w ≤ i → 0 ≡ singleton w i
unfolding singleton
zero_singleton w i h = mask_of w 0 (λ j. eqb j i) (pow_pos w) (λ j k. mem_zero j ∙ sym (ne_eqb j i (λ e. omega arith)))

pub or_with : (w s i : ℕ) → s < 2 ^ w → bit_or s (singleton w i) ≡ with w s i
unfolding singleton with
or_with w s i p =
    mask_of w (bit_or s (mask w (λ j. eqb j i))) (λ j. mem j s or eqb j i) (or_lt w s (mask w (λ j. eqb j i)) p (mask_lt w (λ j. eqb j i)))
    (λ j k. mem_or j s (mask w (λ j. eqb j i)) ∙ ap (λ (t : Bool). mem j s or t) (mem_mask w j (λ j. eqb j i) k))

-- a terminal of the set with one more
pub mem_with : (w s i j : ℕ) → j < w → mem j (with w s i) ≡ mem j s or eqb j i
unfolding with
mem_with w s i j k = mem_mask w j (λ j. mem j s or eqb j i) k

-- the same of any terminal, where the set and the new one lie within the width
pub mem_with_any : (w s i j : ℕ) → s < 2 ^ w → i < w → mem j (with w s i) ≡ mem j s or eqb j i
unfolding with
mem_with_any w s i j h k =
    ⊎_elim (mem_with w s i j)
    (λ l. mem_mask_above w j (λ j. mem j s or eqb j i) l ∙ sym (or_no _ _ (mem_above w j s h l) (ne_eqb j i (λ e. omega arith))))
    (below_or_not j w)

-- a set with one less
pub and_without : (w s i : ℕ) → s < 2 ^ w → bit_and s (2 ^ w - 1 - singleton w i) ≡ without w s i
unfolding singleton without
and_without w s i p =
    mask_of w (bit_and s (2 ^ w - 1 - mask w (λ j. eqb j i))) (λ j. mem j s and not (eqb j i)) (lt_of_le_of_lt (and_le_l s _) p)
    (λ j k.
    mem_and j s (2 ^ w - 1 - mask w (λ j. eqb j i))
    ∙ ap (λ (t : Bool). mem j s and t) (mem_not w j (mask w (λ j. eqb j i)) (mask_lt w (λ j. eqb j i)) k ∙ ap not (mem_mask w j (λ j. eqb j i) k)))

pub mem_without : (w s i j : ℕ) → s < 2 ^ w → mem j (without w s i) ≡ mem j s and not (eqb j i)
unfolding without
mem_without w s i j h =
    ⊎_elim (mem_mask w j (λ j. mem j s and not (eqb j i)))
    (λ l. mem_mask_above w j (λ j. mem j s and not (eqb j i)) l ∙ sym (and_no_l _ _ (mem_above w j s h l)))
    (below_or_not j w)

-- a test of one word: two sets share no terminal; one lies within the other
pub test_apart : (n a b : ℕ) → a < 2 ^ n → eqb (bit_and a b) 0 ≡ all n (λ i. not (mem i a and mem i b))
test_apart n a b h =
    same_test _ _
    (λ e.
    all_i n (λ i. not (mem i a and mem i b))
    (λ i k. ap not (sym (mem_and i a b) ∙ ap (mem i) (eqb-true (bit_and a b) 0 e) ∙ mem_zero i)))
    (λ e.
    eq-eqb (bit_and a b) 0
    (set_ext n (bit_and a b) 0 (lt_of_le_of_lt (and_le_l a b) h) (pow_pos n)
    (λ i k. mem_and i a b ∙ not_e (mem i a and mem i b) (all_at n (λ i. not (mem i a and mem i b)) e i k) ∙ sym (mem_zero i))))

pub test_inside : (w n a b : ℕ) → n ≤ w → a < 2 ^ n → b < 2 ^ w → eqb (bit_and a (2 ^ w - 1 - b)) 0 ≡ all n (λ i. mem i a implies mem i b)
unfolding ◌and◌ ◌implies◌
test_inside w n a b l h k =
    test_apart n a (2 ^ w - 1 - b) h
    ∙ all_cong n (λ i. not (mem i a and mem i (2 ^ w - 1 - b))) (λ i. mem i a implies mem i b)
    (λ i m. ap (λ (t : Bool). not (mem i a and t)) (mem_not w i b k (lt_of_lt_of_le m l)) ∙ not_and_not (mem i a) (mem i b))
  where
    not_and_not : (x y : Bool) → not (x and not y) ≡ (x implies y)
    not_and_not true true = refl
    not_and_not true false = refl
    not_and_not false y = refl
