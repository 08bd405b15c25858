-- Laws of counts, of masks and of membership, for every n together and over the width. Assumes nothing.
use Prim.Native.Nat.{ℕ, zero, suc, ◌+◌, ◌*◌, ◌/◌, ◌^◌, ◌≤◌, ◌<◌, zero-le, suc-le-suc}
use mathlib.Core.Path.{◌≡◌, refl, sym, ap, ap₂, ◌∙◌, subst}
use mathlib.Core.Logic.{◌⊎◌, inl, inr, ⊎_elim}
use mathlib.Core.Bool.{Bool, true, false, not, ◌||◌}
use native.Mathlib.Nat.{le_refl, le_of_suc-le-suc, not-suc-le-zero, zero-lt-suc, lt_of_lt_of_le, add-le-add, pow-suc, mul-one, mul_assoc}
use native.Mathlib.Omega.{arith}
use lib.Dec.{eqb, ltb}
use lib.Pow.{pow_pos}
use borrow.Author.Count.{below_more}
use borrow.Author.Tests.{ltb-true, ltb-false, le-ltb, eqb-true, eqb-false}
use Rattle.sets.specs.Tests.{◌and◌, ◌or◌, ◌implies◌}
use Rattle.sets.specs.Sets.{bit, mem, count, all, some, mask}
use Rattle.sets.proofs.Bools.{clash, decide, and_l, and_r, and_i, or_l, or_r, or_e, or_code, implies_e, implies_no_l, implies_no_r, not_e, not_no, no_by, same_test}
use Rattle.sets.proofs.Digits.{bit_test, low_of, high_of, half_lt, twice_lt, digits_same}

pub below_or_not : (i n : ℕ) → (i < n) ⊎ (n ≤ i)
below_or_not i n = ⊎_elim (λ e. inl (ltb-true i n e)) (λ e. inr (ltb-false i n e)) (decide (ltb i n))

pub equal_or_not : (i j : ℕ) → (i ≡ j) ⊎ (i ≡ j → ⊥)
equal_or_not i j = ⊎_elim (λ e. inl (eqb-true i j e)) (λ e. inr (eqb-false i j e)) (decide (eqb i j))

-- ---- membership

pub mem_zero : (i : ℕ) → mem i 0 ≡ false
unfolding mem
mem_zero zero = refl
mem_zero (suc i) = mem_zero i

-- a number below 2 ^ n has no bit at or above n
pub mem_above : (n i s : ℕ) → s < 2 ^ n → n ≤ i → mem i s ≡ false
unfolding mem
mem_above zero i s h k = let e : s ≡ 0 = omega arith in ap (mem i) e ∙ mem_zero i
mem_above (suc n) zero s h k = absurd (omega arith)
mem_above (suc n) (suc i) s h k = mem_above n i (s / 2) (half_lt n h) (le_of_suc-le-suc k)

-- two sets of n terminals with the same members are one
pub set_ext : (n a b : ℕ) → a < 2 ^ n → b < 2 ^ n → ((i : ℕ) → i < n → mem i a ≡ mem i b) → a ≡ b
unfolding mem
set_ext zero a b p q e = omega arith
set_ext (suc n) a b p q e =
    digits_same a b (e 0 (zero-lt-suc n)) (set_ext n (a / 2) (b / 2) (half_lt n p) (half_lt n q) (λ i h. e (suc i) (suc-le-suc h)))

-- ---- the mask of a property

pub mask_lt : (n : ℕ) (P : ℕ → Bool) → mask n P < 2 ^ n
unfolding mask
mask_lt zero P = zero-lt-suc 0
mask_lt (suc n) P = twice_lt (P 0) n (mask_lt n (λ i. P (suc i)))

pub mem_mask : (n i : ℕ) (P : ℕ → Bool) → i < n → mem i (mask n P) ≡ P i
unfolding mem mask
mem_mask zero i P h = absurd (not-suc-le-zero h)
mem_mask (suc n) zero P h = ap (λ (d : ℕ). eqb d 1) (low_of (P 0) (mask n (λ i. P (suc i)))) ∙ bit_test (P 0)
mem_mask (suc n) (suc i) P h =
    ap (mem i) (high_of (P 0) (mask n (λ j. P (suc j)))) ∙ mem_mask n i (λ j. P (suc j)) (le_of_suc-le-suc h)

pub mem_mask_above : (n i : ℕ) (P : ℕ → Bool) → n ≤ i → mem i (mask n P) ≡ false
mem_mask_above n i P h = mem_above n i (mask n P) (mask_lt n P) h

-- a number of n bits is the mask of any property that its bits have
pub mask_of : (n s : ℕ) (P : ℕ → Bool) → s < 2 ^ n → ((i : ℕ) → i < n → mem i s ≡ P i) → s ≡ mask n P
mask_of n s P h e = set_ext n s (mask n P) h (mask_lt n P) (λ i k. e i k ∙ sym (mem_mask n i P k))

pub mask_cong : (n : ℕ) (P Q : ℕ → Bool) → ((i : ℕ) → i < n → P i ≡ Q i) → mask n P ≡ mask n Q
mask_cong n P Q e = mask_of n (mask n P) Q (mask_lt n P) (λ i k. mem_mask n i P k ∙ e i k)

-- ---- every terminal

pub all_at : (n : ℕ) (P : ℕ → Bool) → all n P ≡ true → (i : ℕ) → i < n → P i ≡ true
unfolding all
all_at zero P h i k = absurd (not-suc-le-zero k)
all_at (suc n) P h zero k = and_l _ _ h
all_at (suc n) P h (suc i) k = all_at n (λ j. P (suc j)) (and_r _ _ h) i (le_of_suc-le-suc k)

pub all_i : (n : ℕ) (P : ℕ → Bool) → ((i : ℕ) → i < n → P i ≡ true) → all n P ≡ true
unfolding all
all_i zero P f = refl
all_i (suc n) P f = and_i _ _ (f 0 (zero-lt-suc n)) (all_i n (λ j. P (suc j)) (λ i k. f (suc i) (suc-le-suc k)))

pub all_cong : (n : ℕ) (P Q : ℕ → Bool) → ((i : ℕ) → i < n → P i ≡ Q i) → all n P ≡ all n Q
unfolding all
all_cong zero P Q e = refl
all_cong (suc n) P Q e =
    ap₂ ◌and◌ (e 0 (zero-lt-suc n)) (all_cong n (λ j. P (suc j)) (λ j. Q (suc j)) (λ i k. e (suc i) (suc-le-suc k)))

-- where not all have P, one of them lacks it
pub all_not : (n : ℕ) (P : ℕ → Bool) → all n P ≡ false → (i : ℕ) × (i < n) × (P i ≡ false)
unfolding all ◌and◌
all_not zero P h = clash refl h
all_not (suc n) P h = go (P 0) refl h (all_not n (λ j. P (suc j)))
  where
    go : (b : Bool) → P 0 ≡ b → b and all n (λ j. P (suc j)) ≡ false
        → (all n (λ j. P (suc j)) ≡ false → (i : ℕ) × (i < n) × (P (suc i) ≡ false)) → (i : ℕ) × (i < suc n) × (P i ≡ false)
    go true e k rest = let r = rest k in (suc r.0, suc-le-suc r.1, r.2)
    go false e k rest = (0, zero-lt-suc n, e)

-- ---- some terminal

pub some_i : (n : ℕ) (P : ℕ → Bool) (i : ℕ) → i < n → P i ≡ true → some n P ≡ true
unfolding some
some_i zero P i k h = absurd (not-suc-le-zero k)
some_i (suc n) P zero k h = or_l _ _ h
some_i (suc n) P (suc i) k h = or_r _ _ (some_i n (λ j. P (suc j)) i (le_of_suc-le-suc k) h)

pub some_at : (n : ℕ) (P : ℕ → Bool) → some n P ≡ true → (i : ℕ) × (i < n) × (P i ≡ true)
unfolding some
some_at zero P h = clash h refl
some_at (suc n) P h =
    ⊎_elim (λ e. (0, zero-lt-suc n, e))
    (λ e. let r = some_at n (λ j. P (suc j)) e in (suc r.0, suc-le-suc r.1, r.2))
    (or_e _ _ h)

pub some_cong : (n : ℕ) (P Q : ℕ → Bool) → ((i : ℕ) → i < n → P i ≡ Q i) → some n P ≡ some n Q
unfolding some
some_cong zero P Q e = refl
some_cong (suc n) P Q e =
    ap₂ ◌or◌ (e 0 (zero-lt-suc n)) (some_cong n (λ j. P (suc j)) (λ j. Q (suc j)) (λ i k. e (suc i) (suc-le-suc k)))

-- over more terminals than matter
pub all_width : (n w : ℕ) (P : ℕ → Bool) → n ≤ w → ((i : ℕ) → n ≤ i → P i ≡ true) → all w P ≡ all n P
all_width n w P l z =
    same_test _ _
    (λ h. all_i n P (λ i k. all_at w P h i (lt_of_lt_of_le k l)))
    (λ h. all_i w P (λ i k. ⊎_elim (all_at n P h i) (z i) (below_or_not i n)))

-- the terminals below i + 1 are those below i, and i
some_next : (i : ℕ) (P : ℕ → Bool) → some i P or P i ≡ some (i + 1) P
some_next i P =
    same_test _ _
    (λ h. ⊎_elim (λ e. let w = some_at i P e in some_i (i + 1) P w.0 (omega (arith, w.1)) w.2) (λ e. some_i (i + 1) P i (omega arith) e) (or_e _ _ h))
    (λ h. let w = some_at (i + 1) P h in
    ⊎_elim (λ k. or_l _ _ (some_i i P w.0 k w.2)) (λ k. or_r _ _ (subst (λ (j : ℕ). P j ≡ true) (let l = w.1 in omega arith) w.2)) (below_or_not w.0 i))

pub some_turn : (i : ℕ) (P : ℕ → Bool) (found : Bool) → found ≡ some i P → (found || P i) ≡ some (i + 1) P
some_turn i P found e = ap (λ (b : Bool). b || P i) e ∙ or_code (some i P) (P i) ∙ some_next i P

-- ---- counts

bit_mono : (a b : Bool) → (a ≡ true → b ≡ true) → bit a ≤ bit b
bit_mono true b f = subst (λ (x : Bool). 1 ≤ bit x) (sym (f refl)) (le_refl 1)
bit_mono false b f = zero-le

pub count_cong : (n : ℕ) (P Q : ℕ → Bool) → ((i : ℕ) → i < n → P i ≡ Q i) → count n P ≡ count n Q
unfolding count
count_cong zero P Q e = refl
count_cong (suc n) P Q e =
    ap₂ (λ (b : Bool) (m : ℕ). bit b + m) (e 0 (zero-lt-suc n)) (count_cong n (λ j. P (suc j)) (λ j. Q (suc j)) (λ i k. e (suc i) (suc-le-suc k)))

pub count_mono : (n : ℕ) (P Q : ℕ → Bool) → ((i : ℕ) → i < n → P i ≡ true → Q i ≡ true) → count n P ≤ count n Q
unfolding count
count_mono zero P Q f = zero-le
count_mono (suc n) P Q f =
    add-le-add (bit_mono (P 0) (Q 0) (f 0 (zero-lt-suc n))) (count_mono n (λ j. P (suc j)) (λ j. Q (suc j)) (λ i k. f (suc i) (suc-le-suc k)))

pub count_none : (n : ℕ) (P : ℕ → Bool) → ((i : ℕ) → i < n → P i ≡ false) → count n P ≡ 0
unfolding count
count_none zero P f = refl
count_none (suc n) P f =
    ap₂ (λ (b : Bool) (m : ℕ). bit b + m) (f 0 (zero-lt-suc n)) (count_none n (λ j. P (suc j)) (λ i k. f (suc i) (suc-le-suc k)))

bit_le : (b : Bool) → bit b ≤ 1
bit_le true = le_refl 1
bit_le false = zero-le

pub count_le : (n : ℕ) (P : ℕ → Bool) → count n P ≤ n
unfolding count
count_le zero P = zero-le
count_le (suc n) P = let t : count n (λ j. P (suc j)) ≤ n = count_le n (λ j. P (suc j)) in omega (arith, bit_le (P 0))

-- two properties that differ at one place alone are counted one apart at most
pub count_apart : (n a : ℕ) (P Q : ℕ → Bool) → ((i : ℕ) → i < n → (i ≡ a → ⊥) → P i ≡ true → Q i ≡ true) → count n P ≤ count n Q + 1
unfolding count
count_apart zero a P Q h = zero-le
count_apart (suc n) zero P Q h =
    let rest = count_mono n (λ i. P (suc i)) (λ i. Q (suc i)) (λ i l. h (suc i) (suc-le-suc l) (λ e. absurd (omega arith))) in
    omega (arith, bit_le (P 0))
count_apart (suc n) (suc a) P Q h =
    let rest = count_apart n a (λ i. P (suc i)) (λ i. Q (suc i)) (λ i l e. h (suc i) (suc-le-suc l) (λ z. e (omega arith))) in
    omega (arith, bit_mono (P 0) (Q 0) (h 0 (zero-lt-suc n) (λ e. absurd (omega arith))))

-- one more member counts one more
pub count_more : (n : ℕ) (P Q : ℕ → Bool) → ((i : ℕ) → i < n → P i ≡ true → Q i ≡ true)
    → (j : ℕ) → j < n → P j ≡ false → Q j ≡ true → count n P < count n Q
unfolding count
count_more zero P Q f j k p q = absurd (not-suc-le-zero k)
count_more (suc n) P Q f zero k p q =
    let t : count n (λ j. P (suc j)) ≤ count n (λ j. Q (suc j)) = count_mono n (λ j. P (suc j)) (λ j. Q (suc j)) (λ i h. f (suc i) (suc-le-suc h)) in
    omega (arith, ap bit p, ap bit q)
count_more (suc n) P Q f (suc j) k p q =
    let t : count n (λ j. P (suc j)) < count n (λ j. Q (suc j)) =
    count_more n (λ j. P (suc j)) (λ j. Q (suc j)) (λ i h. f (suc i) (suc-le-suc h)) j (le_of_suc-le-suc k) p q in
    let u : bit (P 0) ≤ bit (Q 0) = bit_mono (P 0) (Q 0) (f 0 (zero-lt-suc n)) in
    omega arith

-- a count upwards: the terminals below i + 1 are those below i, and i
pub count_next : (i : ℕ) (P : ℕ → Bool) → count (suc i) P ≡ count i P + bit (P i)
unfolding count
count_next zero P = omega arith
count_next (suc i) P =
    let t : count (suc i) (λ j. P (suc j)) ≡ count i (λ j. P (suc j)) + bit (P (suc i)) = count_next i (λ j. P (suc j)) in
    omega arith

pub few : (f : ℕ) {m : ℕ} → m ≡ 0 → ltb f m ≡ false
few f {m} e = le-ltb f m (omega arith)

-- ---- sets of n terminals, one within the other

-- a set within another is that set, or has fewer members
pub subset_fewer : (n s t : ℕ) → s < 2 ^ n → t < 2 ^ n → ((i : ℕ) → i < n → mem i s ≡ true → mem i t ≡ true)
    → (s ≡ t) ⊎ (count n (λ i. mem i s) < count n (λ i. mem i t))
subset_fewer n s t p q sub = go (decide (all n (λ i. mem i t implies mem i s)))
  where
    go : (all n (λ i. mem i t implies mem i s) ≡ true) ⊎ (all n (λ i. mem i t implies mem i s) ≡ false)
        → (s ≡ t) ⊎ (count n (λ i. mem i s) < count n (λ i. mem i t))
    go (inl a) =
        inl (set_ext n s t p q (λ i k. same_test _ _ (sub i k) (implies_e _ _ (all_at n (λ i. mem i t implies mem i s) a i k))))
    go (inr a) =
        let w = all_not n (λ i. mem i t implies mem i s) a in
        inr (count_more n (λ i. mem i s) (λ i. mem i t) sub w.0 w.1 (implies_no_r _ _ w.2) (implies_no_l _ _ w.2))

-- a set that is not empty has a member
pub some_member : (n s : ℕ) → s < 2 ^ n → (s ≡ 0 → ⊥) → (i : ℕ) × (i < n) × (mem i s ≡ true)
some_member n s h z = go (decide (all n (λ i. not (mem i s))))
  where
    go : (all n (λ i. not (mem i s)) ≡ true) ⊎ (all n (λ i. not (mem i s)) ≡ false) → (i : ℕ) × (i < n) × (mem i s ≡ true)
    go (inl a) =
        absurd (z (set_ext n s 0 h (pow_pos n) (λ i k. not_e (mem i s) (all_at n (λ i. not (mem i s)) a i k) ∙ sym (mem_zero i))))
    go (inr a) =
        let w = all_not n (λ i. not (mem i s)) a in
        (w.0, w.1, not_no (mem w.0 s) w.2)

-- a member is below n
pub mem_below : (n i s : ℕ) → s < 2 ^ n → mem i s ≡ true → i < n
mem_below n i s h m = ⊎_elim (λ k. k) (λ k. clash m (mem_above n i s h k)) (below_or_not i n)

-- a loop over all terminals: one that lacks P decides, and the terminals below i + 1 are those below i, and i
pub all_no : (n : ℕ) (P : ℕ → Bool) (i : ℕ) → i < n → P i ≡ false → all n P ≡ false
all_no n P i k e = no_by (λ h. clash (all_at n P h i k) e)

pub all_next : (i : ℕ) (P : ℕ → Bool) → all i P ≡ true → P i ≡ true → all (i + 1) P ≡ true
all_next i P h e = all_i (i + 1) P (below_more (λ (j : ℕ). P j ≡ true) i (all_at i P h) e)

-- a count over more terminals than have the property
pub count_width : (n w : ℕ) (P : ℕ → Bool) → n ≤ w → ((i : ℕ) → n ≤ i → P i ≡ false) → count w P ≡ count n P
unfolding count
count_width zero w P h f = count_none w P (λ i k. f i zero-le)
count_width (suc n) zero P h f = absurd (not-suc-le-zero h)
count_width (suc n) (suc w) P h f =
    ap (λ (m : ℕ). bit (P 0) + m) (count_width n w (λ j. P (suc j)) (le_of_suc-le-suc h) (λ i k. f (suc i) (suc-le-suc k)))

-- a mask upwards: the terminals below i + 1 are those below i, and i
pub mask_next : (i : ℕ) (P : ℕ → Bool) → mask (suc i) P ≡ mask i P + bit (P i) * 2 ^ i
unfolding mask
mask_next zero P = let e : bit (P 0) * 2 ^ 0 ≡ bit (P 0) = mul-one (bit (P 0)) in omega arith
mask_next (suc i) P =
    let t : mask (suc i) (λ j. P (suc j)) ≡ mask i (λ j. P (suc j)) + bit (P (suc i)) * 2 ^ i = mask_next i (λ j. P (suc j)) in
    let e : bit (P (suc i)) * 2 ^ suc i ≡ bit (P (suc i)) * 2 ^ i * 2 =
    ap (λ (x : ℕ). bit (P (suc i)) * x) (pow-suc 2 i) ∙ sym (mul_assoc (bit (P (suc i))) (2 ^ i) 2) in
    omega arith
