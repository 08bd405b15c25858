-- How long a sentence is: of at most twenty terminals, of whom one is not named, at most 108 bytes. Assumes nothing.
use Prim.Native.Nat.{ℕ, zero, suc, ◌+◌, ◌-◌, ◌*◌, ◌^◌, ◌≤◌, ◌<◌}
use mathlib.Core.Path.{◌≡◌, refl, sym, ap, ◌∙◌, subst}
use mathlib.Core.Logic.{⊎_elim}
use mathlib.Core.Bool.{Bool, true, false}
use mathlib.Core.List.{List, [], ◌∷◌, ◌++◌}
use native.Mathlib.Nat.{zero-add}
use native.Mathlib.Omega.{arith}
use lib.Dec.{eqb}
use lib.ListN.{length, length-append}
use lib.Pow.{pow_pos}
use borrow.Author.Tests.{eqb-true}
use Rattle.sets.specs.Sets.{bit, mem, size, within, is_partition}
use Rattle.sets.proofs.Bools.{clash, decide, and_r, pick_case}
use Rattle.sets.proofs.Laws.{below_or_not, mem_zero, count_cong, all_at, subset_fewer}
use Rattle.text.specs.Digits.{decimal}
use Rattle.text.specs.Phrases.{phrase}
use Rattle.text.proofs.Laws.{decimal_one, decimal_two}
use Rattle.wording.specs.Sentence.{members_from, members, between, listing, agreeing, opening, closing, sentence, sentence_cause}
use Rattle.wording.proofs.Listings.{members_yes, members_no, members_count}
use Rattle.wording.proofs.Causes.{sound}

-- ---- a listing is no longer than its numbers, two bytes for each, and one

abbrev weight : List ℕ → ℕ
weight [] = 0
weight (i ∷ rest) = 2 + length (decimal i) + weight rest

listing_length : (xs : List ℕ) → length (listing xs) ≤ weight xs + 1
unfolding listing between phrase
listing_length [] = omega arith
listing_length (a ∷ []) = omega (arith, length-append (decimal a) [])
listing_length (a ∷ b ∷ []) = omega (arith, length-append (decimal a) (phrase " and " ++ (decimal b ++ [])), length-append (decimal b) [])
listing_length (a ∷ b ∷ c ∷ rest) =
    let h : length (listing (b ∷ c ∷ rest)) ≤ weight (b ∷ c ∷ rest) + 1 = listing_length (b ∷ c ∷ rest) in
    omega (arith, length-append (decimal a) (phrase ", " ++ listing (b ∷ c ∷ rest)))

listing_one : (xs : List ℕ) → length xs ≡ 1 → length (listing xs) + 2 ≡ weight xs
unfolding listing between
listing_one [] e = absurd (omega arith)
listing_one (a ∷ []) e = omega (arith, length-append (decimal a) [])
listing_one (a ∷ b ∷ rest) e = absurd (omega arith)

-- ---- the numbers of three sets together

one_digit : (i : ℕ) → i < 10 → length (decimal i) ≡ 1
one_digit i h = ap length (sym (decimal_one i h))

two_digits : (i : ℕ) → 10 ≤ i → i < 100 → length (decimal i) ≡ 2
two_digits i h k = ap length (sym (decimal_two i h k))

abbrev total : (i k : ℕ) → ℕ
total i zero = 0
total i (suc k) = 2 + length (decimal i) + total (suc i) k

total_most : (i k : ℕ) → i + k ≤ 100 → total i k + ((10 - i) - (10 - (i + k))) ≤ 4 * k
total_most i zero h = omega arith
total_most i (suc k) h =
    let rest : total (suc i) k + ((10 - suc i) - (10 - (suc i + k))) ≤ 4 * k = total_most (suc i) k (omega arith) in
    ⊎_elim (λ l. omega (arith, one_digit i l)) (λ l. omega (arith, two_digits i l (omega arith))) (below_or_not i 10)

weight_next : (i k s : ℕ) → weight (members_from i (suc k) s) ≡ bit (mem i s) * (2 + length (decimal i)) + weight (members_from (suc i) k s)
weight_next i k s =
    ⊎_elim
    (λ h. ap weight (members_yes s i k h) ∙ (let b = ap bit h in let e : bit (mem i s) * (2 + length (decimal i)) ≡ 1 * (2 + length (decimal i)) = ap (λ (x : ℕ). x * (2 + length (decimal i))) b in omega (arith, e)))
    (λ h. ap weight (members_no s i k h) ∙ (let b = ap bit h in let e : bit (mem i s) * (2 + length (decimal i)) ≡ 0 * (2 + length (decimal i)) = ap (λ (x : ℕ). x * (2 + length (decimal i))) b in omega (arith, e)))
    (decide (mem i s))

one_in : (a b c : Bool) (d : ℕ) → eqb (bit a + bit b + bit c) 1 ≡ true → bit a * d + bit b * d + bit c * d ≡ d
one_in true true true d e = clash e refl
one_in true true false d e = clash e refl
one_in true false true d e = clash e refl
one_in true false false d e = omega arith
one_in false true true d e = clash e refl
one_in false true false d e = omega arith
one_in false false true d e = omega arith
one_in false false false d e = clash e refl

module _ (f l r : ℕ) where
  three : (i k : ℕ) → ((j : ℕ) → j < i + k → eqb (bit (mem j f) + bit (mem j l) + bit (mem j r)) 1 ≡ true)
      → weight (members_from i k f) + weight (members_from i k l) + weight (members_from i k r) ≡ total i k
  unfolding members_from
  three i zero h = omega arith
  three i (suc k) h =
      let rest : weight (members_from (suc i) k f) + weight (members_from (suc i) k l) + weight (members_from (suc i) k r) ≡ total (suc i) k =
      three (suc i) k (λ j q. h j (omega arith)) in
      omega (arith, rest, weight_next i k f, weight_next i k l, weight_next i k r, one_in (mem i f) (mem i l) (mem i r) (2 + length (decimal i)) (h i (omega arith)))

-- ---- a set that has a member

pub members_size : (n s : ℕ) → length (members n s) ≡ size n s
unfolding size
members_size n s = members_count s 0 n ∙ count_cong n (λ j. mem (0 + j) s) (λ j. mem j s) (λ j k. ap (λ (m : ℕ). mem m s) (zero-add j))

some_size : (n s : ℕ) → s < 2 ^ n → (s ≡ 0 → ⊥) → 0 < size n s
unfolding size
some_size n s h z =
    ⊎_elim (λ e. absurd (z (sym e))) (λ e. omega (arith, e))
    (subset_fewer n 0 s (pow_pos n) h (λ i k m. clash m (mem_zero i)))

weight_some : (xs : List ℕ) → ((i : ℕ) → 1 ≤ length (decimal i)) → 0 < length xs → 3 ≤ weight xs
weight_some [] d h = absurd (omega arith)
weight_some (a ∷ rest) d h = omega (arith, d a)

some_digit : (i : ℕ) → 1 ≤ length (decimal i)
unfolding decimal
some_digit i =
    pick_case (λ (l : List ℕ). 1 ≤ length l) _ _ _ (λ h. omega arith)
    (λ h. pick_case (λ (l : List ℕ). 1 ≤ length l) _ _ _ (λ k. omega arith) (λ k. omega arith))

-- ---- the parts of the sentence

opening_length : (n f : ℕ) → length (opening n f) ≤ weight (members n f) + 18
unfolding opening agreeing phrase
opening_length n f =
    pick_case (λ (l : List ℕ). length l ≤ weight (members n f) + 18) (eqb f 0) _ _ (λ z. omega arith)
    (λ z.
    pick_case (λ (l : List ℕ). length (phrase "If " ++ (listing (members n f) ++ l)) ≤ weight (members n f) + 18) (eqb (size n f) 1) _ _
    (λ o. omega (arith, length-append (listing (members n f)) (phrase " stays silent, "), listing_one (members n f) (members_size n f ∙ eqb-true (size n f) 1 o)))
    (λ o. omega (arith, length-append (listing (members n f)) (phrase " stay silent, "), listing_length (members n f))))

closing_length : (n r : ℕ) → length (closing n r) ≤ weight (members n r) + 23
unfolding closing agreeing phrase
closing_length n r =
    pick_case (λ (l : List ℕ). length (listing (members n r) ++ l) ≤ weight (members n r) + 23) (eqb (size n r) 1) _ _
    (λ o. omega (arith, length-append (listing (members n r)) (phrase " never gets the notice."), listing_one (members n r) (members_size n r ∙ eqb-true (size n r) 1 o)))
    (λ o. omega (arith, length-append (listing (members n r)) (phrase " never get the notice."), listing_length (members n r)))

pub sentence_short : (n f l r : ℕ) → sentence_cause n f l r ≡ 0 → length (sentence n f r) ≤ 108
unfolding sentence is_partition within
sentence_short n f l r h =
    let s = sound n f l r h in
    let sum = three f l r 0 n (λ j k. all_at n (λ b. eqb (bit (mem b f) + bit (mem b l) + bit (mem b r)) 1) (and_r _ _ (and_r _ _ (and_r _ _ s.part))) j (omega arith)) in
    let most = total_most 0 n (let t = s.twenty in omega arith) in
    let left = weight_some (members n l) some_digit (subst (λ (x : ℕ). 0 < x) (sym (members_size n l)) (some_size n l s.l_below s.l_some)) in
    let t = s.twenty in
    omega (arith, sum, most, left, length-append (opening n f) (closing n r), opening_length n f, closing_length n r)
