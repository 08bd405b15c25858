-- The numbers of a set, as they are said: one after the other in a loop, and how many there are. Assumes nothing.
use Prim.Native.Nat.{ℕ, zero, suc, ◌+◌, ◌-◌, ◌/◌, ◌%◌, ◌^◌, ◌≤◌, ◌<◌}
use mathlib.Core.Path.{◌≡◌, refl, sym, ap, ◌∙◌, subst}
use mathlib.Core.Logic.{⊎_elim}
use mathlib.Core.Bool.{true, false}
use mathlib.Core.List.{List, [], ◌∷◌, ◌++◌, append_assoc}
use native.Mathlib.Nat.{add-zero, add_comm}
use native.Mathlib.Numerals.{add-one}
use native.Mathlib.Omega.{arith}
use lib.Count.{ones}
use lib.Dec.{eqb}
use borrow.Author.Tests.{eq-eqb, ne_eqb}
use lib.ListN.{length}
use lib.Pow.{shr-shr, shr_lt}
use Rattle.sets.specs.Tests.{pick}
use Rattle.sets.specs.Sets.{bit, mem, count, size}
use Rattle.sets.proofs.Bools.{decide, pick_yes, pick_no}
use Rattle.sets.proofs.Laws.{count_cong}
use Rattle.sets.proofs.Masks.{mem_shift, ones_count}
use Rattle.text.specs.Digits.{decimal}
use Rattle.text.specs.Texts.{joined}
use Rattle.text.specs.Phrases.{phrase}
use Rattle.text.proofs.Laws.{then}
use Rattle.wording.specs.Sentence.{members_from, members, between, listing, agreeing, opening}
use Rattle.wording.specs.Turn.{named}

-- ---- how many there are

module _ (s : ℕ) where
  pub members_yes : (i k : ℕ) → mem i s ≡ true → members_from i (suc k) s ≡ i ∷ members_from (suc i) k s
  unfolding members_from
  members_yes i k h = pick_yes _ _ _ h

  pub members_no : (i k : ℕ) → mem i s ≡ false → members_from i (suc k) s ≡ members_from (suc i) k s
  unfolding members_from
  members_no i k h = pick_no _ _ _ h

  pub members_count : (i k : ℕ) → length (members_from i k s) ≡ count k (λ j. mem (i + j) s)
  unfolding members_from count
  members_count i zero = refl
  members_count i (suc k) =
      let rest : length (members_from (suc i) k s) ≡ count k (λ j. mem (suc i + j) s) = members_count (suc i) k in
      let moved : count k (λ j. mem (suc i + j) s) ≡ count k (λ j. mem (i + suc j) s) =
      count_cong k (λ j. mem (suc i + j) s) (λ j. mem (i + suc j) s) (λ j l. ap (λ (m : ℕ). mem m s) (omega arith)) in
      let first : mem (i + 0) s ≡ mem i s = ap (λ (m : ℕ). mem m s) (add-zero i) in
      ⊎_elim
      (λ h. ap length (members_yes i k h) ∙ (let b = ap bit (first ∙ h) in omega (arith, rest, moved, b)))
      (λ h. ap length (members_no i k h) ∙ (let b = ap bit (first ∙ h) in omega (arith, rest, moved, b)))
      (decide (mem i s))

  mem_moved : (i j : ℕ) → mem (i + j) s ≡ mem j (s / 2 ^ i)
  mem_moved i j = mem_shift (i + j) s ∙ ap (λ (x : ℕ). eqb (x % 2) 1) (sym (shr-shr s i j)) ∙ sym (mem_shift j (s / 2 ^ i))

  pub members_ones : (i k : ℕ) → s < 2 ^ (i + k) → length (members_from i k s) ≡ ones (s / 2 ^ i)
  members_ones i k h =
      members_count i k
      ∙ count_cong k (λ j. mem (i + j) s) (λ j. mem j (s / 2 ^ i)) (λ j l. mem_moved i j)
      ∙ sym (ones_count k (s / 2 ^ i) (shr_lt k i (subst (λ (m : ℕ). s < 2 ^ m) (add_comm i k) h)))

  -- terminal i and what follows it, of n terminals
  pub listing_next : (n i : ℕ) → i < n → s < 2 ^ n → listing (members_from i (n - i) s) ≡ named s i ++ listing (members_from (i + 1) (n - (i + 1)) s)
  unfolding named listing
  listing_next n i h w =
      let k : n - i ≡ suc (n - (i + 1)) = omega arith in
      let later : ℕ → List ℕ = λ m. members_from m (n - (i + 1)) s in
      let few : length (later (i + 1)) ≡ ones (s / 2 ^ (i + 1)) = members_ones (i + 1) (n - (i + 1)) (subst (λ (m : ℕ). s < 2 ^ m) (omega arith) w) in
      let one : suc i ≡ i + 1 = sym (add-one i) in
      ap (λ (m : ℕ). listing (members_from i m s)) k
      ∙ ⊎_elim
      (λ m.
      ap listing (members_yes i (n - (i + 1)) m ∙ ap (λ (j : ℕ). i ∷ later j) one)
      ∙ ap (λ (c : ℕ). decimal i ++ (between c ++ listing (later (i + 1)))) few
      ∙ sym (append_assoc (decimal i) (between (ones (s / 2 ^ (i + 1)))) (listing (later (i + 1))))
      ∙ sym (ap (λ (l : List ℕ). l ++ listing (later (i + 1))) (pick_yes _ _ _ m)))
      (λ m.
      ap listing (members_no i (n - (i + 1)) m ∙ ap later one)
      ∙ sym (ap (λ (l : List ℕ). l ++ listing (later (i + 1))) (pick_no _ _ _ m)))
      (decide (mem i s))

  pub listing_ends : (n i : ℕ) → n ≤ i → listing (members_from i (n - i) s) ≡ []
  unfolding listing members_from
  listing_ends n i h = let z : n - i ≡ 0 = omega arith in ap (λ (m : ℕ). listing (members_from i m s)) z

-- one turn of the loop that joins them
pub joined_turn : (xs part rest : List ℕ) {mid : List ℕ} → mid ≡ joined xs part → joined mid rest ≡ joined xs (part ++ rest)
joined_turn xs part rest e = then xs part rest e refl

-- ---- what stands between them

pub between_many : (more : ℕ) → (more ≡ 0 → ⊥) → (more ≡ 1 → ⊥) → between more ≡ phrase ", "
unfolding between
between_many zero y z = absurd (y refl)
between_many (suc zero) y z = absurd (z refl)
between_many (suc (suc more)) y z = refl

-- one member or several, by the word's digits
pub size_ones : (n s : ℕ) → s < 2 ^ n → ones s ≡ size n s
unfolding size
size_ones n s h = ones_count n s h

-- ---- the parts of the sentence, one after the other

-- one phrase of one terminal, the other of several
module _ (n s : ℕ) (below : s < 2 ^ n) (xs one several : List ℕ) {mid last : List ℕ} (numbers : mid ≡ joined xs (listing (members n s))) where
  pub said_one : ones s ≡ 1 → last ≡ joined mid one → last ≡ joined xs (listing (members n s) ++ pick (eqb (size n s) 1) one several)
  said_one h a =
      then xs (listing (members n s)) one numbers a
      ∙ ap (λ (l : List ℕ). joined xs (listing (members n s) ++ l)) (sym (pick_yes _ _ _ (eq-eqb (size n s) 1 (sym (size_ones n s below) ∙ h))))

  pub said_several : (ones s ≡ 1 → ⊥) → last ≡ joined mid several → last ≡ joined xs (listing (members n s) ++ pick (eqb (size n s) 1) one several)
  said_several h a =
      then xs (listing (members n s)) several numbers a
      ∙ ap (λ (l : List ℕ). joined xs (listing (members n s) ++ l)) (sym (pick_no _ _ _ (ne_eqb (size n s) 1 (λ e. h (size_ones n s below ∙ e)))))

pub opened_none : (n f : ℕ) {empty last : List ℕ} → f ≡ 0 → empty ≡ [] → last ≡ joined empty (phrase "Even if all work, ") → last ≡ joined [] (opening n f)
unfolding opening
opened_none n f z e a =
    a ∙ ap (λ (l : List ℕ). joined l (phrase "Even if all work, ")) e ∙ ap (joined []) (sym (pick_yes _ _ _ (eq-eqb f 0 z)))

pub opened_some : (n f : ℕ) {empty first last : List ℕ} → (f ≡ 0 → ⊥) → empty ≡ [] → first ≡ joined empty (phrase "If ")
    → last ≡ joined first (listing (members n f) ++ agreeing n f " stays silent, " " stay silent, ") → last ≡ joined [] (opening n f)
unfolding opening
opened_some n f {empty} z e a b =
    then empty (phrase "If ") (listing (members n f) ++ agreeing n f " stays silent, " " stay silent, ") a b
    ∙ ap (λ (l : List ℕ). joined l (phrase "If " ++ (listing (members n f) ++ agreeing n f " stays silent, " " stay silent, "))) e
    ∙ ap (joined []) (sym (pick_no _ _ _ (ne_eqb f 0 z)))
