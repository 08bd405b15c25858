-- What is written of a byte, texts one after the other in one that is put together, and a text that is put into a list. Assumes nothing.
use Prim.Native.Nat.{ℕ, zero, suc, ◌+◌, ◌/◌, ◌%◌, ◌≤◌, ◌<◌}
use mathlib.Core.Path.{◌≡◌, refl, sym, ap, ap₂, ◌∙◌}
use mathlib.Core.Logic.{⊎_elim}
use mathlib.Core.Bool.{Bool, true, false, not}
use mathlib.Core.List.{List, [], ◌∷◌, ◌++◌, append_assoc}
use native.Mathlib.Nat.{zero-add}
use native.Mathlib.Numerals.{add-one}
use native.Mathlib.Omega.{arith}
use lib.Dec.{eqb, ltb}
use lib.ListN.{length, take, drop, set, length-take, length-append}
use lib.Seq.{take_all, take-append-le, take-append_seam, take-suc-set, sets, sets-eq}
use borrow.Author.Tests.{ne_eqb, lt-ltb, le-ltb, ltb-false}
use Rattle.sets.specs.Causes.{◌gives◌, first_cause}
use Rattle.sets.proofs.Bools.{and_i, not_i, pick_yes, pick_no, pick_case, every}
use Rattle.sets.proofs.Causes.{cause_here, cause_none, given_passes, given_decides}
use Rattle.sets.proofs.Laws.{equal_or_not}
use Rattle.digits.specs.Digits.{character_of}
use Rattle.digits.proofs.Laws.{character_no_end}
use Rattle.text.specs.Digits.{hex_byte, decimal}
use Rattle.text.specs.Texts.{joined, written_of, put_into}

-- ---- bytes as digits

-- none of the bytes ends a line
abbrev pub no_end : List ℕ → Bool
no_end = every (λ b. not (eqb b 10))

pub byte_no_end : (b : ℕ) (rest : List ℕ) → no_end rest ≡ true → no_end (hex_byte b ++ rest) ≡ true
unfolding every hex_byte
byte_no_end b rest h =
    and_i _ _ (not_i (ne_eqb _ 10 (character_no_end (b / 16)))) (and_i _ _ (not_i (ne_eqb _ 10 (character_no_end (b % 16)))) h)

-- ---- a text that is put together

take_more : (m : ℕ) (xs ys : List ℕ) → take m (take m xs ++ ys) ≡ take m (xs ++ ys)
take_more zero xs ys = refl
take_more (suc m) [] ys = refl
take_more (suc m) (x ∷ xs) ys = ap (λ (l : List ℕ). x ∷ l) (take_more m xs ys)

-- one part after another
pub then : (xs part rest : List ℕ) {mid last : List ℕ} → mid ≡ joined xs part → last ≡ joined mid rest → last ≡ joined xs (part ++ rest)
unfolding joined
then xs part rest a b =
    b ∙ ap (λ (l : List ℕ). joined l rest) a ∙ take_more 344 (xs ++ part) rest ∙ ap (take 344) (append_assoc xs part rest)

pub byte_joined : (xs : List ℕ) (b x y : ℕ) {mid last : List ℕ} → x ≡ character_of (b / 16) → y ≡ character_of (b % 16) → mid ≡ joined xs (x ∷ [])
    → last ≡ joined mid (y ∷ []) → last ≡ joined xs (hex_byte b)
unfolding hex_byte
byte_joined xs b x y e f a c = then xs (x ∷ []) (y ∷ []) a c ∙ ap₂ (λ (i j : ℕ). joined xs (i ∷ j ∷ [])) e f

-- a text that has room for all that it is given has it all
pub room_for : (xs part : List ℕ) → length xs + length part ≤ 344 → joined xs part ≡ xs ++ part
unfolding joined
room_for xs part h = take_all 344 (xs ++ part) (omega (arith, length-append xs part))

pub whole : {xs line last : List ℕ} → xs ≡ [] → last ≡ joined xs line → length line ≤ 344 → last ≡ line
whole {xs} {line} {last} e a h = a ∙ ap (λ (l : List ℕ). joined l line) e ∙ room_for [] line (omega arith)

module _ (bytes : List ℕ) (len b : ℕ) (room : length bytes ≡ 344) where
  pub grown : len < 344 → take (len + 1) (set bytes len b) ≡ joined (take len bytes) (b ∷ [])
  grown h =
      let k : len < length bytes = omega arith in
      let l : length (take len bytes) + 1 ≤ 344 = omega (arith, length-take len bytes) in
      ap (λ (n : ℕ). take n (set bytes len b)) (add-one len) ∙ take-suc-set bytes len b k ∙ sym (room_for (take len bytes) (b ∷ []) l)

  pub full : 344 ≤ len → take len bytes ≡ joined (take len bytes) (b ∷ [])
  unfolding joined
  full h =
      let all : take len bytes ≡ bytes = take_all len bytes (omega arith) in
      let k : 344 ≤ length bytes = omega arith in
      all
      ∙ sym (take_all 344 bytes (omega arith))
      ∙ sym (take-append-le 344 bytes (b ∷ []) k)
      ∙ ap (λ (l : List ℕ). joined l (b ∷ [])) (sym all)

-- ---- a text that is put into a list

pub put_fits : (text out : List ℕ) → length text ≤ length out → put_into text out ≡ sets out 0 text
unfolding put_into
put_fits text out h = pick_no _ _ _ (le-ltb (length out) (length text) h)

pub put_short : (text out : List ℕ) → length out < length text → put_into text out ≡ out
unfolding put_into
put_short text out h = pick_yes _ _ _ (lt-ltb (length out) (length text) h)

-- the text's bytes are stored over the front of the list
pub put_front : (own : List ℕ) {text part : List ℕ} (out : List ℕ) → own ≡ text → part ≡ own → length own ≤ length out
    → part ++ drop (length own) out ≡ put_into text out
put_front own {text} {part} out e f k =
    ap (λ (l : List ℕ). l ++ drop (length own) out) f
    ∙ sym (ap (λ (n : ℕ). own ++ drop n out) (zero-add (length own)))
    ∙ sym (sets-eq own out 0 (omega arith))
    ∙ sym (put_fits own out k)
    ∙ ap (λ (l : List ℕ). put_into l out) e

-- what is answered
module _ (number len room : ℕ) where
  pub written_fits : len ≤ room → written_of number len room ≡ record { number = number; len = len }
  unfolding written_of first_cause
  written_fits h =
      let s : ltb room len ≡ false = le-ltb room len h in
      ap₂ (λ (x y : ℕ). record { number = x; len = y })
      (⊎_elim (λ z. given_passes number (ltb room len gives 12 ∷ []) z ∙ pick_no _ _ _ s ∙ sym z) (given_decides number (ltb room len gives 12 ∷ [])) (equal_or_not number 0)) (pick_no _ _ _ s)

  pub written_short : room < len → number ≡ 0 → written_of number len room ≡ record { number = 12; len = 0 }
  unfolding written_of
  written_short h z =
      let s : ltb room len ≡ true = lt-ltb room len h in
      ap₂ (λ (x y : ℕ). record { number = x; len = y }) (given_passes number (ltb room len gives 12 ∷ []) z ∙ cause_here _ _ _ s) (pick_yes _ _ _ s)

  pub written_refused : room < len → (number ≡ 0 → ⊥) → written_of number len room ≡ record { number = number; len = 0 }
  unfolding written_of
  written_refused h n =
      ap₂ (λ (x y : ℕ). record { number = x; len = y }) (given_decides number (ltb room len gives 12 ∷ []) n) (pick_yes _ _ _ (lt-ltb room len h))

-- what is answered lies within the list, which has as many bytes as before
pub written_within : (number len room : ℕ) → (written_of number len room).len ≤ room
unfolding written_of
written_within number len room = pick_case (λ (n : ℕ). n ≤ room) (ltb room len) 0 len (λ h. omega arith) (λ h. ltb-false room len h)

-- where nothing is refused, the list begins with the text, of the length that is answered
pub put_back : (number : ℕ) (text out : List ℕ) → (written_of number (length text) (length out)).number ≡ 0
    → (number ≡ 0) × (take (written_of number (length text) (length out)).len (put_into text out) ≡ text)
unfolding written_of
put_back number text out h = ⊎_elim go (λ n. absurd (n (sym (given_decides number (ltb (length out) (length text) gives 12 ∷ []) n) ∙ h))) (equal_or_not number 0)
  where
    go : number ≡ 0 → (number ≡ 0) × (take (written_of number (length text) (length out)).len (put_into text out) ≡ text)
    go z =
        let c = (cause_none (ltb (length out) (length text)) 12 [] (λ y. omega arith) (sym (given_passes number (ltb (length out) (length text) gives 12 ∷ []) z) ∙ h)).0 in
        let k : length text ≤ length out = ltb-false (length out) (length text) c in
        (z, ap₂ take (pick_no _ _ _ c) (put_fits text out k ∙ sets-eq text out 0 (omega arith)) ∙ take-append_seam text (drop (0 + length text) out))

-- ---- a byte in decimal

pub decimal_one : (v : ℕ) → v < 10 → (48 + v) ∷ [] ≡ decimal v
unfolding decimal
decimal_one v h = sym (pick_yes _ _ _ (lt-ltb v 10 h))

pub decimal_two : (v : ℕ) → 10 ≤ v → v < 100 → (48 + v / 10) ∷ (48 + v % 10) ∷ [] ≡ decimal v
unfolding decimal
decimal_two v h k = sym (pick_no _ _ _ (le-ltb v 10 h) ∙ pick_yes _ _ _ (lt-ltb v 100 k))

pub decimal_three : (v : ℕ) → 100 ≤ v → (48 + v / 100) ∷ (48 + v / 10 % 10) ∷ (48 + v % 10) ∷ [] ≡ decimal v
unfolding decimal
decimal_three v h = sym (pick_no _ _ _ (le-ltb v 10 (omega arith)) ∙ pick_no _ _ _ (le-ltb v 100 h))

pub decimal_short : (v : ℕ) → length (decimal v) ≤ 3
unfolding decimal
decimal_short v =
    pick_case (λ (l : List ℕ). length l ≤ 3) (ltb v 10) _ _ (λ h. omega arith)
    (λ h. pick_case (λ (l : List ℕ). length l ≤ 3) (ltb v 100) _ _ (λ k. omega arith) (λ k. omega arith))
