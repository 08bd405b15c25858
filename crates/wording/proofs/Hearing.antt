-- Of a sentence its own sets are heard. Assumes nothing.
use Prim.Native.Nat.{ℕ, zero, suc, ◌+◌, ◌*◌, ◌/◌, ◌%◌, ◌^◌, ◌≤◌, ◌<◌}
use mathlib.Core.Path.{◌≡◌, refl, sym, ap, ap₂, ◌∙◌}
use mathlib.Core.Logic.{⊎_elim}
use mathlib.Core.Bool.{Bool, true, false}
use mathlib.Core.List.{List, [], ◌∷◌, ◌++◌, append_assoc}
use native.Mathlib.Nat.{add-zero, zero-add, lt_of_lt_of_le}
use native.Mathlib.Numerals.{add-one}
use native.Mathlib.Omega.{arith}
use lib.Bits.{bit_or}
use lib.Dec.{eqb, ltb}
use lib.ListN.{length}
use lib.Pow.{pow_mono}
use borrow.Author.Tests.{eqb-true, lt-ltb, ltb-true, le-leb}
use Rattle.sets.specs.Tests.{◌and◌, ◌or◌, pick}
use Rattle.sets.specs.Sets.{bit, mem, mask, size, with}
use Rattle.sets.proofs.Bools.{decide, and_i, and_l, and_r, pick_yes, pick_no, pick_case, every}
use Rattle.sets.proofs.Laws.{below_or_not, mask_lt, mask_of, mask_next}
use Rattle.sets.proofs.Masks.{mask_or}
use Rattle.sets.proofs.Operations.{power_singleton, or_with}
use Rattle.text.specs.Digits.{decimal}
use Rattle.text.specs.Phrases.{phrase}
use Rattle.text.proofs.Laws.{decimal_one, decimal_two}
use Rattle.wording.specs.declared.ear.Ear.{Ear}
use Rattle.std.specs.Option.{unwrap_or}
use Rattle.std.specs.Prelude.{Option, Some, None}
use Rattle.wording.specs.Ear.{attentive, placed, is_turn, turned, is_figure, after_byte, after_all}
use Rattle.wording.specs.Sentence.{members_from, members, between, listing, agreeing, opening, closing, sentence, sentence_cause}
use Rattle.wording.proofs.Ears.{figured_small}
use Rattle.wording.proofs.Causes.{sound}

abbrev ear : Bool → (number : Option ℕ) (f r : ℕ) → Ear
ear w number f r = record { waiting = w; number = number; f = f; r = r }

-- ---- a number

figure_is : (v : ℕ) → v < 10 → is_figure (48 + v) ≡ true
unfolding is_figure
figure_is v h = and_i _ _ (le-leb 48 (48 + v) (omega arith)) (le-leb (48 + v) 57 (omega arith))

figure_heard : (w : Bool) (k : Option ℕ) (f r v x : ℕ) → v < 10 → unwrap_or k 0 ≤ 99 → x ≡ unwrap_or k 0 * 10 + v
    → after_byte (ear w k f r) (48 + v) ≡ ear w (Some x) f r
unfolding after_byte
figure_heard w k f r v x h l e =
    pick_yes _ _ _ (figure_is v h) ∙ sym (figured_small (ear w k f r) (48 + v) x l (omega arith))

number_heard : (w : Bool) (f r v : ℕ) (t : List ℕ) → v < 20 → after_all (ear w None f r) (decimal v ++ t) ≡ after_all (ear w (Some v) f r) t
unfolding after_all
number_heard w f r v t h =
    ⊎_elim
    (λ l.
    ap (λ (d : List ℕ). after_all (ear w None f r) (d ++ t)) (sym (decimal_one v l))
    ∙ ap (λ (e : Ear). after_all e t) (figure_heard w None f r v v l (omega arith) (omega arith)))
    (λ l.
    ap (λ (d : List ℕ). after_all (ear w None f r) (d ++ t)) (sym (decimal_two v l (omega arith)))
    ∙ ap (λ (e : Ear). after_all (after_byte e (48 + v % 10)) t) (figure_heard w None f r (v / 10) (v / 10) (omega arith) (omega arith) (omega arith))
    ∙ ap (λ (e : Ear). after_all e t) (figure_heard w (Some (v / 10)) f r (v % 10) v (omega arith) (omega arith) (omega arith)))
    (below_or_not v 10)

-- ---- a number's end

abbrev in_f : Bool → (f v : ℕ) → ℕ
in_f true f v = f
in_f false f v = with 32 f v

abbrev in_r : Bool → (r v : ℕ) → ℕ
in_r true r v = with 32 r v
in_r false r v = r

placed_is : (w : Bool) (f r v : ℕ) → placed (ear w (Some v) f r) ≡ ear w None (in_f w f v) (in_r w r v)
unfolding placed pick
placed_is true f r v = refl
placed_is false f r v = refl

-- a byte that is no figure and turns to nobody
ended : (w : Bool) (f r v byte : ℕ) → is_figure byte ≡ false → is_turn byte ≡ false
    → after_byte (ear w (Some v) f r) byte ≡ ear w None (in_f w f v) (in_r w r v)
unfolding after_byte turned
ended w f r v byte a b = pick_no _ _ _ a ∙ pick_no _ _ _ b ∙ placed_is w f r v

between_heard : (w : Bool) (f r v more : ℕ) (t : List ℕ)
    → after_all (ear w (Some v) f r) (between (suc more) ++ t) ≡ after_all (ear w None (in_f w f v) (in_r w r v)) t
unfolding after_all between phrase after_byte placed turned is_figure is_turn ◌and◌ ◌or◌ pick
between_heard w f r v zero t = ap (λ (e : Ear). after_all e (97 ∷ 110 ∷ 100 ∷ 32 ∷ t)) (ended w f r v 32 refl refl)
between_heard w f r v (suc more) t = ap (λ (e : Ear). after_all e (32 ∷ t)) (ended w f r v 44 refl refl)

-- ---- a listing, and the byte after it

abbrev all_f : Bool → ℕ → List ℕ → ℕ
all_f w f [] = f
all_f w f (v ∷ rest) = all_f w (in_f w f v) rest

abbrev all_r : Bool → ℕ → List ℕ → ℕ
all_r w r [] = r
all_r w r (v ∷ rest) = all_r w (in_r w r v) rest

below_first : (v : ℕ) (xs : List ℕ) → every (λ v. ltb v 20) (v ∷ xs) ≡ true → v < 20
unfolding every
below_first v xs h = ltb-true v 20 (and_l _ _ h)

below_rest : (v : ℕ) (xs : List ℕ) → every (λ v. ltb v 20) (v ∷ xs) ≡ true → every (λ v. ltb v 20) xs ≡ true
unfolding every
below_rest v xs h = and_r _ _ h

listing_heard : (w : Bool) (f r : ℕ) (xs t : List ℕ) → every (λ v. ltb v 20) xs ≡ true
    → after_all (ear w None f r) (listing xs ++ (32 ∷ t)) ≡ after_all (ear w None (all_f w f xs) (all_r w r xs)) t
unfolding listing between after_all after_byte placed turned is_figure is_turn ◌and◌ ◌or◌ pick
listing_heard w f r [] t h = refl
listing_heard w f r (v ∷ []) t h =
    ap (after_all (ear w None f r)) (append_assoc (decimal v) [] (32 ∷ t))
    ∙ number_heard w f r v (32 ∷ t) (below_first v [] h)
    ∙ ap (λ (e : Ear). after_all e t) (ended w f r v 32 refl refl)
listing_heard w f r (v ∷ u ∷ rest) t h =
    ap (after_all (ear w None f r))
    (append_assoc (decimal v) (between (suc (length rest)) ++ listing (u ∷ rest)) (32 ∷ t)
    ∙ ap (λ (l : List ℕ). decimal v ++ l) (append_assoc (between (suc (length rest))) (listing (u ∷ rest)) (32 ∷ t)))
    ∙ number_heard w f r v (between (suc (length rest)) ++ (listing (u ∷ rest) ++ (32 ∷ t))) (below_first v (u ∷ rest) h)
    ∙ between_heard w f r v (length rest) (listing (u ∷ rest) ++ (32 ∷ t))
    ∙ listing_heard w (in_f w f v) (in_r w r v) (u ∷ rest) t (below_rest v (u ∷ rest) h)

-- ---- the members of a set, put into an empty one

every_member : (i k s : ℕ) → i + k ≤ 20 → every (λ v. ltb v 20) (members_from i k s) ≡ true
unfolding members_from every
every_member i zero s h = refl
every_member i (suc k) s h =
    let rest = every_member (suc i) k s (omega arith) in
    pick_case (λ (l : List ℕ). every (λ v. ltb v 20) l ≡ true) (mem i s) _ _ (λ m. and_i _ _ (lt-ltb i 20 (omega arith)) rest) (λ m. rest)

module _ (s : ℕ) where
  -- those below i
  abbrev low : ℕ → ℕ
  low i = mask i (λ j. mem j s)

  low_with : (i : ℕ) → i < 32 → mem i s ≡ true → with 32 (low i) i ≡ low (suc i)
  low_with i h m =
      sym (or_with 32 (low i) i (lt_of_lt_of_le (mask_lt i (λ j. mem j s)) (pow_mono {j = 32} (omega arith))))
      ∙ ap (bit_or (low i)) (sym (power_singleton 32 i h) ∙ ap (λ (d : ℕ). (d * 2 ^ i) % 2 ^ 32) (sym (ap bit m)))
      ∙ mask_or 32 i (λ j. mem j s) h
      ∙ ap low (add-one i)

  low_without : (i : ℕ) → mem i s ≡ false → low i ≡ low (suc i)
  low_without i m =
      let e : bit (mem i s) * 2 ^ i ≡ 0 * 2 ^ i = ap (λ (d : ℕ). d * 2 ^ i) (ap bit m) in
      omega (arith, mask_next i (λ j. mem j s), e)

  all_silent : (i k : ℕ) → i + k ≤ 32 → all_f false (low i) (members_from i k s) ≡ low (i + k)
  unfolding members_from
  all_silent i zero h = ap low (sym (add-zero i))
  all_silent i (suc k) h =
      ⊎_elim
      (λ m.
      ap (all_f false (low i)) (pick_yes _ _ _ m)
      ∙ ap (λ (x : ℕ). all_f false x (members_from (suc i) k s)) (low_with i (omega arith) m)
      ∙ all_silent (suc i) k (omega arith)
      ∙ ap low (omega arith))
      (λ m.
      ap (all_f false (low i)) (pick_no _ _ _ m)
      ∙ ap (λ (x : ℕ). all_f false x (members_from (suc i) k s)) (low_without i m)
      ∙ all_silent (suc i) k (omega arith)
      ∙ ap low (omega arith))
      (decide (mem i s))

-- nobody is put into the other set, and both are filled alike
other_f : (f : ℕ) (xs : List ℕ) → all_f true f xs ≡ f
other_f f [] = refl
other_f f (v ∷ rest) = other_f f rest

other_r : (r : ℕ) (xs : List ℕ) → all_r false r xs ≡ r
other_r r [] = refl
other_r r (v ∷ rest) = other_r r rest

alike : (x : ℕ) (xs : List ℕ) → all_r true x xs ≡ all_f false x xs
alike x [] = refl
alike x (v ∷ rest) = alike (with 32 x v) rest

members_back : (n s : ℕ) → n ≤ 20 → s < 2 ^ n → all_f false 0 (members n s) ≡ s
unfolding mask
members_back n s h k =
    all_silent s 0 n (omega arith) ∙ ap (λ (m : ℕ). mask m (λ j. mem j s)) (zero-add n) ∙ sym (mask_of n s (λ j. mem j s) k (λ i l. refl))

-- ---- the parts of the sentence

module _ (n : ℕ) (twenty : n ≤ 20) where
  opening_heard : (f : ℕ) (t : List ℕ) → f < 2 ^ n → after_all attentive (opening n f ++ t) ≡ after_all (ear true None f 0) t
  unfolding opening agreeing phrase after_all after_byte placed turned is_figure is_turn ◌and◌ ◌or◌ pick
  opening_heard f t h =
      pick_case (λ (l : List ℕ). after_all attentive (l ++ t) ≡ after_all (ear true None f 0) t) (eqb f 0) _ _
      (λ z. ap (λ (x : ℕ). after_all (ear true None x 0) t) (sym (eqb-true f 0 z)))
      (λ z.
      pick_case (λ (l : List ℕ). after_all attentive ((phrase "If " ++ (listing (members n f) ++ l)) ++ t) ≡ after_all (ear true None f 0) t) (eqb (size n f) 1) _ _
      (λ o. silent (phrase "stays silent, ") refl) (λ o. silent (phrase "stay silent, ") refl))
    where
      silent : (verb : List ℕ) → after_all (ear false None f 0) (verb ++ t) ≡ after_all (ear true None f 0) t
          → after_all attentive ((phrase "If " ++ (listing (members n f) ++ (32 ∷ verb))) ++ t) ≡ after_all (ear true None f 0) t
      silent verb q =
          ap (after_all attentive) (append_assoc (listing (members n f)) (32 ∷ verb) t)
          ∙ listing_heard false 0 0 (members n f) (verb ++ t) (every_member 0 n f (omega arith))
          ∙ ap₂ (λ (x y : ℕ). after_all (ear false None x y) (verb ++ t)) (members_back n f twenty h) (other_r 0 (members n f))
          ∙ q

  closing_heard : (f r : ℕ) → r < 2 ^ n → after_all (ear true None f 0) (closing n r) ≡ ear true None f r
  unfolding closing agreeing phrase after_all after_byte placed turned is_figure is_turn ◌and◌ ◌or◌ pick
  closing_heard f r h =
      pick_case (λ (l : List ℕ). after_all (ear true None f 0) (listing (members n r) ++ l) ≡ ear true None f r) (eqb (size n r) 1) _ _
      (λ o. waits (phrase "never gets the notice.") refl) (λ o. waits (phrase "never get the notice.") refl)
    where
      waits : (verb : List ℕ) → after_all (ear true None f r) verb ≡ ear true None f r → after_all (ear true None f 0) (listing (members n r) ++ (32 ∷ verb)) ≡ ear true None f r
      waits verb q =
          listing_heard true f 0 (members n r) verb (every_member 0 n r (omega arith))
          ∙ ap₂ (λ (x y : ℕ). after_all (ear true None x y) verb) (other_f f (members n r)) (alike 0 (members n r) ∙ members_back n r twenty h)
          ∙ q

pub sentence_heard : (n f l r : ℕ) → sentence_cause n f l r ≡ 0 → after_all attentive (sentence n f r) ≡ record { waiting = true; number = None; f = f; r = r }
unfolding sentence
sentence_heard n f l r h =
    let s = sound n f l r h in opening_heard n s.twenty f (closing n r) s.f_below ∙ closing_heard n s.twenty f r s.r_below
