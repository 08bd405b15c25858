-- The table's lines and counts. Assumes nothing.
use Prim.Native.Nat.{ℕ, zero, suc, ◌+◌, ◌*◌, ◌≤◌, ◌<◌}
use mathlib.Core.Path.{◌≡◌, refl, sym, ap, ◌∙◌, subst}
use mathlib.Core.Logic.{◌⊎◌, inl, inr, ⊎_elim}
use mathlib.Core.Bool.{Bool, true, false}
use mathlib.Core.List.{List, [], ◌∷◌, ◌++◌, append-nil, append_assoc}
use native.Mathlib.Omega.{arith}
use lib.IntN.{ℤ, pos, negsuc, nat_abs}
use lib.ListN.{length, length-append}
use lib.Signed.{lt_z, le_z}
use borrow.Author.Tests.{ltb-true, ltb-false, lt-leb, le-leb}
use Rattle.sets.specs.Tests.{◌and◌}
use Rattle.sets.specs.Sets.{bit, count}
use Rattle.sets.proofs.Bools.{clash, and_i, and_no_l}
use Rattle.sets.proofs.Laws.{below_or_not, count_le, count_next}
use Rattle.partition.specs.declared.Standing.{Standing}
use Rattle.partition.specs.declared.Standing.TheVariants.{Source, Direct, Margin, Absent}
use Rattle.text.specs.Digits.{decimal}
use Rattle.text.specs.Texts.{joined}
use Rattle.text.proofs.Laws.{then, room_for, decimal_short}
use Rattle.margin_output.specs.declared.Tally.{Tally}
use Rattle.margin_output.specs.Margins.{signed, direct_word, standing_line, standing_lines, counts_line}
use Rattle.margin_output.specs.Counts.{stands_direct, stands_below, stands_level, stands_above, tallied, tally_of}

-- ---- counts

none_more : (a : ℕ) (x : Bool) → x ≡ false → a ≡ a + bit x
none_more a true e = clash refl e
none_more a false e = omega arith

one_more : (a : ℕ) (x : Bool) → x ≡ true → a + 1 ≡ a + bit x
one_more a true e = refl
one_more a false e = clash e refl

-- a margin lies on one side of zero
level_below : (m : ℤ) → lt_z m (pos 0) ≡ true → le_z m (pos 0) and le_z (pos 0) m ≡ false
unfolding ◌and◌
level_below (pos v) h = absurd (let l = ltb-true v 0 h in omega arith)
level_below (negsuc v) h = refl

above_below : (m : ℤ) → lt_z m (pos 0) ≡ true → lt_z (pos 0) m ≡ false
above_below (pos v) h = absurd (let l = ltb-true v 0 h in omega arith)
above_below (negsuc v) h = refl

level_above : (m : ℤ) → lt_z (pos 0) m ≡ true → le_z m (pos 0) and le_z (pos 0) m ≡ false
level_above (pos v) h = and_no_l _ _ (lt-leb v 0 (ltb-true 0 v h))
level_above (negsuc v) h = clash h refl

level_neither : (m : ℤ) → lt_z m (pos 0) ≡ false → lt_z (pos 0) m ≡ false → le_z m (pos 0) and le_z (pos 0) m ≡ true
level_neither (pos v) b a = and_i _ _ (le-leb v 0 (ltb-false 0 v a)) (le-leb 0 v (omega arith))
level_neither (negsuc v) b a = clash refl b

module _ (t : Tally) where
  pub tally_source : t ≡ tallied t Source
  unfolding tallied stands_direct stands_below stands_level stands_above
  tally_source = λ i. record {
    direct = none_more t.direct false refl i;
    below = none_more t.below false refl i;
    level = none_more t.level false refl i;
    above = none_more t.above false refl i;
  }

  pub tally_absent : t ≡ tallied t Absent
  unfolding tallied stands_direct stands_below stands_level stands_above
  tally_absent = λ i. record {
    direct = none_more t.direct false refl i;
    below = none_more t.below false refl i;
    level = none_more t.level false refl i;
    above = none_more t.above false refl i;
  }

  pub tally_direct : record { direct = t.direct + 1; below = t.below; level = t.level; above = t.above } ≡ tallied t Direct
  unfolding tallied stands_direct stands_below stands_level stands_above
  tally_direct = λ i. record {
    direct = t.direct + 1;
    below = none_more t.below false refl i;
    level = none_more t.level false refl i;
    above = none_more t.above false refl i;
  }

  module _ (m : ℤ) where
    pub tally_below : lt_z m (pos 0) ≡ true → record { direct = t.direct; below = t.below + 1; level = t.level; above = t.above } ≡ tallied t (Margin m)
    unfolding tallied stands_direct stands_below stands_level stands_above
    tally_below h = λ i. record {
      direct = none_more t.direct false refl i;
      below = one_more t.below (lt_z m (pos 0)) h i;
      level = none_more t.level (le_z m (pos 0) and le_z (pos 0) m) (level_below m h) i;
      above = none_more t.above (lt_z (pos 0) m) (above_below m h) i;
    }

    pub tally_above : lt_z m (pos 0) ≡ false → lt_z (pos 0) m ≡ true
        → record { direct = t.direct; below = t.below; level = t.level; above = t.above + 1 } ≡ tallied t (Margin m)
    unfolding tallied stands_direct stands_below stands_level stands_above
    tally_above b h = λ i. record {
      direct = none_more t.direct false refl i;
      below = none_more t.below (lt_z m (pos 0)) b i;
      level = none_more t.level (le_z m (pos 0) and le_z (pos 0) m) (level_above m h) i;
      above = one_more t.above (lt_z (pos 0) m) h i;
    }

    pub tally_level : lt_z m (pos 0) ≡ false → lt_z (pos 0) m ≡ false
        → record { direct = t.direct; below = t.below; level = t.level + 1; above = t.above } ≡ tallied t (Margin m)
    unfolding tallied stands_direct stands_below stands_level stands_above
    tally_level b a = λ i. record {
      direct = none_more t.direct false refl i;
      below = none_more t.below (lt_z m (pos 0)) b i;
      level = one_more t.level (le_z m (pos 0) and le_z (pos 0) m) (level_neither m b a) i;
      above = none_more t.above (lt_z (pos 0) m) a i;
    }

-- the places so far, and one more
pub tally_start : (standing : ℕ → Standing) → record { direct = 0; below = 0; level = 0; above = 0 } ≡ tally_of 0 standing
unfolding tally_of count
tally_start standing = refl

pub tally_next : (k : ℕ) (standing : ℕ → Standing) (t r : Tally) (s : Standing) → s ≡ standing k → t ≡ tally_of k standing → r ≡ tallied t s → r ≡ tally_of (k + 1) standing
unfolding tallied tally_of
tally_next k standing t r s q e h =
    let suc-is : suc k ≡ k + 1 = omega arith in
    h ∙ (λ i. tallied (e i) (q i))
    ∙ (λ i. record {
      direct = sym (count_next k (λ b. stands_direct (standing b))) i;
      below = sym (count_next k (λ b. stands_below (standing b))) i;
      level = sym (count_next k (λ b. stands_level (standing b))) i;
      above = sym (count_next k (λ b. stands_above (standing b))) i;
    })
    ∙ ap (λ (n : ℕ). tally_of n standing) suc-is

pub tally_few : (k : ℕ) (standing : ℕ → Standing) (t : Tally) → t ≡ tally_of k standing → (t.direct ≤ k) × (t.below ≤ k) × (t.level ≤ k) × (t.above ≤ k)
unfolding tally_of
tally_few k standing t e =
    subst (λ (x : Tally). (x.direct ≤ k) × (x.below ≤ k) × (x.level ≤ k) × (x.above ≤ k)) (sym e)
    (count_le k (λ b. stands_direct (standing b)), count_le k (λ b. stands_below (standing b)), count_le k (λ b. stands_level (standing b)), count_le k (λ b. stands_above (standing b)))

-- ---- a margin in decimal

-- a margin below zero, and another, by its size
pub signed_below : (m : ℤ) → lt_z m (pos 0) ≡ true → 45 ∷ decimal (nat_abs m) ≡ signed m
unfolding signed
signed_below (pos v) h = absurd (let l = ltb-true v 0 h in omega arith)
signed_below (negsuc v) h = refl

pub signed_above : (m : ℤ) → lt_z m (pos 0) ≡ false → decimal (nat_abs m) ≡ signed m
unfolding signed
signed_above (pos v) h = refl
signed_above (negsuc v) h = clash refl h

-- ---- lines

-- one part after the other, each with room
pub line_direct : (xs : List ℕ) (b : ℕ) {one last : List ℕ} → one ≡ joined xs (decimal b) → last ≡ joined one (32 ∷ (direct_word ++ (10 ∷ [])))
    → last ≡ joined xs (standing_line b Direct)
unfolding standing_line
line_direct xs b a c =
    then xs (decimal b) (32 ∷ (direct_word ++ (10 ∷ []))) a c
    ∙ ap (joined xs) (sym (append_assoc (decimal b ++ (32 ∷ [])) direct_word (10 ∷ []) ∙ append_assoc (decimal b) (32 ∷ []) (direct_word ++ (10 ∷ []))))

pub line_margin : (xs : List ℕ) (b : ℕ) (m : ℤ) {one two three last : List ℕ} → one ≡ joined xs (decimal b) → two ≡ joined one (32 ∷ [])
    → three ≡ joined two (signed m) → last ≡ joined three (10 ∷ []) → last ≡ joined xs (standing_line b (Margin m))
unfolding standing_line
line_margin xs b m a c d e = then xs _ (10 ∷ []) (then xs _ (signed m) (then xs (decimal b) (32 ∷ []) a c) d) e

-- the source has none, and so has a number that is not in the plan
nothing_more : (xs : List ℕ) → length xs ≤ 344 → xs ≡ joined xs []
nothing_more xs h = sym (room_for xs [] (omega arith) ∙ append-nil xs)

pub line_source : (xs : List ℕ) (b : ℕ) → length xs ≤ 344 → xs ≡ joined xs (standing_line b Source)
unfolding standing_line
line_source xs b h = nothing_more xs h

pub line_absent : (xs : List ℕ) (b : ℕ) → length xs ≤ 344 → xs ≡ joined xs (standing_line b Absent)
unfolding standing_line
line_absent xs b h = nothing_more xs h

pub line_counts : (xs : List ℕ) (t : Tally) {a b c d e f g last : List ℕ} → a ≡ joined xs (decimal t.direct) → b ≡ joined a (32 ∷ [])
    → c ≡ joined b (decimal t.below) → d ≡ joined c (32 ∷ []) → e ≡ joined d (decimal t.level) → f ≡ joined e (32 ∷ [])
    → g ≡ joined f (decimal t.above) → last ≡ joined g (10 ∷ []) → last ≡ joined xs (counts_line t.direct t.below t.level t.above)
unfolding counts_line
line_counts xs t p q r s u v w y =
    let two = then xs (decimal t.direct) (32 ∷ []) p q in
    let four = then xs _ (32 ∷ []) (then xs _ (decimal t.below) two r) s in
    let six = then xs _ (32 ∷ []) (then xs _ (decimal t.level) four u) v in
    then xs _ (10 ∷ []) (then xs _ (decimal t.above) six w) y

-- a line has at most eleven bytes, and the counts at most sixteen
signed_short : (m : ℤ) → length (signed m) ≤ 4
unfolding signed
signed_short (pos v) = let h = decimal_short v in omega arith
signed_short (negsuc v) = let h = decimal_short (suc v) in omega arith

line_short : (b : ℕ) (s : Standing) → length (standing_line b s) ≤ 11
unfolding standing_line
line_short b Source = omega arith
line_short b Direct =
    let h = decimal_short b in
    omega (arith, length-append (decimal b ++ (32 ∷ []) ++ direct_word) (10 ∷ []), length-append (decimal b ++ (32 ∷ [])) direct_word, length-append (decimal b) (32 ∷ []))
line_short b (Margin m) =
    let h = decimal_short b in
    let k = signed_short m in
    omega (arith, length-append (decimal b ++ (32 ∷ []) ++ signed m) (10 ∷ []), length-append (decimal b ++ (32 ∷ [])) (signed m), length-append (decimal b) (32 ∷ []))
line_short b Absent = omega arith

pub lines_short : (k : ℕ) (standing : ℕ → Standing) → length (standing_lines k standing) ≤ 11 * k
unfolding standing_lines
lines_short zero standing = omega arith
lines_short (suc k) standing =
    let h = lines_short k standing in
    let l = line_short k (standing k) in
    omega (arith, length-append (standing_lines k standing) (standing_line k (standing k)))

pub next_line : (k : ℕ) (standing : ℕ → Standing) (t last : List ℕ) (s : Standing) → k < 20 → s ≡ standing k → t ≡ standing_lines k standing
    → last ≡ joined t (standing_line k s) → last ≡ standing_lines (k + 1) standing
unfolding standing_lines
next_line k standing t last s h e q a =
    let suc-is : suc k ≡ k + 1 = omega arith in
    a ∙ (λ i. joined (q i) (standing_line k (e i)))
    ∙ room_for (standing_lines k standing) (standing_line k (standing k)) (let l = lines_short k standing in let m = line_short k (standing k) in omega arith)
    ∙ ap (λ (n : ℕ). standing_lines n standing) suc-is

pub same_lines : (k : ℕ) (f g : ℕ → Standing) → ((b : ℕ) → b < k → f b ≡ g b) → standing_lines k f ≡ standing_lines k g
unfolding standing_lines
same_lines zero f g e = refl
same_lines (suc k) f g e =
    let l = same_lines k f g (λ b h. e b (omega arith)) in
    λ i. l i ++ standing_line k (e k (let z : k < suc k = omega arith in z) i)

-- numbers from n on have none
pub lines_absent : (n k : ℕ) (standing : ℕ → Standing) → ((b : ℕ) → n ≤ b → standing b ≡ Absent) → n ≤ k → standing_lines k standing ≡ standing_lines n standing
unfolding standing_lines standing_line
lines_absent n zero standing f h = let e : 0 ≡ n = omega arith in ap (λ (x : ℕ). standing_lines x standing) e
lines_absent n (suc k) standing f h =
    ⊎_elim
    (λ l.
    ap (λ (s : Standing). standing_lines k standing ++ standing_line k s) (f k l) ∙ append-nil (standing_lines k standing) ∙ lines_absent n k standing f l)
    (λ l. let e : suc k ≡ n = omega arith in ap (λ (x : ℕ). standing_lines x standing) e) (at_or_not n k)
  where
    at_or_not : (a b : ℕ) → (a ≤ b) ⊎ (b < a)
    at_or_not a b = ⊎_elim inr inl (below_or_not b a)

pub counts_short : (a b c d : ℕ) → length (counts_line a b c d) ≤ 16
unfolding counts_line
counts_short a b c d =
    let w = decimal_short a in
    let x = decimal_short b in
    let y = decimal_short c in
    let z = decimal_short d in
    let two = decimal a ++ (32 ∷ []) in
    let three = two ++ decimal b in
    let four = three ++ (32 ∷ []) in
    let five = four ++ decimal c in
    let six = five ++ (32 ∷ []) in
    omega (
      arith,
      length-append (six ++ decimal d) (10 ∷ []),
      length-append six (decimal d),
      length-append five (32 ∷ []),
      length-append four (decimal c),
      length-append three (32 ∷ []),
      length-append two (decimal b),
      length-append (decimal a) (32 ∷ []),
    )
