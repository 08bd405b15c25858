-- A file of n and a sentence: its first line, its second line, and what is told of it. Assumes nothing.
use Prim.Native.Nat.{ℕ, zero, suc, ◌+◌, ◌-◌, ◌/◌, ◌%◌, ◌≤◌, ◌<◌}
use mathlib.Core.Path.{◌≡◌, refl, sym, ap, ap₂, ◌∙◌}
use mathlib.Core.Bool.{Bool, true, false, ◌&&◌}
use mathlib.Core.List.{List, [], ◌∷◌, ◌++◌}
use native.Mathlib.Omega.{arith}
use lib.Dec.{eqb, ltb}
use Rattle.std.specs.Prelude.{Some, None, Result, Ok, Err}
use Rattle.std.specs.Result.{IsErrAnd}
use lib.ListN.{length, get_or, take, drop, drop_of_length-le, length-append, length-take, length-drop}
use lib.Pointwise.{pointwise}
use lib.Seq.{take_all, drop-cons}
use borrow.Author.Tests.{eq-eqb, ne_eqb, lt-ltb, le-ltb}
use Rattle.sets.specs.Tests.{◌and◌, ◌or◌, pick}
use Rattle.sets.proofs.Bools.{and_i, and_r, and_no_r, or_l, or_r, or_no, pick_yes, pick_no, pick_case}
use Rattle.text.specs.Digits.{decimal}
use Rattle.text.specs.declared.Written as texts
use Rattle.text.specs.Texts.{joined, written_of, put_into}
use Rattle.text.specs.Phrases.{begins}
use Rattle.text.proofs.Laws.{then, whole, decimal_one, decimal_two, decimal_short}
use Rattle.text.proofs.Phrases.{same_is}
use Rattle.wording.specs.declared.Sets.{Sets}
use Rattle.wording.specs.declared.HeardError.{HeardError}
use Rattle.wording.specs.declared.HeardError.TheVariants as heard
use Rattle.wording.specs.Sentence.{terminals_in_range}
use Rattle.wording.specs.Heard.{Told, refused, told, heard_of}
use Rattle.wording.proofs.Causes.{range_right}
use Rattle.wording.proofs.Telling.{heard_small}
use Rattle.frames.specs.Reading.{most_bytes}
use Rattle.output.specs.declared.Written.{Written}
use Rattle.output.specs.OnFile.{refusal_line, on_line}
use Rattle.verdict_output.specs.Verdict.{verdict_line}
use Rattle.verdict_output.proofs.LineLaws.{low_sets}
use Rattle.sentence_output.specs.declared.entry.EntryError.{EntryError}
use Rattle.sentence_output.specs.declared.entry.EntryError.TheVariants.{WrongFile, WrongRange, OtherText}
use Rattle.sentence_output.specs.Entered.{number_of, entered_instead, entry, numbered}
use Rattle.sentence_output.specs.Heard.{number_line, terminals_below, terminals_in, line_ends, heard_on, heard_in, line_of, heard_answer, heard_text}

-- ---- the first line

pub says_number : (n : ℕ) {a b last : List ℕ} → a ≡ [] → b ≡ joined a (decimal n) → last ≡ joined b (10 ∷ []) → last ≡ number_line n
unfolding number_line
says_number n z p q = whole z (then _ (decimal n) (10 ∷ []) p q) (let h = decimal_short n in omega (arith, length-append (decimal n) (10 ∷ [])))

pub one_digit : (n : ℕ) → n < 10 → number_line n ≡ (48 + n) ∷ 10 ∷ []
unfolding number_line
one_digit n h = ap (λ (l : List ℕ). l ++ (10 ∷ [])) (sym (decimal_one n h))

pub two_digits : (n : ℕ) → 10 ≤ n → n < 100 → number_line n ≡ (48 + n / 10) ∷ (48 + n % 10) ∷ 10 ∷ []
unfolding number_line
two_digits n h k = ap (λ (l : List ℕ). l ++ (10 ∷ [])) (sym (decimal_two n h k))

pub one_length : (n : ℕ) → n < 10 → length (number_line n) ≡ 2
one_length n h = ap length (one_digit n h)

pub two_length : (n : ℕ) → 10 ≤ n → n < 100 → length (number_line n) ≡ 3
two_length n h k = ap length (two_digits n h k)

pub some_numbered : (m t : ℕ) → 2 ≤ m → m ≡ t → Some m ≡ numbered t
some_numbered zero t a e = absurd (omega arith)
some_numbered (suc m) t a e = ap numbered e

pub numbered_none : (t : ℕ) → None ≡ numbered t → t ≡ 0
numbered_none zero e = refl
numbered_none (suc t) e = cc

pub numbered_some : (n t : ℕ) → Some n ≡ numbered t → (n ≡ t) × (t ≡ 0 → ⊥)
numbered_some n zero e = cc
numbered_some n (suc t) e = (cc, λ z. omega arith)

module _ (file : List ℕ) where
  pub terminals_start : 0 ≡ terminals_below 2 file
  unfolding terminals_below terminals_in_range ◌and◌ pick
  terminals_start = refl

  pub terminals_yes : (n : ℕ) (line : List ℕ) (is : Bool) → 2 ≤ n → n < 21 → line ≡ number_line n → is ≡ begins line file → is ≡ true
      → n ≡ terminals_below (suc n) file
  unfolding terminals_below
  terminals_yes n line is a b e q y =
      sym (pick_yes _ _ _ (and_i _ _ (range_right n a (omega arith)) (ap (λ (l : List ℕ). begins l file) (sym e) ∙ sym q ∙ y)))

  pub terminals_no : (n : ℕ) (line : List ℕ) (is : Bool) → line ≡ number_line n → is ≡ begins line file → is ≡ false
      → terminals_below n file ≡ terminals_below (suc n) file
  unfolding terminals_below
  terminals_no n line is e q y = sym (pick_no _ _ _ (and_no_r _ _ (ap (λ (l : List ℕ). begins l file) (sym e) ∙ sym q ∙ y)))

  begins_fits : (line : List ℕ) → begins line file ≡ true → length line ≤ length file
  unfolding begins
  begins_fits line h = omega (arith, ap length (same_is line (take (length line) file) h), length-take (length line) file)

  below_fits : (numbers : ℕ) → (terminals_below numbers file ≡ 0 → ⊥)
      → (terminals_below numbers file < numbers) × (length (number_line (terminals_below numbers file)) ≤ length file)
  unfolding terminals_below
  below_fits zero h = absurd (h refl)
  below_fits (suc n) h =
      pick_case (λ (k : ℕ). (k ≡ 0 → ⊥) → (k < suc n) × (length (number_line k) ≤ length file)) (terminals_in_range n and begins (number_line n) file) _ _
      (λ y z. (omega arith, begins_fits (number_line n) (and_r _ _ y))) (λ y z. let r = below_fits n z in (omega arith, r.1)) h

  pub terminals_fit : (terminals_in file ≡ 0 → ⊥) → (terminals_in file < 21) × (length (number_line (terminals_in file)) ≤ length file)
  unfolding terminals_in
  terminals_fit h = below_fits 21 h

-- ---- the second line

-- the last byte, as the library's test of the end sees it
and_true : (a : Bool) → (a && true) ≡ a
and_true true = refl
and_true false = refl

pub last_is : (bytes : List ℕ) → pointwise eqb (drop (length bytes - 1) bytes) (10 ∷ []) ≡ line_ends bytes
unfolding line_ends
last_is [] = refl
last_is (b ∷ rest) =
    let bytes : List ℕ = b ∷ rest in
    let m : ℕ = length bytes - 1 in
    let e : drop m bytes ≡ get_or bytes m 0 ∷ [] =
    drop-cons bytes m 0 (omega arith) ∙ ap (λ (l : List ℕ). get_or bytes m 0 ∷ l) (drop_of_length-le bytes {i = suc m} (omega arith)) in
    ap (λ (l : List ℕ). pointwise eqb l (10 ∷ [])) e ∙ and_true (eqb (get_or bytes m 0) 10)

-- a part up to the end is all of the rest
pub rest_is : (k : ℕ) (file : List ℕ) → take (length file - k) (drop k file) ≡ drop k file
rest_is k file = take_all (length file - k) (drop k file) (omega (arith, length-drop k file))

module _ (n : ℕ) (bytes : List ℕ) where
  pub on_line_lem : line_ends bytes ≡ true → heard_of n (take (length bytes - 1) bytes) ≡ heard_on n bytes
  unfolding heard_on
  on_line_lem h = sym (pick_yes _ _ _ h)

  pub on_other : line_ends bytes ≡ false → refused 2 ≡ heard_on n bytes
  unfolding heard_on
  on_other h = sym (pick_no _ _ _ h)

-- ---- the file

module _ (file : List ℕ) where
  pub in_empty : length file ≡ 0 → refused 1 ≡ heard_in file
  unfolding heard_in
  in_empty h = sym (pick_yes _ _ _ (or_l _ _ (eq-eqb (length file) 0 h)))

  pub in_long : 24576 < length file → refused 1 ≡ heard_in file
  unfolding heard_in
  in_long h = sym (pick_yes _ _ _ (or_r _ _ (lt-ltb 24576 (length file) h)))

  module _ (some : length file ≡ 0 → ⊥) (few : length file ≤ 24576) where
    sized : eqb (length file) 0 or ltb most_bytes (length file) ≡ false
    sized = or_no _ _ (ne_eqb (length file) 0 some) (le-ltb 24576 (length file) few)

    pub in_none : terminals_in file ≡ 0 → refused 4 ≡ heard_in file
    unfolding heard_in
    in_none h = sym (pick_no _ _ _ sized ∙ pick_yes _ _ _ (eq-eqb (terminals_in file) 0 h))

    pub in_some : (terminals_in file ≡ 0 → ⊥) → heard_on (terminals_in file) (drop (length (number_line (terminals_in file))) file) ≡ heard_in file
    unfolding heard_in
    in_some h = sym (pick_no _ _ _ sized ∙ pick_no _ _ _ (ne_eqb (terminals_in file) 0 h))

    -- after the line of n, of so many bytes
    pub in_rest : (n len : ℕ) → Some n ≡ numbered (terminals_in file) → len ≡ length (number_line n) → heard_on n (take (length file - len) (drop len file)) ≡ heard_in file
    in_rest n len e l =
        let s = numbered_some n (terminals_in file) e in
        ap (heard_on n) (rest_is len file)
        ∙ ap₂ (λ (k m : ℕ). heard_on k (drop m file)) s.0 (l ∙ ap (λ (k : ℕ). length (number_line k)) s.0)
        ∙ in_some s.1

abbrev Small : Told → Type 0
Small t = (t.f < 16777216) × (t.l < 16777216) × (t.r < 16777216)

pub in_small : (file : List ℕ) → ((heard_in file).f < 16777216) × ((heard_in file).l < 16777216) × ((heard_in file).r < 16777216)
unfolding heard_in heard_on
in_small file =
    pick_case Small (eqb (length file) 0 or ltb most_bytes (length file)) _ _ (λ y. (omega arith, omega arith, omega arith))
    (λ y.
    pick_case Small (eqb (terminals_in file) 0) _ _ (λ z. (omega arith, omega arith, omega arith))
    (λ z. pick_case Small (line_ends (drop (length (number_line (terminals_in file))) file)) _ _ (λ w. heard_small (terminals_in file) _) (λ w. (omega arith, omega arith, omega arith))))

-- ---- the line that is printed

pub answer_sets : (f l r : ℕ) {last : List ℕ} → (f < 16777216) × (l < 16777216) × (r < 16777216)
    → last ≡ verdict_line 1 (f % 16777216) (l % 16777216) (r % 16777216) → last ≡ heard_answer (record { number = 0; f = f; l = l; r = r })
unfolding heard_answer
answer_sets f l r s a = a ∙ low_sets 1 f l r s ∙ sym (pick_yes _ _ _ refl)

some_number : (e : EntryError) → number_of e ≡ 0 → ⊥
some_number WrongFile z = omega arith
some_number WrongRange z = omega arith
some_number OtherText z = omega arith

pub answer_refused : (e : EntryError) {number line : ℕ} {last : List ℕ} → number ≡ number_of e → line ≡ line_of (number_of e) → last ≡ refusal_line number line
    → last ≡ heard_answer (refused (number_of e))
unfolding heard_answer
answer_refused e a b q = q ∙ ap₂ refusal_line a b ∙ sym (pick_no _ _ _ (ne_eqb (number_of e) 0 (some_number e)))

pub accepted_line : 0 ≡ line_of 0
unfolding line_of pick
accepted_line = refl

-- a refusal of the reader
pub entered_as : (h : HeardError) (r : Result Sets EntryError) → IsErrAnd r (λ e. e ≡ entered_instead h) → entry r ≡ told (Err h)
entered_as h (Ok s) i = absurd i
entered_as heard.WrongRange (Err e) i = ap (λ (x : EntryError). refused (number_of x)) i
entered_as heard.OtherText (Err e) i = ap (λ (x : EntryError). refused (number_of x)) i

-- ---- what is put

-- of what was found on the file, with its line
pub entry_put : (file out last : List ℕ) (t : Told) (line : ℕ) (text : List ℕ) (w : texts.Written) (r : Written) → t ≡ heard_in file → line ≡ line_of t.number
    → text ≡ heard_answer t → w ≡ written_of t.number (length text) (length out) → last ≡ put_into text out → r ≡ on_line line w
    → (r ≡ on_line (line_of (heard_in file).number) (written_of (heard_in file).number (length (heard_text file)) (length out))) × (last ≡ put_into (heard_text file) out)
unfolding heard_text
entry_put file out last t line text w r e l a b p q = (
  q
      ∙ ap₂ on_line l b
      ∙ ap (λ (x : List ℕ). on_line (line_of t.number) (written_of t.number (length x) (length out))) a
      ∙ ap (λ (x : Told). on_line (line_of x.number) (written_of x.number (length (heard_answer x)) (length out))) e,
  p ∙ ap (λ (x : List ℕ). put_into x out) a ∙ ap (λ (x : Told). put_into (heard_answer x) out) e,
)
