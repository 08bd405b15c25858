-- What is printed of an accepted plan, and that what was printed is heard as the verdict's line. Assumes nothing.
use Prim.Native.Nat.{ℕ, zero, suc, ◌+◌, ◌-◌, ◌/◌, ◌%◌, ◌≤◌, ◌<◌}
use mathlib.Core.Path.{◌≡◌, refl, sym, ap, ap₂, ◌∙◌, subst}
use mathlib.Core.Logic.{⊎_elim}
use mathlib.Core.Bool.{Bool, true, false}
use mathlib.Core.List.{List, [], ◌∷◌, ◌++◌}
use native.Mathlib.Omega.{arith}
use lib.Dec.{eqb}
use lib.ListN.{length, get_or, take, drop, length-append}
use lib.Seq.{take-append_seam, drop-append_seam, get_or-append-add}
use borrow.Author.Tests.{eq-eqb, leb-true}
use Rattle.sets.specs.Tests.{◌and◌, pick}
use Rattle.sets.proofs.Bools.{and_i, and_l, and_r, no_by, pick_yes, pick_no}
use Rattle.sets.proofs.Laws.{below_or_not, equal_or_not}
use Rattle.quorum.specs.Quorum.{most_terminals}
use Rattle.plan.specs.Plan.{cause_within, cause_of}
use Rattle.closure.specs.Answer.{judged, answer_within}
use Rattle.text.specs.Phrases.{begins}
use Rattle.text.proofs.Phrases.{same_is, same_yes}
use Rattle.wording.specs.Sentence.{terminals_in_range, sentence, sentence_cause}
use Rattle.wording.specs.Heard.{heard_of}
use Rattle.wording.proofs.Causes.{sound}
use Rattle.wording.proofs.Lengths.{sentence_short}
use Rattle.wording.proofs.Telling.{telling}
use Rattle.frames.specs.Reading.{plan_reader, plan_reading, file_read}
use Rattle.frames.proofs.Accepted.{reading_whole}
use Rattle.output.proofs.Laws.{refused_is, answered_is}
use Rattle.verdict_output.specs.Verdict.{verdict_line, answer_text, verdict_on, verdict_text}
use Rattle.sentence_output.specs.Sentence.{pass_line, fail_line, sentence_answer, sentence_on, sentence_text}
use Rattle.sentence_output.specs.Heard.{number_line, terminals_below, terminals_in, line_ends, heard_on, heard_answer, heard_text}
use Rattle.sentence_output.specs.Printed.{plan_of, verdict_of, SentencePrinted}
use Rattle.sentence_output.proofs.Answers.{answer_composes}
use Rattle.sentence_output.proofs.Entries.{one_digit, two_digits, one_length, two_length, on_line_lem, in_some}

-- ---- a file that begins with the line of n has n terminals

-- no other line stands there
line_one : (k n : ℕ) (rest : List ℕ) → k < 21 → n < 21 → begins (number_line k) (number_line n ++ rest) ≡ true → k ≡ n
unfolding begins
line_one k n rest a b h =
    ⊎_elim (λ i. ⊎_elim (λ j. one_one i j) (λ j. absurd (one_two i j)) (below_or_not n 10))
    (λ i. ⊎_elim (λ j. absurd (two_one i j)) (λ j. two_two i j) (below_or_not n 10)) (below_or_not k 10)
  where
    same : number_line k ≡ take (length (number_line k)) (number_line n ++ rest)
    same = same_is _ _ h

    at : (i : ℕ) (xs ys : List ℕ) (m : ℕ) → number_line k ≡ xs → number_line n ≡ ys → length (number_line k) ≡ m → get_or xs i 0 ≡ get_or (take m (ys ++ rest)) i 0
    at i xs ys m p q e =
        ap (λ (l : List ℕ). get_or l i 0) (sym p ∙ same ∙ ap₂ (λ (c : ℕ) (l : List ℕ). take c (l ++ rest)) e q)

    one_one : k < 10 → n < 10 → k ≡ n
    one_one i j = let z : 48 + k ≡ 48 + n = at 0 _ _ 2 (one_digit k i) (one_digit n j) (one_length k i) in omega arith

    one_two : k < 10 → 10 ≤ n → ⊥
    one_two i j = let z : ◌≡◌ {A = ℕ} 10 (48 + n % 10) = at 1 _ _ 2 (one_digit k i) (two_digits n j (omega arith)) (one_length k i) in omega arith

    two_one : 10 ≤ k → n < 10 → ⊥
    two_one i j = let z : 48 + k % 10 ≡ 10 = at 1 _ _ 3 (two_digits k i (omega arith)) (one_digit n j) (two_length k i (omega arith)) in omega arith

    two_two : 10 ≤ k → 10 ≤ n → k ≡ n
    two_two i j =
        let y : 48 + k / 10 ≡ 48 + n / 10 = at 0 _ _ 3 (two_digits k i (omega arith)) (two_digits n j (omega arith)) (two_length k i (omega arith)) in
        let z : 48 + k % 10 ≡ 48 + n % 10 = at 1 _ _ 3 (two_digits k i (omega arith)) (two_digits n j (omega arith)) (two_length k i (omega arith)) in
        omega arith

module _ (n : ℕ) (rest : List ℕ) (range : terminals_in_range n ≡ true) (twenty : n < 21) where
  begins_own : begins (number_line n) (number_line n ++ rest) ≡ true
  unfolding begins
  begins_own = same_yes _ _ (sym (take-append_seam (number_line n) rest))

  found : (numbers : ℕ) → n < numbers → numbers ≤ 21 → terminals_below numbers (number_line n ++ rest) ≡ n
  unfolding terminals_below
  found zero h k = absurd (omega arith)
  found (suc m) h k =
      ⊎_elim
      (λ e. pick_yes _ _ _ (subst (λ (j : ℕ). terminals_in_range j and begins (number_line j) (number_line n ++ rest) ≡ true) (sym e) (and_i _ _ range begins_own)) ∙ e)
      (λ e.
      pick_no _ _ _ (no_by (λ y. e (line_one m n rest (omega arith) twenty (and_r _ _ y)))) ∙ found m (omega arith) (omega arith))
      (equal_or_not m n)

  pub terminals_of : terminals_in (number_line n ++ rest) ≡ n
  unfolding terminals_in
  terminals_of = found 21 twenty (omega arith)

-- ---- a sentence and its line end, heard

range_two : (n : ℕ) → terminals_in_range n ≡ true → 2 ≤ n
unfolding terminals_in_range
range_two n h = leb-true 2 n (and_l _ _ h)

ends : (xs : List ℕ) → line_ends (xs ++ (10 ∷ [])) ≡ true
unfolding line_ends
ends xs =
    let k : length (xs ++ (10 ∷ [])) - 1 ≡ length xs + 0 = omega (arith, length-append xs (10 ∷ [])) in
    eq-eqb (get_or (xs ++ (10 ∷ [])) (length (xs ++ (10 ∷ [])) - 1) 0) 10 (ap (λ (i : ℕ). get_or (xs ++ (10 ∷ [])) i 0) k ∙ get_or-append-add xs (10 ∷ []) 0 0)

all_but_last : (xs : List ℕ) → take (length (xs ++ (10 ∷ [])) - 1) (xs ++ (10 ∷ [])) ≡ xs
all_but_last xs =
    let k : length (xs ++ (10 ∷ [])) - 1 ≡ length xs = omega (arith, length-append xs (10 ∷ [])) in
    ap (λ (i : ℕ). take i (xs ++ (10 ∷ []))) k ∙ take-append_seam xs (10 ∷ [])

module _ (n f l r : ℕ) (c : sentence_cause n f l r ≡ 0) where
  line_heard : heard_on n (fail_line n f r) ≡ record { number = 0; f = f; l = l; r = r }
  unfolding fail_line
  line_heard =
      sym (on_line_lem n (sentence n f r ++ (10 ∷ [])) (ends (sentence n f r)))
      ∙ ap (heard_of n) (all_but_last (sentence n f r))
      ∙ (telling n).back f l r c

  pub file_heard : heard_text (number_line n ++ fail_line n f r) ≡ verdict_line 1 f l r
  unfolding heard_text heard_answer fail_line
  file_heard =
      let s = sound n f l r c in
      let t = terminals_of n (fail_line n f r) s.range (let h = s.twenty in omega arith) in
      let some : length (number_line n ++ fail_line n f r) ≡ 0 → ⊥ = λ z. omega (arith, z, length-append (number_line n) (fail_line n f r), length-append (sentence n f r) (10 ∷ [])) in
      let few : length (number_line n ++ fail_line n f r) ≤ 24576 =
      omega (arith, length-append (number_line n) (fail_line n f r), length-append (sentence n f r) (10 ∷ []), sentence_short n f l r c, line_short s.twenty) in
      let two : 2 ≤ n = range_two n s.range in
      ap heard_answer
      (sym (in_some (number_line n ++ fail_line n f r) some few (λ z. omega (arith, t, z)))
      ∙ ap (λ (k : ℕ). heard_on k (drop (length (number_line k)) (number_line n ++ fail_line n f r))) t
      ∙ ap (heard_on n) (drop-append_seam (number_line n) (fail_line n f r))
      ∙ line_heard)
      ∙ pick_yes _ _ _ refl
    where
      line_short : n ≤ 20 → length (number_line n) ≤ 3
      line_short h = ⊎_elim (λ k. omega (arith, one_length n k)) (λ k. omega (arith, two_length n k (omega arith))) (below_or_not n 10)

-- ---- the file

module _ (file : List ℕ) where
  refusals : ((plan_reading file).number ≡ 0 → ⊥) → sentence_text file ≡ verdict_text file
  unfolding sentence_text sentence_on verdict_text verdict_on
  refusals z = refused_is (file_read (plan_reading file)) _ z ∙ sym (refused_is (file_read (plan_reading file)) _ z)

  module _ (z : (plan_reading file).number ≡ 0) where
    plan_sound : cause_of (plan_of file) ≡ 0
    unfolding plan_reading
    plan_sound = (reading_whole plan_reader file z).0

    answer_is : answer_within most_terminals (plan_of file) ≡ judged (verdict_of file)
    unfolding answer_within cause_of
    answer_is = pick_yes _ _ _ (eq-eqb (cause_within most_terminals (plan_of file)) 0 plan_sound)

    printed : sentence_text file ≡ sentence_answer (plan_of file).n (judged (verdict_of file))
    unfolding sentence_text sentence_on
    printed = answered_is (file_read (plan_reading file)) _ z ∙ ap (sentence_answer (plan_of file).n) answer_is

    passes : (verdict_of file).passed ≡ true → sentence_text file ≡ pass_line
    unfolding sentence_answer judged
    passes p = printed ∙ pick_yes _ _ _ refl ∙ pick_yes _ _ _ (ap (λ (b : Bool). eqb (pick b 0 1) 0) p ∙ ap (λ (k : ℕ). eqb k 0) (pick_yes true 0 1 refl))

    module _ (p : (verdict_of file).passed ≡ false) where
      failed_one : (judged (verdict_of file)).failed ≡ 1
      unfolding judged
      failed_one = pick_no _ _ _ p

      fails : sentence_text file ≡ fail_line (plan_of file).n (verdict_of file).f (verdict_of file).r
      unfolding sentence_answer judged
      fails = printed ∙ pick_yes _ _ _ refl ∙ pick_no _ _ _ (ap (λ (k : ℕ). eqb k 0) failed_one)

      composes : sentence_cause (plan_of file).n (verdict_of file).f (verdict_of file).l (verdict_of file).r ≡ 0
      unfolding judged
      composes = answer_composes (plan_of file) (judged (verdict_of file)) (sym answer_is) failed_one

      verdict_printed : verdict_text file ≡ verdict_line 1 (verdict_of file).f (verdict_of file).l (verdict_of file).r
      unfolding verdict_text verdict_on answer_text judged
      verdict_printed =
          answered_is (file_read (plan_reading file)) _ z
          ∙ ap answer_text answer_is
          ∙ pick_yes _ _ _ refl
          ∙ ap (λ (k : ℕ). verdict_line k (verdict_of file).f (verdict_of file).l (verdict_of file).r) failed_one

      heard : heard_text (number_line (plan_of file).n ++ sentence_text file) ≡ verdict_text file
      heard =
          ap (λ (l : List ℕ). heard_text (number_line (plan_of file).n ++ l)) fails
          ∙ file_heard (plan_of file).n (verdict_of file).f (verdict_of file).l (verdict_of file).r composes
          ∙ sym verdict_printed

  pub sentence_printed : SentencePrinted file
  sentence_printed = record { refused = refusals; passes = passes; fails = fails; composes = composes; heard = heard }
