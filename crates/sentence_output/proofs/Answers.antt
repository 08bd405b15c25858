-- The line of a judgement in words; and that a verdict's fail always composes. Assumes nothing.
use Prim.Native.Nat.{ℕ}
use mathlib.Core.Path.{◌≡◌, refl, sym, ap, ◌∙◌, subst}
use mathlib.Core.Bool.{true}
use mathlib.Core.List.{List, [], ◌∷◌}
use native.Mathlib.Omega.{arith}
use lib.Dec.{eqb}
use lib.ListN.{length}
use borrow.Author.Tests.{ne_eqb, eqb-false}
use Rattle.sets.specs.Sets.{mem}
use Rattle.sets.proofs.Bools.{clash, and_l, and_r, not_e, pick_yes, pick_no}
use Rattle.sets.proofs.Laws.{mem_zero}
use Rattle.quorum.specs.Quorum.{most_terminals}
use Rattle.plan.specs.declared.Plan.{Plan}
use Rattle.plan.specs.Plan.{cause_of}
use Rattle.plan.proofs.Laws.{sound}
use Rattle.closure.specs.Verdict.{accepts}
use Rattle.closure.specs.Answer.{Answer, answer_within}
use Rattle.partition.specs.declared.Witness.{Witness}
use Rattle.partition.specs.declared.VerdictError.{VerdictError}
use Rattle.partition.specs.declared.VerdictError.TheVariants.{WrongRange, TooMany, WrongLink, WrongGroups}
use Rattle.partition.specs.Answer.{answered}
use Rattle.partition.proofs.Laws.{Failed, answer_fails}
use Rattle.std.specs.Prelude.{Option, Some, None, Result, Ok, Err}
use Rattle.std.specs.Result.{IsOk}
use Rattle.text.specs.declared.Text.{Text}
use Rattle.text.specs.Texts.{joined, written_of, put_into}
use Rattle.text.proofs.Laws.{room_for}
use Rattle.wording.specs.Sentence.{sentence, sentence_cause, composed}
use Rattle.wording.specs.declared.SentenceError.{SentenceError}
use Rattle.wording.specs.Answers as composing
use Rattle.wording.proofs.Refusals.{some_number}
use Rattle.wording.proofs.Causes.{range_right, cause_right, composes_i, composed_is}
use Rattle.wording.proofs.Lengths.{sentence_short}
use Rattle.frames.specs.declared.Progress.{Progress}
use Rattle.frames.specs.declared.Refusal.{Refusal}
use Rattle.frames.specs.Reading.{FileRead}
use Rattle.frames.specs.Causes.{number, answer}
use Rattle.output.specs.declared.Written.{Written}
use Rattle.output.specs.OnFile.{refusal_line, on_line, answer_on}
use Rattle.output.proofs.Laws.{put_accepted, put_refused}
use Rattle.sentence_output.specs.Sentence.{fail_line, pass_line, sentence_answer, sentence_on}

-- ---- a fail composes

-- whatever the witness check accepts
pub accepted_composes : (p : Plan) (f l r : ℕ) → cause_of p ≡ 0 → accepts p f l r ≡ true → sentence_cause p.n f l r ≡ 0
unfolding accepts
accepted_composes p f l r c h =
    let s = sound p c in
    cause_right p.n f l r (range_right p.n s.two s.twenty)
    (composes_i p.n f l r (and_l _ _ h) (λ z. clash (and_l _ _ (and_r _ _ h)) (ap (mem p.source) z ∙ mem_zero p.source))
    (eqb-false r 0 (not_e (eqb r 0) (and_l _ _ (and_r _ _ (and_r _ _ h))))))

pub answer_composes : (p : Plan) (a : Answer) → a ≡ answer_within most_terminals p → a.failed ≡ 1 → sentence_cause p.n a.f a.l a.r ≡ 0
answer_composes p a e h =
    let w = subst (Failed p) (sym e) (answer_fails most_terminals p (sym (ap (λ (x : Answer). x.failed) e) ∙ h)) in
    accepted_composes p a.f a.l a.r w.is_plan w.checked

-- ---- the lines

pub is_composed : (r : Result Text SentenceError) → composing.cause_of r ≡ 0 → IsOk r
is_composed (Ok t) h = refl
is_composed (Err e) h = absurd (some_number e h)

pub says_fail : (n f l r : ℕ) {words last : List ℕ} → sentence_cause n f l r ≡ 0 → words ≡ composed n f l r → last ≡ joined words (10 ∷ []) → last ≡ fail_line n f r
unfolding fail_line
says_fail n f l r {words} c e a =
    let w : words ≡ sentence n f r = e ∙ composed_is n f l r c in
    let h = sentence_short n f l r c in
    a ∙ ap (λ (x : List ℕ). joined x (10 ∷ [])) w ∙ room_for (sentence n f r) (10 ∷ []) (omega arith)

some_refusal : (e : VerdictError) → (answered (Err e)).number ≡ 0 → ⊥
some_refusal WrongRange z = omega arith
some_refusal TooMany z = omega arith
some_refusal WrongLink z = omega arith
some_refusal WrongGroups z = omega arith

module _ (n : ℕ) (j : Result (Option Witness) VerdictError) (t : List ℕ) where
  same_answer : (found : Result (Option Witness) VerdictError) → j ≡ found → sentence_answer n (answered found) ≡ sentence_answer n (answered j)
  same_answer found e = ap (λ (x : Result (Option Witness) VerdictError). sentence_answer n (answered x)) (sym e)

  pub says_passed : j ≡ Ok None → t ≡ pass_line → t ≡ sentence_answer n (answered j)
  unfolding sentence_answer
  says_passed e a = a ∙ sym (pick_yes _ _ _ refl ∙ pick_yes _ _ _ refl) ∙ same_answer (Ok None) e

  pub says_failed : (w : Witness) → j ≡ Ok (Some w) → t ≡ fail_line n w.f w.r → t ≡ sentence_answer n (answered j)
  unfolding sentence_answer
  says_failed w e a = a ∙ sym (pick_yes _ _ _ refl ∙ pick_no _ _ _ refl) ∙ same_answer (Ok (Some w)) e

  pub says_refused : (why : VerdictError) → j ≡ Err why → t ≡ refusal_line (answered (Err why)).number 0 → t ≡ sentence_answer n (answered j)
  unfolding sentence_answer
  says_refused why e a = a ∙ sym (pick_no _ _ _ (ne_eqb (answered (Err why)).number 0 (some_refusal why))) ∙ same_answer (Err why) e

-- ---- the text on a plan file, where its plan was judged and where it is refused

module _ {w : Written} {last : List ℕ} (out : List ℕ) (file : FileRead) where
  pub put_sentence : (p : Progress) (a : Answer) (said : List ℕ) → answer (Ok p) ≡ file → a ≡ answer_within most_terminals p.plan → said ≡ sentence_answer p.plan.n a
      → w ≡ on_line 0 (written_of 0 (length said) (length out)) → last ≡ put_into said out → (w ≡ answer_on file (sentence_on file) (length out)) × (last ≡ put_into (sentence_on file) out)
  unfolding sentence_on
  put_sentence p a said e j s = put_accepted w last out file (λ (x : Progress). sentence_answer x.plan.n (answer_within most_terminals x.plan)) p said e (s ∙ ap (sentence_answer p.plan.n) j)

  pub put_refusal : (e : Refusal) → answer (Err e) ≡ file → w ≡ answer_on (answer (Err e)) (refusal_line (number e.cause) e.line) (length out) → last ≡ put_into (refusal_line (number e.cause) e.line) out
      → (w ≡ answer_on file (sentence_on file) (length out)) × (last ≡ put_into (sentence_on file) out)
  unfolding sentence_on
  put_refusal = put_refused w last out file (λ (x : Progress). sentence_answer x.plan.n (answer_within most_terminals x.plan))
