-- What the verdict's line says, of a judgement and on a plan file. F, L and R fit three bytes, since a plan has at most 20 terminals. Assumes nothing.
use Prim.Native.Nat.{ℕ, ◌%◌, ◌≤◌, ◌<◌, ◌^◌}
use mathlib.Core.Path.{◌≡◌, refl, sym, ap, ◌∙◌, subst}
use mathlib.Core.List.{List}
use native.Mathlib.Omega.{arith}
use lib.ListN.{length}
use lib.Pow.{pow_mono}
use borrow.Author.Tests.{eq-eqb, ne_eqb}
use Rattle.sets.proofs.Bools.{and_l, pick_yes, pick_no}
use Rattle.plan.specs.declared.Plan.{Plan}
use Rattle.plan.proofs.Laws.{sound}
use Rattle.closure.specs.Verdict.{defeats}
use Rattle.closure.proofs.Faults.{fault_below}
use Rattle.closure.proofs.Growth.{reached_below}
use Rattle.closure.proofs.Witness.{cut_below}
use Rattle.std.specs.Prelude.{Option, Some, None, Result, Ok, Err}
use Rattle.partition.specs.declared.Witness.{Witness}
use Rattle.partition.specs.declared.VerdictError.{VerdictError}
use Rattle.partition.specs.declared.VerdictError.TheVariants.{WrongRange, TooMany, WrongLink, WrongGroups}
use Rattle.partition.specs.Answer.{answered}
use Rattle.closure.specs.Answer.{Answer, answer_within}
use Rattle.partition.proofs.Laws.{Failed, answer_fails}
use Rattle.frames.specs.declared.Progress.{Progress}
use Rattle.frames.specs.declared.Refusal.{Refusal}
use Rattle.frames.specs.Reading.{FileRead}
use Rattle.frames.specs.Causes.{number, answer}
use Rattle.text.specs.Digits.{hex_byte, hex_pair, hex_triple}
use Rattle.text.specs.Texts.{written_of, put_into}
use Rattle.output.specs.declared.Written.{Written}
use Rattle.output.specs.OnFile.{refusal_line, on_line, answer_on}
use Rattle.output.proofs.Laws.{put_accepted, put_refused}
use Rattle.verdict_output.specs.Verdict.{verdict_line, answer_text, verdict_on}

-- ---- F, L and R fit three bytes
below : (n s : ℕ) → n ≤ 20 → s < 2 ^ n → s < 16777216
below n s h l = omega (arith, pow_mono h)

failed_small : (p : Plan) (a : Answer) → Failed p a → (a.f < 16777216) × (a.l < 16777216) × (a.r < 16777216)
unfolding defeats
failed_small p a w =
    let t = (sound p w.is_plan).twenty in (
      below p.n a.f t (fault_below p a.f (and_l _ _ w.beaten)),
      below p.n a.l t (subst (λ (s : ℕ). s < 2 ^ p.n) (sym w.l_is) (reached_below p a.f)),
      below p.n a.r t (subst (λ (s : ℕ). s < 2 ^ p.n) (sym w.r_is) (cut_below p a.f)),
    )

pub answer_small : (most : ℕ) (p : Plan) (j : Result (Option Witness) VerdictError) → answered j ≡ answer_within most p
    → ((answered j).f < 16777216) × ((answered j).l < 16777216) × ((answered j).r < 16777216)
answer_small most p (Ok None) e = omega arith
answer_small most p (Ok (Some w)) e =
    failed_small p (answered (Ok (Some w))) (subst (Failed p) (sym e) (answer_fails most p (sym (ap (λ (a : Answer). a.failed) e))))
answer_small most p (Err WrongRange) e = omega arith
answer_small most p (Err TooMany) e = omega arith
answer_small most p (Err WrongLink) e = omega arith
answer_small most p (Err WrongGroups) e = omega arith

-- such a set is its low three bytes
pub low_sets : (failed f l r : ℕ) → (f < 16777216) × (l < 16777216) × (r < 16777216)
    → verdict_line failed (f % 16777216) (l % 16777216) (r % 16777216) ≡ verdict_line failed f l r
low_sets failed f l r h =
    let a : f % 16777216 ≡ f = omega arith in
    let b : l % 16777216 ≡ l = omega arith in
    let c : r % 16777216 ≡ r = omega arith in
    cc

-- ---- a judgement's line, where the judgement was found to be this one

pub verdict_length : (failed f l r : ℕ) → length (verdict_line failed f l r) ≡ 23
unfolding verdict_line hex_triple hex_pair hex_byte
verdict_length failed f l r = refl

some_number : (e : VerdictError) → (answered (Err e)).number ≡ 0 → ⊥
some_number WrongRange z = omega arith
some_number TooMany z = omega arith
some_number WrongLink z = omega arith
some_number WrongGroups z = omega arith

module _ (j found : Result (Option Witness) VerdictError) (t : List ℕ) (e : j ≡ found) where
  same_answer : answer_text (answered found) ≡ answer_text (answered j)
  same_answer = ap (λ (x : Result (Option Witness) VerdictError). answer_text (answered x)) (sym e)

  pub says_verdict : (answered found).number ≡ 0 → t ≡ verdict_line (answered found).failed (answered found).f (answered found).l (answered found).r → t ≡ answer_text (answered j)
  unfolding answer_text
  says_verdict h a = a ∙ sym (pick_yes _ _ _ (eq-eqb (answered found).number 0 h)) ∙ same_answer

pub says_refusal : (j : Result (Option Witness) VerdictError) (why : VerdictError) (t : List ℕ) → j ≡ Err why → t ≡ refusal_line (answered (Err why)).number 0 → t ≡ answer_text (answered j)
unfolding answer_text
says_refusal j why t e a =
    a ∙ sym (pick_no _ _ _ (ne_eqb (answered (Err why)).number 0 (some_number why))) ∙ same_answer j (Err why) t e

-- ---- the line on a plan file, where its plan was judged and where it is refused

module _ (most : ℕ) {w : Written} {last : List ℕ} (out : List ℕ) (file : FileRead) where
  pub put_verdict : (p : Progress) (j : Result (Option Witness) VerdictError) (t : List ℕ) → answer (Ok p) ≡ file → answered j ≡ answer_within most p.plan → t ≡ answer_text (answered j)
      → w ≡ on_line 0 (written_of 0 (length t) (length out)) → last ≡ put_into t out → (w ≡ answer_on file (verdict_on most file) (length out)) × (last ≡ put_into (verdict_on most file) out)
  unfolding verdict_on
  put_verdict p j t e v s = put_accepted w last out file (λ (x : Progress). answer_text (answer_within most x.plan)) p t e (s ∙ ap answer_text v)

  pub put_refusal : (e : Refusal) → answer (Err e) ≡ file → w ≡ answer_on (answer (Err e)) (refusal_line (number e.cause) e.line) (length out) → last ≡ put_into (refusal_line (number e.cause) e.line) out
      → (w ≡ answer_on file (verdict_on most file) (length out)) × (last ≡ put_into (verdict_on most file) out)
  unfolding verdict_on
  put_refusal = put_refused w last out file (λ (x : Progress). answer_text (answer_within most x.plan))
