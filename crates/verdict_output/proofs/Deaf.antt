-- What is printed of deaf terminals, by the law of the two readers and that of the verdict. Assumes nothing.
use Prim.Native.Nat.{ℕ}
use mathlib.Core.Path.{◌≡◌, refl, ap, ◌∙◌}
use mathlib.Core.Logic.{◌⊎◌, inl, inr, ⊎_elim}
use mathlib.Core.List.{List}
use native.Mathlib.Omega.{arith}
use borrow.Author.Tests.{eq-eqb}
use Rattle.sets.proofs.Bools.{pick_yes, pick_no}
use Rattle.sets.proofs.Laws.{equal_or_not}
use Rattle.quorum.specs.Quorum.{most_terminals}
use Rattle.plan.specs.declared.Plan.{Plan}
use Rattle.plan.specs.Plan.{cause_within, cause_of}
use Rattle.plan.specs.Deaf.{deaf_set}
use Rattle.closure.specs.Closure.{reached, cut_off}
use Rattle.closure.specs.Verdict.{verdict}
use Rattle.closure.specs.Answer.{judged, answer_within, answer_of}
use Rattle.closure.proofs.Witness.{verdict_fail}
use Rattle.closure.proofs.Deaf.{deaf_fails}
use Rattle.frames.specs.Reading.{Reading, refusal, plan_reading, archive_reading, file_read}
use Rattle.frames.proofs.Accepted.{archived_sound}
use Rattle.frames.proofs.Archive.{beside}
use Rattle.output.specs.OnFile.{refusal_line}
use Rattle.output.proofs.Laws.{refused_is, answered_is}
use Rattle.verdict_output.specs.Verdict.{verdict_line, answer_text, verdict_on, verdict_text, archive_text}
use Rattle.verdict_output.specs.Deaf.{on_file, DeafPrinted}

-- the line of a plan with a deaf terminal
module _ (p : Plan) (sound : cause_of p ≡ 0) (some : deaf_set p ≡ 0 → ⊥) where
  answer_is : answer_of p ≡ record { number = 0; failed = 1; f = 0; l = reached p 0; r = cut_off p 0 }
  unfolding answer_of answer_within judged cause_of
  answer_is =
      let d = deaf_fails p some in
      let w = verdict_fail p d.failed in
      pick_yes _ _ _ (eq-eqb (cause_within most_terminals p) 0 sound)
      ∙ (λ i. record {
        number = 0;
        failed = (pick_no (verdict p).passed 0 1 d.failed) i;
        f = d.nobody_bad i;
        l = (w.l_is ∙ ap (reached p) d.nobody_bad) i;
        r = (w.r_is ∙ ap (cut_off p) d.nobody_bad) i;
      })

  deaf_line : answer_text (answer_of p) ≡ verdict_line 1 0 (reached p 0) (cut_off p 0)
  unfolding answer_text
  deaf_line = ap answer_text answer_is ∙ pick_yes _ _ _ refl

module _ (file : List ℕ) where
  same : plan_reading file ≡ archive_reading file → verdict_text file ≡ archive_text file
  unfolding verdict_text archive_text
  same e = ap (λ (r : Reading). verdict_on most_terminals (file_read r)) e

  fifteen : plan_reading file ≡ refusal 15 0 → verdict_text file ≡ refusal_line 15 0
  unfolding verdict_text verdict_on
  fifteen e = ap (λ (r : Reading). verdict_on most_terminals (file_read r)) e ∙ refused_is (file_read (refusal 15 0)) _ (λ z. omega arith)

  either : (verdict_text file ≡ archive_text file) ⊎ (verdict_text file ≡ refusal_line 15 0)
  either =
      let b = beside file in
      ⊎_elim
      (λ a.
      ⊎_elim (λ d. inl (same (b.nobody_deaf a d))) (λ n. inr (fifteen (b.somebody_deaf a n))) (equal_or_not (deaf_set (on_file file)) 0))
      (λ n. ⊎_elim (λ e. inl (same e)) (λ e. inr (fifteen e)) (b.refused n)) (equal_or_not (archive_reading file).number 0)

  fails : (archive_reading file).number ≡ 0 → (deaf_set (on_file file) ≡ 0 → ⊥)
      → archive_text file ≡ verdict_line 1 0 (reached (on_file file) 0) (cut_off (on_file file) 0)
  unfolding archive_text verdict_on answer_of
  fails z some =
      answered_is (file_read (archive_reading file)) (answer_text (answer_of (on_file file))) z
      ∙ deaf_line (on_file file) (archived_sound file z).0 some

  pub deaf_printed : DeafPrinted file
  deaf_printed = record { alike = either; fail = fails }
