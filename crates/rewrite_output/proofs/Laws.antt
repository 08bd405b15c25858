-- A plan file written anew: the writer's answer on an accepted file's plan is that text put into the list, and 2953 bytes have room for every plan.
-- Assumes nothing.
use Prim.Native.Nat.{ℕ, ◌≤◌}
use mathlib.Core.Path.{◌≡◌, sym, ap, ◌∙◌}
use mathlib.Core.List.{List}
use native.Mathlib.Omega.{arith}
use lib.ListN.{length}
use Rattle.std.specs.Prelude.{Err}
use Rattle.plan.specs.Plan.{cause_of}
use Rattle.text.specs.declared.Written as text
use Rattle.text.specs.Texts.{written_of, put_into}
use Rattle.frames.specs.declared.Progress.{Progress}
use Rattle.frames.specs.declared.Refusal.{Refusal}
use Rattle.frames.specs.Reading.{FileRead, archive_reading, file_read}
use Rattle.frames.specs.Causes.{number, answer}
use Rattle.frames.proofs.Accepted.{archived_sound}
use Rattle.writer.specs.Written.{plan_text, written_text}
use Rattle.writer.proofs.Laws.{text_short, sound_text}
use Rattle.output.specs.declared.Written.{Written}
use Rattle.output.specs.OnFile.{refusal_line, on_line, answer_on}
use Rattle.output.proofs.Laws.{answered_is, put_refused, on_length, whole_text}
use Rattle.rewrite_output.specs.Rewritten.{rewritten_on, rewritten_text}

-- why a file is refused is put in place of its plan
pub put_refusal : {w : Written} {last : List ℕ} (out : List ℕ) (file : FileRead) (e : Refusal) → answer (Err e) ≡ file
    → w ≡ answer_on (answer (Err e)) (refusal_line (number e.cause) e.line) (length out) → last ≡ put_into (refusal_line (number e.cause) e.line) out
    → (w ≡ answer_on file (rewritten_on file) (length out)) × (last ≡ put_into (rewritten_on file) out)
unfolding rewritten_on
put_refusal out file = put_refused _ _ out file (λ (x : Progress). plan_text x.plan)

-- an accepted file's plan is sound, so its text is what is written
module _ (file : List ℕ) (read : FileRead) (e : read ≡ file_read (archive_reading file)) (z : read.number ≡ 0) where
  sound : cause_of read.progress.plan ≡ 0
  sound =
      let n : (archive_reading file).number ≡ 0 = sym (ap (λ (r : FileRead). r.number) e) ∙ z in
      ap (λ (r : FileRead). cause_of r.progress.plan) e ∙ (archived_sound file n).0

  pub anew_text : written_text read.progress.plan ≡ rewritten_on read
  unfolding rewritten_on
  anew_text = sound_text read.progress.plan sound ∙ sym (answered_is read (plan_text read.progress.plan) z)

  pub anew_answer : (r : Written) (w : text.Written) (out : List ℕ) → r ≡ on_line read.line w
      → w ≡ written_of (cause_of read.progress.plan) (length (written_text read.progress.plan)) (length out)
      → r ≡ answer_on read (written_text read.progress.plan) (length out)
  unfolding answer_on
  anew_answer r w out a b =
      a ∙ ap (on_line read.line) (b ∙ ap (λ (n : ℕ). written_of n (length (written_text read.progress.plan)) (length out)) (sound ∙ sym z))

pub rewritten_short : (file : List ℕ) → length (rewritten_text file) ≤ 2953
unfolding rewritten_text rewritten_on
rewritten_short file = on_length (file_read (archive_reading file)) _ 2953 (omega arith) (λ z. text_short (archive_reading file).progress.plan (archived_sound file z).0)

pub rewritten_fits : (file : List ℕ) (room : ℕ) → 2953 ≤ room
    → answer_on (file_read (archive_reading file)) (rewritten_text file) room
    ≡ record { number = (archive_reading file).number; line = (archive_reading file).line; len = length (rewritten_text file) }
rewritten_fits file room h = whole_text (file_read (archive_reading file)) (rewritten_text file) room (omega (arith, rewritten_short file))
