-- What a call that is done leaves in the list, read again by the archive, is the plan. Assumes nothing.
use Prim.Native.Nat.{ℕ}
use mathlib.Core.Path.{◌≡◌, ap, ◌∙◌}
use mathlib.Core.List.{List}
use lib.ListN.{length, take}
use Rattle.plan.specs.declared.Plan.{Plan}
use Rattle.plan.specs.Plan.{cause_of}
use Rattle.plan.specs.Deaf.{deaf_set}
use Rattle.text.specs.declared.Written.{Written}
use Rattle.text.specs.Texts.{written_of, put_into}
use Rattle.text.proofs.Laws.{put_back}
use Rattle.frames.specs.Reading.{plan_reading, archive_reading}
use Rattle.writer.specs.Written.{plan_text, written_text}
use Rattle.writer.proofs.Laws.{sound_text}
use Rattle.writer.proofs.ReadBack.{as_read, read_back, read_new}

module _ (p : Plan) (out : List ℕ) where
  abbrev pub answer : Written
  answer = written_of (cause_of p) (length (written_text p)) (length out)

  -- the list begins with the text, of the length that is answered
  pub written_text_lem : answer.number ≡ 0 → take answer.len (put_into (written_text p) out) ≡ plan_text p
  written_text_lem h =
      let b = put_back (cause_of p) (written_text p) out h in
      b.1 ∙ sound_text p b.0

  pub written_back : length p.rows ≡ 20 → length p.bound.groups ≡ 16 → answer.number ≡ 0 → archive_reading (take answer.len (put_into (written_text p) out)) ≡ as_read p
  written_back t u h = ap archive_reading (written_text_lem h) ∙ read_back p (put_back (cause_of p) (written_text p) out h).0 t u

  -- where nobody is deaf, by the reader of new plans too
  pub written_new : length p.rows ≡ 20 → length p.bound.groups ≡ 16 → answer.number ≡ 0 → deaf_set p ≡ 0
      → plan_reading (take answer.len (put_into (written_text p) out)) ≡ as_read p
  written_new t u h d = ap plan_reading (written_text_lem h) ∙ read_new p (put_back (cause_of p) (written_text p) out h).0 t u d
