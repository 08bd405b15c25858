-- A list of 23 bytes has room for every verdict, whoever has read the plan. Assumes nothing.
use Prim.Native.Nat.{ℕ, ◌≤◌}
use mathlib.Core.Path.{◌≡◌}
use mathlib.Core.List.{List}
use native.Mathlib.Omega.{arith}
use lib.Dec.{eqb}
use lib.ListN.{length}
use Rattle.sets.proofs.Bools.{pick_case}
use Rattle.closure.specs.Answer.{Answer, answer_within}
use Rattle.frames.specs.Reading.{FileRead}
use Rattle.output.specs.OnFile.{refusal_line, answer_on}
use Rattle.output.proofs.Laws.{refusal_length, on_length, whole_text}
use Rattle.verdict_output.specs.Verdict.{verdict_line, answer_text, verdict_on}
use Rattle.verdict_output.proofs.LineLaws.{verdict_length}

answer_length : (a : Answer) → length (answer_text a) ≤ 23
unfolding answer_text
answer_length a =
    pick_case (λ (t : List ℕ). length t ≤ 23) (eqb a.number 0) (verdict_line a.failed a.f a.l a.r) (refusal_line a.number 0)
    (λ h. omega (arith, verdict_length a.failed a.f a.l a.r)) (λ h. omega (arith, refusal_length a.number 0))

verdict_short : (most : ℕ) (read : FileRead) → length (verdict_on most read) ≤ 23
unfolding verdict_on
verdict_short most read = on_length read _ 23 (omega arith) (λ z. answer_length (answer_within most read.progress.plan))

pub verdict_fits : (most : ℕ) (read : FileRead) (room : ℕ) → 23 ≤ room
    → answer_on read (verdict_on most read) room ≡ record { number = read.number; line = read.line; len = length (verdict_on most read) }
verdict_fits most read room h = whole_text read (verdict_on most read) room (omega (arith, verdict_short most read))
