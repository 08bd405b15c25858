-- What is printed for the quoting desk, by the laws of its reader and of its answer. Assumes nothing.
use Prim.Native.Nat.{ℕ, ◌≤◌}
use mathlib.Core.Path.{◌≡◌, sym, ap, ◌∙◌}
use mathlib.Core.Logic.{⊎_elim}
use mathlib.Core.Bool.{true, false}
use mathlib.Core.List.{List}
use native.Mathlib.Omega.{arith}
use Rattle.sets.proofs.Laws.{equal_or_not}
use Rattle.quorum.specs.Quorum.{most_terminals}
use Rattle.plan.specs.Plan.{most_quoted}
use Rattle.plan.proofs.Laws.{few_terminals}
use Rattle.closure.specs.Answer.{Answer, answer_of}
use Rattle.closure.proofs.Quote.{few_answered}
use Rattle.frames.specs.Reading.{FileRead, Reading, refusal, quote_reading, file_read}
use Rattle.frames.specs.Quote.{file_above}
use Rattle.frames.proofs.Quote.{quoting, quoted_most}
use Rattle.output.specs.OnFile.{refusal_line, text_on}
use Rattle.output.proofs.Laws.{refused_is}
use Rattle.verdict_output.specs.Verdict.{answer_text, verdict_on, verdict_text, quote_text}
use Rattle.verdict_output.specs.Quote.{QuotePrinted}

-- what has no more terminals is judged alike
within_same : (most : ℕ) (read : FileRead) → (read.number ≡ 0 → read.progress.plan.n ≤ most) → verdict_on most read ≡ verdict_on most_terminals read
unfolding verdict_on answer_of
within_same most read h =
    ⊎_elim
    (λ z. ap (λ (a : Answer). text_on read (answer_text a)) (few_answered most read.progress.plan (few_terminals most read.progress.plan (h z))))
    (λ n. refused_is read _ n ∙ sym (refused_is read _ n)) (equal_or_not read.number 0)

module _ (file : List ℕ) where
  printed_above : file_above file ≡ true → quote_text file ≡ refusal_line 14 1
  unfolding quote_text verdict_on
  printed_above h =
      ap (λ (r : Reading). verdict_on most_quoted (file_read r)) ((quoting file).above h) ∙ refused_is (file_read (refusal 14 1)) _ (λ z. omega arith)

  printed_alike : file_above file ≡ false → quote_text file ≡ verdict_text file
  unfolding quote_text verdict_text
  printed_alike h =
      within_same most_quoted (file_read (quote_reading file)) (quoted_most file)
      ∙ ap (λ (r : Reading). verdict_on most_terminals (file_read r)) ((quoting file).alike h)

  pub quote_printed : QuotePrinted file
  quote_printed = record { above = printed_above; alike = printed_alike }
