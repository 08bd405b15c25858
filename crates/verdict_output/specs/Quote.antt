-- What `quote` prints beside `verdict` (document 02, P5). Assumes nothing.
use Rattle.std.specs.Prelude.{ℕ, ◌≡◌, true, false, List}
use Rattle.frames.specs.Quote.{file_above}
use Rattle.output.specs.OnFile.{refusal_line}
use Rattle.verdict_output.specs.Verdict.{verdict_text, quote_text}

-- on a file that begins with an accepted head of more than twelve terminals ff0e0001, on any other what `verdict` prints
pub record QuotePrinted (file : List ℕ) : Type 0 where
  pub above : file_above file ≡ true → quote_text file ≡ refusal_line 14 1
  pub alike : file_above file ≡ false → quote_text file ≡ verdict_text file
