-- Drawings A and B as files: what `verdict`, `archive` and `quote` print on them, as rows of a table. B is a plan of the archive (document 02, P6). Beside them
-- heads of twelve and of thirteen terminals, for the quoting desk (document 02, P5). Assumes nothing.
use Rattle.std.specs.Prelude.{ℕ, ◌^◌, List, [], ◌∷◌, ◌++◌}
use Rattle.text.specs.Digits.{hex_byte}
use Rattle.output.specs.OnFile.{refusal_line}
use Rattle.verdict_output.specs.Verdict.{verdict_line, verdict_text, archive_text, quote_text}

-- a head with source 0 and f 0, the line 01020000, and the line 020001
unfoldable pub head_with : (n : ℕ) → List ℕ
head_with n = hex_byte 1 ++ hex_byte n ++ hex_byte 0 ++ hex_byte 0 ++ (10 ∷ [])

unfoldable pub head_b : List ℕ
head_b = head_with 2

unfoldable pub link_a : List ℕ
link_a = hex_byte 2 ++ hex_byte 0 ++ hex_byte 1 ++ (10 ∷ [])

pub record Row : Type 0 where
  pub printed : List ℕ
  pub expected : List ℕ

-- A passes; B is refused 15 with line 0, and for the archive fails with F {}, L {0}, R {1}. Twelve terminals without a link are refused 15 too; thirteen,
-- by the quoting desk alone, 14 with line 1
unfoldable pub rows : List Row
rows =
    record { printed = verdict_text (head_b ++ link_a); expected = verdict_line 0 0 0 0 }
    ∷ record { printed = archive_text (head_b ++ link_a); expected = verdict_line 0 0 0 0 }
    ∷ record { printed = verdict_text head_b; expected = refusal_line 15 0 }
    ∷ record { printed = archive_text head_b; expected = verdict_line 1 0 (2 ^ 0) (2 ^ 1) }
    ∷ record { printed = quote_text (head_b ++ link_a); expected = verdict_line 0 0 0 0 }
    ∷ record { printed = quote_text head_b; expected = refusal_line 15 0 }
    ∷ record { printed = quote_text (head_with 12); expected = refusal_line 15 0 }
    ∷ record { printed = quote_text (head_with 13); expected = refusal_line 14 1 }
    ∷ record { printed = verdict_text (head_with 13); expected = refusal_line 15 0 }
    ∷ []
