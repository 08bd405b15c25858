-- A text that is put together by value, and a text that is put into a lent list. Assumes nothing.
use Rattle.std.specs.Prelude.{ℕ, List, [], ◌∷◌, ◌++◌, ltb, length, take}
use Rattle.std.proofs.lemmas.List.Edits.{sets}
use Rattle.sets.specs.Tests.{pick}
use Rattle.sets.specs.Causes.{◌gives◌, first_cause, given}
use Rattle.text.specs.declared.Text.{Text}
use Rattle.text.specs.declared.Written.{Written}

-- ---- a text put together

-- it has room for so many bytes; a line of 17 for each of 20 terminals is 340
abbrev pub text_room : ℕ
text_room = 344

-- the bytes that it holds
unfoldable pub held : Text → List ℕ
held t = take t.len t.bytes

-- a part more after its bytes: what it has no room for is cut off
unfoldable pub joined : (bytes part : List ℕ) → List ℕ
joined bytes part = take text_room (bytes ++ part)

-- ---- a text put into a lent list

-- what is answered of a text of `len` bytes and a list with room for so many, where `number` refuses what was asked, 0 for none: a list shorter than the
-- text gets nothing of it, and that is 12 where nothing else was refused
unfoldable pub written_of : (number len room : ℕ) → Written
written_of number len room = record {
  number = first_cause (given number ∷ ltb room len gives 12 ∷ []);
  len = pick (ltb room len) 0 len;
}

-- the list afterwards: bytes after the text stay, and a list shorter than the text is as it was
unfoldable pub put_into : (text out : List ℕ) → List ℕ
put_into text out = pick (ltb (length out) (length text)) out (sets out 0 text)
