-- The text on a file that is refused or accepted, and what was put of it: what is written lies within the lent list, and a list that has room for the text
-- gets it. Assumes nothing.
use Prim.Native.Nat.{ℕ, ◌≤◌}
use mathlib.Core.Path.{◌≡◌, refl, sym, ap, ◌∙◌}
use mathlib.Core.List.{List}
use native.Mathlib.Omega.{arith}
use lib.Dec.{eqb}
use lib.ListN.{length, take, length-take}
use borrow.Author.Tests.{eq-eqb, ne_eqb, eqb-true}
use Rattle.std.specs.Prelude.{Ok, Err}
use Rattle.sets.proofs.Bools.{pick_yes, pick_no, pick_case}
use Rattle.text.specs.Digits.{hex_byte, hex_pair}
use Rattle.text.specs.Texts.{written_of, put_into}
use Rattle.text.proofs.Laws as texts
use Rattle.frames.specs.declared.Progress.{Progress}
use Rattle.frames.specs.declared.Refusal.{Refusal}
use Rattle.frames.specs.Reading.{nothing_read, FileRead}
use Rattle.frames.specs.Causes.{number, answer}
use Rattle.frames.proofs.LineLaws.{numbered}
use Rattle.output.specs.declared.Written.{Written}
use Rattle.output.specs.OnFile.{refusal_line, text_on, on_line, answer_on}

-- ---- a file that is refused, or that has an answer

module _ (read : FileRead) (said : List ℕ) where
  pub refused_is : (read.number ≡ 0 → ⊥) → text_on read said ≡ refusal_line read.number read.line
  unfolding text_on
  refused_is n = pick_no _ _ _ (ne_eqb read.number 0 n)

  pub answered_is : read.number ≡ 0 → text_on read said ≡ said
  unfolding text_on
  answered_is z = pick_yes _ _ _ (eq-eqb read.number 0 z)

-- ---- how long the text is

pub refusal_length : (number line : ℕ) → length (refusal_line number line) ≡ 9
unfolding refusal_line hex_pair hex_byte
refusal_length number line = refl

-- it has at most so many bytes, where what is said of an accepted file has, and nine fit
pub on_length : (read : FileRead) (said : List ℕ) (most : ℕ) → 9 ≤ most → (read.number ≡ 0 → length said ≤ most) → length (text_on read said) ≤ most
unfolding text_on
on_length read said most k s =
    pick_case (λ (t : List ℕ). length t ≤ most) (eqb read.number 0) said (refusal_line read.number read.line)
    (λ h. s (eqb-true read.number 0 h)) (λ h. omega (arith, refusal_length read.number read.line))

-- ---- what was put

-- it holds of the file and of the text that they were found to be
pub put_as : (w : Written) (last out : List ℕ) (read file : FileRead) (text said : List ℕ) → read ≡ file → text ≡ said → w ≡ answer_on read text (length out)
    → last ≡ put_into text out → (w ≡ answer_on file said (length out)) × (last ≡ put_into said out)
put_as w last out read file text said e t a b = rw (← e, ← t) (a, b)

-- what the text on a file is where it is accepted, and where it is refused, and with it what was put of it
module _ (w : Written) (last out : List ℕ) (file : FileRead) (said : Progress → List ℕ) where
  pub put_accepted : (p : Progress) (text : List ℕ) → answer (Ok p) ≡ file → text ≡ said p → w ≡ on_line 0 (written_of 0 (length text) (length out)) → last ≡ put_into text out
      → (w ≡ answer_on file (text_on file (said file.progress)) (length out)) × (last ≡ put_into (text_on file (said file.progress)) out)
  unfolding answer_on
  put_accepted p text e t a b =
      let k : text ≡ text_on file (said file.progress) = t ∙ sym (answered_is (answer (Ok p)) (said p) refl) ∙ ap (λ (r : FileRead). text_on r (said r.progress)) e in
      put_as w last out (answer (Ok p)) file text _ e k a b

  pub put_refused : (e : Refusal) → answer (Err e) ≡ file → w ≡ answer_on (answer (Err e)) (refusal_line (number e.cause) e.line) (length out)
      → last ≡ put_into (refusal_line (number e.cause) e.line) out
      → (w ≡ answer_on file (text_on file (said file.progress)) (length out)) × (last ≡ put_into (text_on file (said file.progress)) out)
  put_refused e r a b =
      let k : refusal_line (number e.cause) e.line ≡ text_on file (said file.progress) = sym (refused_is (answer (Err e)) (said nothing_read) (numbered e.cause)) ∙ ap (λ (f : FileRead). text_on f (said f.progress)) r in
      put_as w last out (answer (Err e)) file _ _ r k a b

-- a list that has room gets the text: what comes back is the file's number and line, and the text's length
pub whole_text : (read : FileRead) (text : List ℕ) (room : ℕ) → length text ≤ room
    → answer_on read text room ≡ record { number = read.number; line = read.line; len = length text }
unfolding answer_on
whole_text read text room h = ap (on_line read.line) (texts.written_fits read.number (length text) room h)

-- of a call that was lent a list of this room: the count lies within the list that came back, and so the part of that many bytes has as many
module _ (w : Written) (number line len room : ℕ) (after : List ℕ) (e : w ≡ on_line line (written_of number len room)) (k : length after ≡ room) where
  pub lent_fits : w.len ≤ length after
  lent_fits = omega (arith, ap (λ (x : Written). x.len) e, texts.written_within number len room)

  pub lent_part : w.len ≡ length (take w.len after)
  lent_part = omega (arith, lent_fits, length-take w.len after)

-- the same of a text on a file
module _ (w : Written) (read : FileRead) (text : List ℕ) (room : ℕ) (after : List ℕ) (e : w ≡ answer_on read text room) (k : length after ≡ room) where
  pub written_fits : w.len ≤ length after
  unfolding answer_on
  written_fits = lent_fits w read.number read.line (length text) room after e k

  pub written_part : w.len ≡ length (take w.len after)
  unfolding answer_on
  written_part = lent_part w read.number read.line (length text) room after e k
