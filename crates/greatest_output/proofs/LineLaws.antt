-- The one line, by what was found of the drawing. Assumes nothing.
use Prim.Native.Nat.{ℕ}
use mathlib.Core.Path.{◌≡◌, sym, ap, ◌∙◌}
use mathlib.Core.List.{List, [], ◌∷◌}
use native.Mathlib.Omega.{arith}
use lib.ListN.{length, length-append}
use borrow.Author.Tests.{eq-eqb, ne_eqb}
use Rattle.sets.proofs.Bools.{pick_yes, pick_no}
use Rattle.std.specs.Prelude.{Option, Result, Ok, Err}
use Rattle.tolerance.specs.declared.DrawingError.{DrawingError}
use Rattle.tolerance.specs.declared.DrawingError.TheVariants.{WrongRange, WrongLink}
use Rattle.tolerance.specs.Greatest.{drawing_of, none, up_to}
use Rattle.tolerance.specs.Answer.{Told, told, greatest_of}
use Rattle.text.specs.Digits.{decimal}
use Rattle.text.specs.Texts.{joined, written_of, put_into}
use Rattle.text.proofs.Laws.{then, whole, decimal_short}
use Rattle.frames.specs.declared.Progress.{Progress}
use Rattle.frames.specs.declared.Refusal.{Refusal}
use Rattle.frames.specs.Reading.{FileRead}
use Rattle.frames.specs.Causes.{number, answer}
use Rattle.output.specs.declared.Written.{Written}
use Rattle.output.specs.OnFile.{refusal_line, on_line, answer_on}
use Rattle.output.proofs.Laws.{put_accepted, put_refused}
use Rattle.greatest_output.specs.Greatest.{tolerance_line, greatest_answer, greatest_on}

-- one part after the other, with room
pub says_none : {a b c d e last : List ℕ} → a ≡ [] → b ≡ joined a (110 ∷ []) → c ≡ joined b (111 ∷ []) → d ≡ joined c (110 ∷ []) → e ≡ joined d (101 ∷ [])
    → last ≡ joined e (10 ∷ []) → last ≡ tolerance_line none
unfolding tolerance_line
says_none z p q r s t = whole z (then _ _ (10 ∷ []) (then _ _ (101 ∷ []) (then _ _ (110 ∷ []) (then _ _ (111 ∷ []) p q) r) s) t) (omega arith)

pub says_bound : (f : ℕ) {a b last : List ℕ} → a ≡ [] → b ≡ joined a (decimal f) → last ≡ joined b (10 ∷ []) → last ≡ tolerance_line (up_to f)
unfolding tolerance_line
says_bound f z p q = whole z (then _ (decimal f) (10 ∷ []) p q) (let h = decimal_short f in omega (arith, length-append (decimal f) (10 ∷ [])))

-- the answer, by what is told
pub says_found : (g x : Result (Option ℕ) DrawingError) (last : List ℕ) → g ≡ x → (told x).number ≡ 0 → last ≡ tolerance_line (told x).passed → last ≡ greatest_answer (told g)
unfolding greatest_answer
says_found g x last e z h = h ∙ sym (ap (λ (y : Result (Option ℕ) DrawingError). greatest_answer (told y)) e ∙ pick_yes _ _ _ (eq-eqb (told x).number 0 z))

some_number : (e : DrawingError) → (told (Err e)).number ≡ 0 → ⊥
some_number WrongRange z = omega arith
some_number WrongLink z = omega arith

pub says_refusal : (g : Result (Option ℕ) DrawingError) (why : DrawingError) (last : List ℕ) → g ≡ Err why → last ≡ refusal_line (told (Err why)).number 0 → last ≡ greatest_answer (told g)
unfolding greatest_answer
says_refusal g why last e h =
    h ∙ sym (ap (λ (y : Result (Option ℕ) DrawingError). greatest_answer (told y)) e ∙ pick_no _ _ _ (ne_eqb (told (Err why)).number 0 (some_number why)))

-- the line on a plan file, where it is accepted and where it is refused
module _ {w : Written} {last : List ℕ} (out : List ℕ) (file : FileRead) where
  pub put_greatest : (p : Progress) (t : Told) (said : List ℕ) → answer (Ok p) ≡ file → t ≡ greatest_of (drawing_of p.plan) → said ≡ greatest_answer t
      → w ≡ on_line 0 (written_of 0 (length said) (length out)) → last ≡ put_into said out → (w ≡ answer_on file (greatest_on file) (length out)) × (last ≡ put_into (greatest_on file) out)
  unfolding greatest_on
  put_greatest p t said e g s = put_accepted w last out file (λ (x : Progress). greatest_answer (greatest_of (drawing_of x.plan))) p said e (s ∙ ap greatest_answer g)

  pub put_refusal : (e : Refusal) → answer (Err e) ≡ file → w ≡ answer_on (answer (Err e)) (refusal_line (number e.cause) e.line) (length out) → last ≡ put_into (refusal_line (number e.cause) e.line) out
      → (w ≡ answer_on file (greatest_on file) (length out)) × (last ≡ put_into (greatest_on file) out)
  unfolding greatest_on
  put_refusal = put_refused w last out file (λ (x : Progress). greatest_answer (greatest_of (drawing_of x.plan)))
