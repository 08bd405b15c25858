-- What is heard of a text, byte by byte, and that of a sentence its own sets are heard. Assumes nothing.
use Prim.Native.Nat.{ℕ, ◌+◌, ◌-◌, ◌*◌, ◌≤◌, ◌<◌}
use mathlib.Core.Path.{◌≡◌, refl, sym, ap, ap₂, ◌∙◌}
use mathlib.Core.Bool.{Bool, true, false, ◌&&◌}
use mathlib.Core.List.{List}
use native.Mathlib.Numerals.{add-one}
use lib.Dec.{leb}
use lib.ListN.{length, get_or, drop}
use lib.Seq.{drop-cons}
use borrow.Author.Tests.{lt-ltb, le-ltb, leb-true}
use Rattle.sets.specs.Tests.{◌and◌}
use Rattle.sets.specs.Sets.{with}
use Rattle.sets.proofs.Bools.{and_l, and_r, pick_yes, pick_no}
use Rattle.wording.specs.declared.ear.Ear.{Ear}
use Rattle.std.specs.Char.{is_ascii_digit}
use Rattle.std.specs.Option.{unwrap_or}
use Rattle.std.specs.Prelude.{Option, Some, None}
use Rattle.wording.specs.Ear.{placed_by, placed, is_figure, figured, after_byte, after_all}

-- ---- the functions' returns

module _ (e : Ear) where
  pub placed_none : e.number ≡ None → e ≡ placed e
  unfolding placed
  placed_none z = sym (ap (λ (k : Option ℕ). placed_by k e) z)

  pub placed_waiting : (i x : ℕ) → e.number ≡ Some i → e.waiting ≡ true → x ≡ with 32 e.r i
      → record { waiting = e.waiting; number = None; f = e.f; r = x } ≡ placed e
  unfolding placed
  placed_waiting i x z w q =
      ap (λ (y : ℕ). record { waiting = e.waiting; number = None; f = e.f; r = y }) q
      ∙ sym (ap (λ (k : Option ℕ). placed_by k e) z ∙ pick_yes _ _ _ w)

  pub placed_silent : (i x : ℕ) → e.number ≡ Some i → e.waiting ≡ false → x ≡ with 32 e.f i
      → record { waiting = e.waiting; number = None; f = x; r = e.r } ≡ placed e
  unfolding placed
  placed_silent i x z w q =
      ap (λ (y : ℕ). record { waiting = e.waiting; number = None; f = y; r = e.r }) q
      ∙ sym (ap (λ (k : Option ℕ). placed_by k e) z ∙ pick_no _ _ _ w)

  pub figured_large : (byte : ℕ) → 99 < unwrap_or e.number 0 → e ≡ figured e byte
  unfolding figured
  figured_large byte h =
      ap (λ (y : Option ℕ). record { waiting = e.waiting; number = y; f = e.f; r = e.r }) (sym (pick_yes _ _ _ (lt-ltb 99 (unwrap_or e.number 0) h)))

  pub figured_small : (byte x : ℕ) → unwrap_or e.number 0 ≤ 99 → x ≡ unwrap_or e.number 0 * 10 + (byte - 48)
      → record { waiting = e.waiting; number = Some x; f = e.f; r = e.r } ≡ figured e byte
  unfolding figured
  figured_small byte x h q =
      ap (λ (y : Option ℕ). record { waiting = e.waiting; number = y; f = e.f; r = e.r })
      (ap Some q ∙ sym (pick_no _ _ _ (le-ltb 99 (unwrap_or e.number 0) h)))

-- as the library tests for it
both : (a b : Bool) → (a && b) ≡ (a and b)
unfolding ◌and◌
both true b = refl
both false b = refl

pub figure_is : (byte : ℕ) → is_ascii_digit byte ≡ is_figure byte
unfolding is_figure
figure_is byte = both (leb 48 byte) (leb byte 57)

pub figure_bounds : (byte : ℕ) → is_figure byte ≡ true → (48 ≤ byte) × (byte ≤ 57)
unfolding is_figure
figure_bounds byte h = (leb-true 48 byte (and_l _ _ h), leb-true byte 57 (and_r _ _ h))

-- one byte more
pub heard_next : (e : Ear) (text : List ℕ) (i : ℕ) {next : Ear} → i < length text → next ≡ after_byte e (get_or text i 0)
    → after_all next (drop (i + 1) text) ≡ after_all e (drop i text)
unfolding after_all
heard_next e text i {next} h q =
    ap₂ after_all q (ap (λ (k : ℕ). drop k text) (add-one i)) ∙ sym (ap (after_all e) (drop-cons text i 0 h))
