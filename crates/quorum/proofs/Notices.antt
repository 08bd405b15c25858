-- A notice and its halves, and what the office issues later. Assumes nothing.
use Prim.Native.Nat.{ℕ, ◌+◌, ◌%◌, ◌≤◌, ◌<◌}
use mathlib.Core.Path.{◌≡◌, refl, sym, ap, ◌∙◌}
use mathlib.Core.Bool.{true, false}
use mathlib.Core.List.{List, ◌∷◌}
use native.Mathlib.Numerals.{add-one}
use native.Mathlib.Omega.{arith}
use lib.Dec.{eqb}
use lib.ListN.{length, get_or, drop}
use lib.Seq.{drop-cons}
use borrow.Author.Tests.{eq-eqb, ne_eqb, eqb-true, lt-ltb, le-ltb}
use Rattle.sets.proofs.Bools.{clash, or_l, or_r, or_no, and_yes, and_no_l, pick_yes, pick_no, pick_case}
use Rattle.quorum.specs.Notice.{notice_of, edition_of, layout_of, silent, first_edition, rising}

-- ---- the halves

pub notice_is : (x : ℕ) → notice_of (edition_of x) (layout_of x) ≡ x
unfolding notice_of edition_of layout_of
notice_is x = omega arith

pub layout_small : (x : ℕ) → layout_of x < 65536
unfolding layout_of
layout_small x = omega arith

pub edition_notice : (edition layout : ℕ) → layout < 65536 → edition_of (notice_of edition layout) ≡ edition
unfolding notice_of edition_of
edition_notice edition layout h = omega arith

pub layout_notice : (edition layout : ℕ) → layout < 65536 → layout_of (notice_of edition layout) ≡ layout
unfolding notice_of layout_of
layout_notice edition layout h = omega arith

-- notices with the same halves are one
pub same_notice : (x y : ℕ) → edition_of x ≡ edition_of y → layout_of x ≡ layout_of y → x ≡ y
same_notice x y e l = sym (notice_is x) ∙ (λ i. notice_of (e i) (l i)) ∙ notice_is y

pub edition_zero : edition_of 0 ≡ 0
unfolding edition_of
edition_zero = refl

-- ---- silence

-- both halves of what is not silence are something
pub said_edition : (x : ℕ) → silent x ≡ false → edition_of x ≡ 0 → ⊥
unfolding silent
said_edition x h z = clash (or_l (eqb (edition_of x) 0) (eqb (layout_of x) 0) (eq-eqb (edition_of x) 0 z)) h

pub said_layout : (x : ℕ) → silent x ≡ false → layout_of x ≡ 0 → ⊥
unfolding silent
said_layout x h z = clash (or_r (eqb (edition_of x) 0) (eqb (layout_of x) 0) (eq-eqb (layout_of x) 0 z)) h

pub said_i : (x : ℕ) → (edition_of x ≡ 0 → ⊥) → (layout_of x ≡ 0 → ⊥) → silent x ≡ false
unfolding silent
said_i x e l = or_no _ _ (ne_eqb (edition_of x) 0 e) (ne_eqb (layout_of x) 0 l)

pub silent_zero : silent 0 ≡ true
unfolding silent edition_of
silent_zero = or_l (eqb 0 0) (eqb (layout_of 0) 0) refl

-- ---- a layout that is said without an edition

pub first_silence : first_edition 0 ≡ 0
unfolding first_edition
first_silence = pick_yes _ _ _ (eq-eqb 0 0 refl)

pub first_said : (layout : ℕ) → (layout ≡ 0 → ⊥) → first_edition layout ≡ notice_of 1 layout
unfolding first_edition
first_said layout z = pick_no _ _ _ (ne_eqb layout 0 z)

-- it has edition 1, or is silence and has none
pub first_edition_le : (layout : ℕ) → layout < 65536 → edition_of (first_edition layout) ≤ 1
unfolding first_edition
first_edition_le layout h =
    pick_case (λ (x : ℕ). edition_of x ≤ 1) (eqb layout 0) 0 (notice_of 1 layout) (λ t. omega (arith, edition_zero)) (λ t. omega (arith, edition_notice 1 layout h))

pub first_notice : (layout : ℕ) → layout < 65536 → (layout ≡ 0 → ⊥) → silent (notice_of 1 layout) ≡ false
first_notice layout h z = said_i _ (λ e. omega (arith, edition_notice 1 layout h)) (λ e. z (sym (layout_notice 1 layout h) ∙ e))

-- a notice of edition 1, or 0, is that of its layout
pub first_layout : (layout : ℕ) → layout < 65536 → layout_of (first_edition layout) ≡ layout
unfolding first_edition layout_of
first_layout layout h =
    pick_case (λ (x : ℕ). x % 65536 ≡ layout) (eqb layout 0) 0 (notice_of 1 layout) (λ t. sym (eqb-true layout 0 t)) (λ t. layout_notice 1 layout h)

-- ---- what is issued later, one entry further

module _ (last i : ℕ) (later : List ℕ) (k : i < length later) where
  rising_cons : rising last (drop i later) ≡ rising last (get_or later i 0 ∷ drop (i + 1) later)
  rising_cons = ap (rising last) (drop-cons later i 0 k ∙ ap (λ (m : ℕ). get_or later i 0 ∷ drop m later) (sym (add-one i)))

  pub rising_past : silent (get_or later i 0) ≡ true → rising last (drop i later) ≡ rising last (drop (i + 1) later)
  unfolding rising
  rising_past h = rising_cons ∙ pick_yes _ _ _ h

  pub rising_next : silent (get_or later i 0) ≡ false → last < edition_of (get_or later i 0)
      → rising last (drop i later) ≡ rising (edition_of (get_or later i 0)) (drop (i + 1) later)
  unfolding rising
  rising_next h l = rising_cons ∙ pick_no _ _ _ h ∙ and_yes _ _ (lt-ltb last (edition_of (get_or later i 0)) l)

  pub rising_ends : silent (get_or later i 0) ≡ false → edition_of (get_or later i 0) ≤ last → rising last (drop i later) ≡ false
  unfolding rising
  rising_ends h l = rising_cons ∙ pick_no _ _ _ h ∙ and_no_l _ _ (le-ltb last (edition_of (get_or later i 0)) l)
