-- A phrase that is joined byte by byte, and texts that are compared by the library. Assumes nothing.
use Prim.Native.Nat.{ℕ, ◌+◌, ◌≤◌, ◌<◌}
use mathlib.Core.Path.{◌≡◌, refl, sym, ap, ap₂, ◌∙◌}
use mathlib.Core.Bool.{Bool, true, false, ◌&&◌}
use mathlib.Core.List.{List, [], ◌∷◌, ◌++◌}
use native.Mathlib.Numerals.{add-one}
use native.Mathlib.Omega.{arith}
use lib.Dec.{eqb}
use lib.ListN.{length, get_or, take, length-take}
use lib.Pointwise.{pointwise}
use lib.Seq.{take_all, take-suc}
use borrow.Author.Tests.{eq-eqb, eqb-true}
use Rattle.sets.specs.Tests.{◌and◌}
use Rattle.sets.proofs.Bools.{clash, and_l, and_r, and_i, no_by}
use Rattle.text.specs.Texts.{joined}
use Rattle.text.specs.Phrases.{same, begins}
use Rattle.text.proofs.Laws.{then}

-- ---- a phrase

append_none : (xs : List ℕ) → xs ++ [] ≡ xs
append_none [] = refl
append_none (x ∷ xs) = ap (λ (l : List ℕ). x ∷ l) (append_none xs)

pub joined_none : (xs : List ℕ) → length xs ≤ 344 → xs ≡ joined xs []
unfolding joined
joined_none xs h = sym (ap (take 344) (append_none xs) ∙ take_all 344 xs h)

pub joined_next : (xs bytes : List ℕ) (i : ℕ) {mid last : List ℕ} → i < length bytes → mid ≡ joined xs (take i bytes) → last ≡ joined mid (get_or bytes i 0 ∷ [])
    → last ≡ joined xs (take (i + 1) bytes)
joined_next xs bytes i h a b =
    then xs (take i bytes) (get_or bytes i 0 ∷ []) a b
    ∙ ap (joined xs) (sym (take-suc bytes i 0 h) ∙ ap (λ (k : ℕ). take k bytes) (sym (add-one i)))

-- whatever is joined has room
pub joined_length : (xs part : List ℕ) {last : List ℕ} → last ≡ joined xs part → length last ≤ 344
unfolding joined
joined_length xs part e = omega (arith, ap length e, length-take 344 (xs ++ part))

-- ---- the same bytes

pub same_refl : (xs : List ℕ) → same xs xs ≡ true
unfolding same
same_refl [] = refl
same_refl (x ∷ xs) = and_i _ _ (eq-eqb x x refl) (same_refl xs)

pub same_is : (xs ys : List ℕ) → same xs ys ≡ true → xs ≡ ys
unfolding same
same_is [] [] h = refl
same_is [] (y ∷ ys) h = clash h refl
same_is (x ∷ xs) [] h = clash h refl
same_is (x ∷ xs) (y ∷ ys) h = ap₂ (λ (a : ℕ) (l : List ℕ). a ∷ l) (eqb-true x y (and_l _ _ h)) (same_is xs ys (and_r _ _ h))

pub same_yes : (xs ys : List ℕ) → xs ≡ ys → same xs ys ≡ true
same_yes xs ys e = ap (same xs) (sym e) ∙ same_refl xs

pub same_no : (xs ys : List ℕ) → (xs ≡ ys → ⊥) → same xs ys ≡ false
same_no xs ys f = no_by (λ h. f (same_is xs ys h))

pub length_same : (xs bytes : List ℕ) → (length xs ≡ length bytes → ⊥) → same xs bytes ≡ false
length_same xs bytes f = same_no xs bytes (λ q. f (ap length q))

-- as many bytes: all of them are compared
pub begins_is : (xs bytes : List ℕ) → length xs ≡ length bytes → begins xs bytes ≡ same xs bytes
unfolding begins
begins_is xs bytes e = ap (same xs) (take_all (length xs) bytes (omega arith))

-- the library's test of two slices
and_and : (a : Bool) {b c : Bool} → b ≡ c → (a && b) ≡ (a and c)
unfolding ◌and◌
and_and true e = e
and_and false e = refl

pub pointwise_same : (xs ys : List ℕ) → pointwise eqb xs ys ≡ same xs ys
unfolding same
pointwise_same [] [] = refl
pointwise_same [] (y ∷ ys) = refl
pointwise_same (x ∷ xs) [] = refl
pointwise_same (x ∷ xs) (y ∷ ys) = and_and (eqb x y) (pointwise_same xs ys)

-- by the bytes that are held
pub same_as : (own bytes : List ℕ) {xs : List ℕ} {answer : Bool} → own ≡ xs → answer ≡ pointwise eqb own bytes → answer ≡ same xs bytes
same_as own bytes e a = a ∙ pointwise_same own bytes ∙ ap (λ (l : List ℕ). same l bytes) e

pub begins_with : (own bytes : List ℕ) {xs : List ℕ} {answer : Bool} → own ≡ xs → answer ≡ pointwise eqb own (take (length own) bytes)
    → answer ≡ begins xs bytes
unfolding begins
begins_with own bytes e a = a ∙ pointwise_same own (take (length own) bytes) ∙ ap (λ (l : List ℕ). begins l bytes) e
