-- Facts as equations of Bool: joined tests taken apart and put together, and a choice by a test. Assumes nothing.
use mathlib.Core.Path.{◌≡◌, refl, sym, ◌∙◌}
use mathlib.Core.Logic.{◌⊎◌, inl, inr}
use mathlib.Core.Bool.{Bool, true, false, not, ◌||◌, true≢false}
use mathlib.Core.List.{List, [], ◌∷◌}
use Rattle.sets.specs.Tests.{◌and◌, ◌or◌, ◌implies◌, pick}

pub clash {ℓ} : {X : Type ℓ} {b : Bool} → b ≡ true → b ≡ false → X
clash p q = absurd (true≢false (sym p ∙ q))

pub decide : (b : Bool) → (b ≡ true) ⊎ (b ≡ false)
decide true = inl refl
decide false = inr refl

pub and_l : (a b : Bool) → a and b ≡ true → a ≡ true
unfolding ◌and◌
and_l true b h = refl
and_l false b h = h

pub and_r : (a b : Bool) → a and b ≡ true → b ≡ true
unfolding ◌and◌
and_r true b h = h
and_r false b h = clash h refl

pub and_i : (a b : Bool) → a ≡ true → b ≡ true → a and b ≡ true
unfolding ◌and◌
and_i true b p q = q
and_i false b p q = p

pub and_yes : (a b : Bool) → a ≡ true → a and b ≡ b
unfolding ◌and◌
and_yes true b h = refl
and_yes false b h = clash h refl

pub and_no_l : (a b : Bool) → a ≡ false → a and b ≡ false
unfolding ◌and◌
and_no_l true b h = clash refl h
and_no_l false b h = refl

pub and_no_r : (a b : Bool) → b ≡ false → a and b ≡ false
unfolding ◌and◌
and_no_r true b h = h
and_no_r false b h = refl

pub and_swap : (a b : Bool) → a and b ≡ b and a
unfolding ◌and◌
and_swap true true = refl
and_swap true false = refl
and_swap false true = refl
and_swap false false = refl

pub or_l : (a b : Bool) → a ≡ true → a or b ≡ true
unfolding ◌or◌
or_l true b h = refl
or_l false b h = clash h refl

pub or_r : (a b : Bool) → b ≡ true → a or b ≡ true
unfolding ◌or◌
or_r true b h = refl
or_r false b h = h

pub or_e : (a b : Bool) → a or b ≡ true → (a ≡ true) ⊎ (b ≡ true)
unfolding ◌or◌
or_e true b h = inl refl
or_e false b h = inr h

pub or_no : (a b : Bool) → a ≡ false → b ≡ false → a or b ≡ false
unfolding ◌or◌
or_no true b p q = clash refl p
or_no false b p q = q

pub or_none : (a b : Bool) → a ≡ false → a or b ≡ b
unfolding ◌or◌
or_none true b p = clash refl p
or_none false b p = refl

-- the code's own
pub or_code : (a b : Bool) → (a || b) ≡ (a or b)
unfolding ◌or◌
or_code true b = refl
or_code false b = refl

pub not_i : {a : Bool} → a ≡ false → not a ≡ true
not_i {a = true} h = clash refl h
not_i {a = false} h = refl

pub not_yes : {a : Bool} → a ≡ true → not a ≡ false
not_yes {a = true} h = refl
not_yes {a = false} h = sym h

pub not_e : (a : Bool) → not a ≡ true → a ≡ false
not_e true h = sym h
not_e false h = refl

pub no_by : {a : Bool} → (a ≡ true → ⊥) → a ≡ false
no_by {a = true} h = absurd (h refl)
no_by {a = false} h = refl

-- two tests that imply each other are one
pub same_test : (a b : Bool) → (a ≡ true → b ≡ true) → (b ≡ true → a ≡ true) → a ≡ b
same_test true b f g = sym (f refl)
same_test false true f g = g refl
same_test false false f g = refl

pub implies_i : (a b : Bool) → (a ≡ true → b ≡ true) → a implies b ≡ true
unfolding ◌implies◌
implies_i true b f = f refl
implies_i false b f = refl

pub implies_e : (a b : Bool) → a implies b ≡ true → a ≡ true → b ≡ true
unfolding ◌implies◌
implies_e true b h p = h
implies_e false b h p = clash p refl

pub implies_no : (a b : Bool) → a ≡ false → a implies b ≡ true
unfolding ◌implies◌
implies_no true b h = clash refl h
implies_no false b h = refl

-- a choice by a test: what it is where the test is known, and a claim about it from its two cases
module _ {ℓ} {A : Type ℓ} where
  pub pick_yes : (b : Bool) (x y : A) → b ≡ true → pick b x y ≡ x
  unfolding pick
  pick_yes true x y h = refl
  pick_yes false x y h = clash h refl

  pub pick_no : (b : Bool) (x y : A) → b ≡ false → pick b x y ≡ y
  unfolding pick
  pick_no true x y h = clash refl h
  pick_no false x y h = refl

  pub pick_case {κ} : (Q : A → Type κ) (b : Bool) (x y : A) → (b ≡ true → Q x) → (b ≡ false → Q y) → Q (pick b x y)
  unfolding pick
  pick_case Q true x y f g = f refl
  pick_case Q false x y f g = g refl

pub implies_no_l : (a b : Bool) → a implies b ≡ false → a ≡ true
unfolding ◌implies◌
implies_no_l true b h = refl
implies_no_l false b h = clash refl h

pub implies_no_r : (a b : Bool) → a implies b ≡ false → b ≡ false
unfolding ◌implies◌
implies_no_r true b h = h
implies_no_r false b h = clash refl h

pub not_no : (a : Bool) → not a ≡ false → a ≡ true
not_no true h = refl
not_no false h = sym h

-- every element of a list passes the test
unfoldable pub every : {A : Type 0} → (A → Bool) → List A → Bool
every test [] = true
every test (x ∷ xs) = test x and every test xs
