-- Tests joined, and a choice by a test. They are the library's `&&`, `||` and `cond`, but shut until named, so that a law finds its arguments in a fact
-- that is an equation of Bool. Assumes nothing.
use Rattle.std.specs.Prelude.{Bool, true, false}

infixr 35 ◌and◌
infixr 30 ◌or◌
infixr 25 ◌implies◌
unfoldable pub ◌and◌ : Bool → Bool → Bool
true and b = b
false and b = false

unfoldable pub ◌or◌ : Bool → Bool → Bool
true or b = true
false or b = b

unfoldable pub ◌implies◌ : Bool → Bool → Bool
true implies b = b
false implies b = true

-- x where the test holds, else y
unfoldable pub pick {ℓ} : {A : Type ℓ} → Bool → A → A → A
pick true x y = x
pick false x y = y
