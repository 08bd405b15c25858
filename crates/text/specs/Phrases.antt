-- Fixed phrases, and texts that are compared byte for byte. Assumes nothing.
use Rattle.std.specs.Prelude.{ℕ, Bool, true, false, List, [], ◌∷◌, eqb, length, take}
use Prim.Native.Char.{code}
use Prim.Native.String as quoted
use Prim.Native.String.{String}
use Rattle.sets.specs.Tests.{◌and◌}

-- the bytes of a quoted phrase: the numbers of its characters
unfoldable pub phrase : String → List ℕ
phrase quoted.[] = []
phrase (quoted.◌∷◌ c rest) = code c ∷ phrase rest

-- the same bytes
unfoldable pub same : (xs ys : List ℕ) → Bool
same [] [] = true
same [] (y ∷ ys) = false
same (x ∷ xs) [] = false
same (x ∷ xs) (y ∷ ys) = eqb x y and same xs ys

-- the bytes begin with those of the text
unfoldable pub begins : (text bytes : List ℕ) → Bool
begins text bytes = same text (take (length text) bytes)
