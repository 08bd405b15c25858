-- A list from a function of the place. Assumes nothing.
use Rattle.std.specs.Prelude.{ℕ, zero, suc, List, [], ◌∷◌}

-- the values at 0, 1, .. below n, one after the other
unfoldable pub table : {A : Type 0} → (n : ℕ) (one : ℕ → A) → List A
table zero one = []
table (suc n) one = one 0 ∷ table n (λ b. one (suc b))
