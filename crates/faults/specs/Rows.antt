-- Those who hear enough of a set, by a plan's rows, for the checks that go by words of bits. Assumes nothing.
use Rattle.std.specs.Prelude.{ℕ, List, ltb, get_or}
use Rattle.sets.specs.Tests.{◌and◌}
use Rattle.sets.specs.Sets.{Set, mem, count, mask}
use Rattle.quorum.specs.declared.Bound.{Bound}
use Rattle.quorum.specs.Quorum.{most_terminals, enough}

-- the terminals that hear more than f members of a
unfoldable pub over : (rows : List Set) (f : ℕ) (a : Set) → Set
over rows f a = mask most_terminals (λ b. ltb f (count 32 (λ i. mem i (get_or rows b 0) and mem i a)))

-- the terminals that hear enough members of a
unfoldable pub hearing : (rows : List Set) → Bound → (a : Set) → Set
hearing rows bound a = mask most_terminals (λ b. enough 32 bound (λ i. mem i (get_or rows b 0) and mem i a))
