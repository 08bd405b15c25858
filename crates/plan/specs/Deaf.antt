-- Deaf terminals: whoever hears nobody, the source left out (document 02, P6). Assumes nothing.
use Rattle.std.specs.Prelude.{Bool, not, eqb}
use Rattle.sets.specs.Tests.{◌and◌}
use Rattle.sets.specs.Sets.{Terminal, Set, mask}
use Rattle.plan.specs.declared.Plan.{Plan}
use Rattle.plan.specs.Plan.{heard_by}

-- the source never is
unfoldable pub is_deaf : Plan → (b : Terminal) → Bool
is_deaf p b = not (eqb b p.source) and eqb (heard_by p b) 0

unfoldable pub deaf_set : Plan → Set
deaf_set p = mask p.n (is_deaf p)
