-- Fault sets. Document 01 calls them bad sets; document 000, definition 2, feasible f-local fault sets; the parts of groups are document 02's, P10.
-- Assumes nothing.
use Rattle.std.specs.Prelude.{Bool, not}
use Rattle.sets.specs.Tests.{◌and◌, ◌implies◌}
use Rattle.sets.specs.Sets.{Terminal, Set, mem, all, within, without}
use Rattle.quorum.specs.declared.BoundKind.{BoundKind}
use Rattle.quorum.specs.declared.BoundKind.TheVariants.{Most, Groups}
use Rattle.quorum.specs.Quorum.{fit, enough}
use Rattle.plan.specs.declared.Plan.{Plan}
use Rattle.plan.specs.Plan.{hears}

-- of the plan's terminals, those that have P can't all be bad
abbrev pub enough_in : Plan → (Terminal → Bool) → Bool
enough_in p P = enough p.n p.bound P

-- terminal b hears enough members of the set s: more than f, or some who fit in no group
unfoldable pub hears_enough : Plan → (b : Terminal) (s : Set) → Bool
hears_enough p b s = enough_in p (λ a. hears p b a and mem a s)

-- every terminal outside s, the source too, hears at most f of its members, while s may have more than f members; or s is part of one group
abbrev pub bounded_by : BoundKind → Plan → Set → Bool
bounded_by (Most f) p s = all p.n (λ b. not (mem b s) implies not (hears_enough p b s))
bounded_by (Groups count) p s = fit p.n p.bound (λ b. mem b s)

unfoldable pub is_bounded : Plan → Set → Bool
is_bounded p s = bounded_by p.bound.kind p s

-- s has terminals of the plan only, lacks the source, and is bounded
unfoldable pub is_fault_set : Plan → Set → Bool
is_fault_set p s = within p.n s and not (mem p.source s) and is_bounded p s

-- on a shared channel the source may be bad too (document 02, P11): the others of the set have to be a fault set, so that the bound holds at the source too
unfoldable pub beside_source : Plan → Set → Set
beside_source p s = without p.n s p.source

unfoldable pub is_shared_fault_set : Plan → Set → Bool
is_shared_fault_set p s = within p.n s and is_fault_set p (beside_source p s)
