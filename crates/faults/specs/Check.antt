-- What the check of a proposed fault set answers for every plan record. Assumes nothing.
use Rattle.std.specs.Prelude.{ℕ, not, [], ◌∷◌, Result, Ok, Err}
use Rattle.sets.specs.Causes.{◌gives◌, first_cause, given}
use Rattle.sets.specs.Sets.{Set, within}
use Rattle.quorum.specs.Quorum.{others}
use Rattle.plan.specs.declared.Plan.{Plan}
use Rattle.plan.specs.Plan.{cause_of}
use Rattle.closure.specs.FaultSet.{is_fault_set, beside_source}
use Rattle.plan.specs.declared.Unsound.{Unsound}
use Rattle.plan.specs.declared.Unsound.TheVariants as unsound
use Rattle.faults.specs.declared.FaultSetError.{FaultSetError}
use Rattle.faults.specs.declared.FaultSetError.TheVariants.{WrongRange, WrongLink, WrongGroups, WrongMember, OverBound}

-- the documents' number of each answer, 0 where nothing is refused: 7 where it names the source or a number at or above n, 8 where a good terminal hears
-- more than f of it, or it is part of no group
abbrev pub fault_number_of : Result Unit FaultSetError → ℕ
fault_number_of (Ok _) = 0
fault_number_of (Err WrongRange) = 4
fault_number_of (Err WrongLink) = 5
fault_number_of (Err WrongGroups) = 17
fault_number_of (Err WrongMember) = 7
fault_number_of (Err OverBound) = 8

-- what refuses the plan refuses the set
abbrev pub of_plan : Unsound → FaultSetError
of_plan unsound.WrongRange = WrongRange
of_plan unsound.WrongLink = WrongLink
of_plan unsound.WrongGroups = WrongGroups

-- the plan's own causes first
unfoldable pub fault_cause_of : Plan → Set → ℕ
fault_cause_of p s =
    first_cause (
    given (cause_of p)
    ∷ not (others p.n p.source s) gives 7
    ∷ not (is_fault_set p s) gives 8
    ∷ []
    )

-- the same on a shared channel (document 02, P11): 7 only for a number at or above n, and 8 by the set without the source
unfoldable pub shared_fault_cause_of : Plan → Set → ℕ
shared_fault_cause_of p s = first_cause (given (cause_of p) ∷ not (within p.n s) gives 7 ∷ not (is_fault_set p (beside_source p s)) gives 8 ∷ [])
