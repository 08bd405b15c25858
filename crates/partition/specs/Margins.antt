-- What the margins' function answers for every plan record (document 02, P1). Assumes nothing.
use Rattle.std.specs.Prelude.{ℕ, Bool, true, false, not, List, [], ◌∷◌, Result, Ok, Err, eqb, ltb, replicate}
use Rattle.sets.specs.Tests.{◌and◌, pick}
use Rattle.sets.specs.Causes.{◌gives◌, first_cause}
use Rattle.sets.specs.Sets.{Terminal, all}
use Rattle.sets.specs.Tables.{table}
use Rattle.quorum.specs.declared.BoundKind.{BoundKind}
use Rattle.quorum.specs.declared.BoundKind.TheVariants.{Most, Groups}
use Rattle.quorum.specs.declared.Bound.{Bound}
use Rattle.quorum.specs.Quorum.{most_terminals, most_groups, group_at, in_range}
use Rattle.plan.specs.declared.Plan.{Plan}
use Rattle.plan.specs.declared.Unsound.{Unsound}
use Rattle.plan.specs.declared.Unsound.TheVariants as unsound
use Rattle.plan.specs.Plan.{hears, links_sound}
use Rattle.closure.specs.Margin.{margin}
use Rattle.partition.specs.declared.Standing.{Standing}
use Rattle.partition.specs.declared.Standing.TheVariants.{Source, Direct, Margin, Absent}
use Rattle.partition.specs.declared.MarginsError.{MarginsError}
use Rattle.partition.specs.declared.MarginsError.TheVariants.{WrongRange, WrongLink}

-- ---- how each terminal stands

-- the source, direct, by its margin, or not one of the plan's
unfoldable pub standing_of : Plan → (b : Terminal) → Standing
standing_of p b = pick (ltb b p.n) (pick (eqb b p.source) Source (pick (hears p b p.source) Direct (Margin (margin p b)))) Absent

-- ---- what is refused: 4 and 5

abbrev pub is_most : BoundKind → Bool
is_most (Most f) = true
is_most (Groups count) = false

-- a bound f; a record that lists a group is a group plan, whatever its kind says
unfoldable pub groupless : Bound → Bool
groupless bound = is_most bound.kind and all most_groups (λ i. eqb (group_at bound i) 0)

unfoldable pub margins_cause : Plan → ℕ
margins_cause p =
    first_cause (
    not (in_range p.n p.source p.bound.kind) gives 4
    ∷ not (groupless p.bound) gives 4
    ∷ not (links_sound p) gives 5
    ∷ []
    )

-- ---- the answer: the number of a refusal, 0 where nothing is refused, and how each of twenty terminals stands, all absent where the record is refused

pub record Told : Type 0 where
  pub number : ℕ
  pub places : List Standing

abbrev pub all_absent : List Standing
all_absent = replicate most_terminals Absent

unfoldable pub margins_of : Plan → Told
margins_of p =
    pick (eqb (margins_cause p) 0) (record { number = 0; places = table most_terminals (standing_of p) })
    (record { number = margins_cause p; places = all_absent })

abbrev pub told : Result (List Standing) MarginsError → Told
told (Ok places) = record { number = 0; places = places }
told (Err WrongRange) = record { number = 4; places = all_absent }
told (Err WrongLink) = record { number = 5; places = all_absent }

-- what refuses the plan refuses its margins; one with a bound f and no group has no wrong group
abbrev pub of_bounded_plan : Unsound → MarginsError
of_bounded_plan unsound.WrongRange = WrongRange
of_bounded_plan unsound.WrongLink = WrongLink
of_bounded_plan unsound.WrongGroups = WrongRange
