-- What the function answers for every record of a drawing (document 02, P13): the documents' number and values for each case. Assumes nothing.
use Rattle.std.specs.Prelude.{ℕ, Option, Some, None, Result, Ok, Err, eqb}
use Rattle.sets.specs.Tests.{pick}
use Rattle.plan.specs.declared.Unsound.{Unsound}
use Rattle.plan.specs.declared.Unsound.TheVariants as unsound
use Rattle.plan.specs.Plan.{cause_of}
use Rattle.tolerance.specs.declared.Drawing.{Drawing}
use Rattle.tolerance.specs.declared.DrawingError.{DrawingError}
use Rattle.tolerance.specs.declared.DrawingError.TheVariants.{WrongRange, WrongLink}
use Rattle.tolerance.specs.Greatest.{with_bound, Tolerance, none, up_to, greatest}

-- the number of a refusal, 0 where nothing is refused, and what it passes: none beside a refusal
pub record Told : Type 0 where
  pub number : ℕ
  pub passed : Tolerance

-- none: it fails for 0 already
abbrev pub told : Result (Option ℕ) DrawingError → Told
told (Ok None) = record { number = 0; passed = none }
told (Ok (Some f)) = record { number = 0; passed = up_to f }
told (Err WrongRange) = record { number = 4; passed = none }
told (Err WrongLink) = record { number = 5; passed = none }

-- what refuses the plan with the bound 0 refuses the drawing
abbrev pub of_plan : Unsound → DrawingError
of_plan unsound.WrongRange = WrongRange
of_plan unsound.WrongLink = WrongLink
of_plan unsound.WrongGroups = WrongLink

-- a record is refused as the plan with the bound 0 is, by 4 or 5
unfoldable pub greatest_of : Drawing → Told
greatest_of d =
    pick (eqb (cause_of (with_bound d 0)) 0) (record { number = 0; passed = greatest d })
    (record { number = cause_of (with_bound d 0); passed = none })
