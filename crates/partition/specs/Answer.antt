-- What the verdict and the witness check answer for every plan record: the documents' number and values for each case. Assumes nothing.
use Rattle.std.specs.Prelude.{ℕ, Bool, true, false, Option, Some, None, Result, Ok, Err, eqb}
use Rattle.sets.specs.Tests.{pick}
use Rattle.plan.specs.declared.Plan.{Plan}
use Rattle.plan.specs.declared.Unsound.{Unsound}
use Rattle.plan.specs.declared.Unsound.TheVariants as unsound
use Rattle.plan.specs.Plan.{number_of, cause_of}
use Rattle.closure.specs.Verdict as theory
use Rattle.closure.specs.Answer.{Answer, refused}
use Rattle.partition.specs.declared.Witness.{Witness}
use Rattle.partition.specs.declared.VerdictError.{VerdictError}
use Rattle.partition.specs.declared.VerdictError.TheVariants.{WrongRange, TooMany, WrongLink, WrongGroups}

-- none is a pass
abbrev pub answered : Result (Option Witness) VerdictError → Answer
answered (Ok None) = record { number = 0; failed = 0; f = 0; l = 0; r = 0 }
answered (Ok (Some w)) = record { number = 0; failed = 1; f = w.f; l = w.l; r = w.r }
answered (Err WrongRange) = refused 4
answered (Err TooMany) = refused 14
answered (Err WrongLink) = refused 5
answered (Err WrongGroups) = refused 17

-- what refuses the plan refuses the verdict
abbrev pub of_plan : Unsound → VerdictError
of_plan unsound.WrongRange = WrongRange
of_plan unsound.WrongLink = WrongLink
of_plan unsound.WrongGroups = WrongGroups

-- the witness check: the number of a refusal, and 1 for a yes
pub record Reply : Type 0 where
  pub number : ℕ
  pub accepted : ℕ

abbrev pub replied : Result Bool Unsound → Reply
replied (Ok true) = record { number = 0; accepted = 1 }
replied (Ok false) = record { number = 0; accepted = 0 }
replied (Err e) = record { number = number_of (Err e); accepted = 0 }

unfoldable pub reply_of : Plan → ℕ → ℕ → ℕ → Reply
reply_of p f l r =
    pick (eqb (cause_of p) 0) (record { number = 0; accepted = pick (theory.accepts p f l r) 1 0 }) (record { number = cause_of p; accepted = 0 })
