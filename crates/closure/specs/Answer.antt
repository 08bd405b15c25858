-- What the verdict answers for any plan record: document 01's number of a refusal, or the theory's verdict. Assumes nothing.
use Rattle.std.specs.Prelude.{ℕ, eqb}
use Rattle.sets.specs.Tests.{pick}
use Rattle.quorum.specs.Quorum.{most_terminals}
use Rattle.plan.specs.declared.Plan.{Plan}
use Rattle.plan.specs.Plan.{most_quoted, cause_within}
use Rattle.closure.specs.Verdict.{Verdict, verdict}

-- the number of a refusal (0 where nothing is refused), 1 for a fail, and F, L, R: a pass and a refused call have only zeros there
pub record Answer : Type 0 where
  pub number : ℕ
  pub failed : ℕ
  pub f : ℕ
  pub l : ℕ
  pub r : ℕ

abbrev pub refused : ℕ → Answer
refused cause = record { number = cause; failed = 0; f = 0; l = 0; r = 0 }

-- the theory's verdict on a sound plan
unfoldable pub judged : Verdict → Answer
judged v = record { number = 0; failed = pick v.passed 0 1; f = v.f; l = v.l; r = v.r }

-- it, or else the cause, for whoever may send at most so many terminals (document 02, P5)
unfoldable pub answer_within : (most : ℕ) → Plan → Answer
answer_within most p = pick (eqb (cause_within most p) 0) (judged (verdict p)) (refused (cause_within most p))

-- for the planner, and for the quoting desk
unfoldable pub answer_of : Plan → Answer
answer_of p = answer_within most_terminals p

unfoldable pub quote_of : Plan → Answer
quote_of p = answer_within most_quoted p
