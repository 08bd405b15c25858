-- The second demand's round trip: an accepted file written again has the same head, links and groups, these in their order. Assumes nothing.
use Rattle.std.specs.Prelude.{ℕ, ◌≡◌, ◌↔◌, true, List, [], ◌∷◌, take}
use Rattle.sets.specs.Sets.{Terminal, Set}
use Rattle.quorum.specs.Quorum.{listed}
use Rattle.plan.specs.declared.Plan.{Plan}
use Rattle.plan.specs.Plan.{hears}
use Rattle.lines.specs.declared.Frame.TheVariants.{Head, Link}
use Rattle.lines.specs.Frames.{frame_of}
use Rattle.frames.specs.Lines.{Line, ended, cut, lines_from}
use Rattle.frames.specs.Reading.{plan_kinds, run_kinds, Reading, plan_reading, archive_reading, run_reading}
use Rattle.frames.specs.Tells.{Tells, groups_in}
use Rattle.writer.specs.Written.{bound_byte, plan_text}

-- the first line is the plan's head
abbrev pub Begins : (kinds : Set) → Plan → List Line → Type 0
Begins kinds p [] = ⊥
Begins kinds p (cut line ∷ rest) = ⊥
Begins kinds p (ended line ∷ rest) = frame_of kinds line ≡ Head p.n p.source (bound_byte p.bound.kind)

-- a file whose head, links and groups are the plan's
pub record Says (kinds : Set) (file : List ℕ) (p : Plan) : Type 0 where
  pub head : Begins kinds p (lines_from [] file)
  pub links : (a b : Terminal) → (hears p b a ≡ true) ↔ Tells kinds (Link a b) (lines_from [] file)
  pub groups : groups_in kinds (lines_from [] file) ≡ take (listed p.bound.kind) p.bound.groups

-- of an accepted file and the plan that was read: both the file and what is written of the plan say it, and the latter is read as the same plan
pub record Again (kinds : Set) (read : List ℕ → Reading) (file : List ℕ) (p : Plan) : Type 0 where
  pub before : Says kinds file p
  pub after : Says plan_kinds (plan_text p) p
  pub accepted : (read (plan_text p)).number ≡ 0
  pub same : (read (plan_text p)).progress.plan ≡ p

-- the claim about any file: what is written of an archived plan is read by the archive, and of the plan of `verdict` or `run` by the reader of new
-- plans
pub record RoundTrip (file : List ℕ) : Type 0 where
  pub of_archive : (archive_reading file).number ≡ 0 → Again plan_kinds archive_reading file (archive_reading file).progress.plan
  pub of_verdict : (plan_reading file).number ≡ 0 → Again plan_kinds plan_reading file (plan_reading file).progress.plan
  pub of_run : (run_reading file).number ≡ 0 → Again run_kinds plan_reading file (run_reading file).progress.plan
