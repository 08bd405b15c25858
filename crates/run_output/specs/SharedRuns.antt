-- Runs on a shared channel (document 02, P11), of what `run` prints: the lines are those of the run by the rules, and where the plan passes and n - 1 rounds
-- or more are played, every good terminal's line says that it has taken the same layout. Assumes nothing.
use Rattle.std.specs.Prelude.{ℕ, ◌-◌, ◌≤◌, ◌≡◌, true, List}
use Rattle.quorum.specs.Notice.{notice_of, layout_of}
use Rattle.terminal.specs.declared.State.TheVariants.{Taken}
use Rattle.closure.specs.Verdict.{verdict}
use Rattle.propagation.specs.Demand3.{Good}
use Rattle.propagation.specs.Channel.{carried}
use Rattle.lines.specs.declared.Form.TheVariants.{Old}
use Rattle.frames.specs.declared.Progress.{Progress}
use Rattle.frames.specs.Reading.{is_shared, run_reading}
use Rattle.run_output.specs.Site.{site_lines, shared_read, state_ran, run_text}

-- what the source of an accepted file carried into round 1
unfoldable pub carried_in : Progress → (words : List ℕ) → ℕ
carried_in p words = carried p.plan p.faulty (layout_of p.notice) p.default (shared_read p words)

pub record SharedRuns (file : List ℕ) : Type 0 where
  -- the printed lines are those of the terminals' states, in the old form
  pub lines : (run_reading file).number ≡ 0 → is_shared (run_reading file).progress ≡ true
      → run_text file ≡ site_lines Old (run_reading file).progress.plan.n (run_reading file).progress.faulty (state_ran (run_reading file).progress (run_reading file).said)
  -- and all good terminals have taken what the source carried
  pub agree : (run_reading file).number ≡ 0 → is_shared (run_reading file).progress ≡ true → (verdict (run_reading file).progress.plan).passed ≡ true
      → (run_reading file).progress.plan.n - 1 ≤ (run_reading file).progress.rounds
      → (b : ℕ) → Good (run_reading file).progress.plan (run_reading file).progress.faulty b
      → (at : ℕ) × (state_ran (run_reading file).progress (run_reading file).said b ≡ Taken at (notice_of 1 (carried_in (run_reading file).progress (run_reading file).said.words)))
