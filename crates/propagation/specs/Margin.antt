-- What a margin tells of runs (document 02, P1). Assumes nothing.
use Rattle.std.specs.Prelude.{ℕ, ◌+◌, ◌-◌, ◌≤◌, ◌<◌, ◌≡◌, ◌↔◌, true, false, not, pos, ◌+ℤ◌}
use Rattle.std.specs.Int.Signed.{lt_z, le_z}
use Rattle.sets.specs.Tests.{◌and◌}
use Rattle.sets.specs.Sets.{mem, count}
use Rattle.quorum.specs.Notice.{Notice, silent}
use Rattle.terminal.specs.declared.State.TheVariants.{Waiting}
use Rattle.terminal.specs.Rule.{View, holds}
use Rattle.plan.specs.declared.Plan.{Plan}
use Rattle.plan.specs.Plan.{hears}
use Rattle.closure.specs.FaultSet.{is_fault_set}
use Rattle.closure.specs.Margin.{leaves_good, margin, has_margin}
use Rattle.propagation.specs.Run.{Script, Silent, Office, one_notice, Rising, Quiet, site}
use Rattle.propagation.specs.Demand3.{Good}

-- from how many good neighbours a terminal b has noted a notice, by its record
unfoldable pub noted_from : Plan → (faulty b : ℕ) (notice : Notice) → View → ℕ
noted_from p faulty b notice r = count p.n (λ j. hears p b j and not (mem j faulty) and holds r notice j)

-- of a plan with a bound f
pub record MarginsHold (p : Plan) (f : ℕ) : Type 0 where
  -- the fitter's sentence: after n rounds or more, under any fault set that leaves it good and any script, where nothing is issued after the start, a terminal
  -- with margin m has noted the notice from at least m + f + 1 good neighbours
  pub at_least : (office : Office) → Rising office → (faulty b : ℕ) → b < p.n → (b ≡ p.source → ⊥) → leaves_good p b faulty ≡ true
      → (script : Script) (r : ℕ) → p.n ≤ r → Quiet office 0 r
      → le_z (margin p b +ℤ pos (f + 1)) (pos (noted_from p faulty b office.first (site p faulty office script r b))) ≡ true
  -- and some fault set's silence gives it exactly that many
  pub exactly : (b : ℕ) → b < p.n → (b ≡ p.source → ⊥)
      → (faulty : ℕ) × (leaves_good p b faulty ≡ true)
      × ((office : Office) → Rising office → (script : Script) (r : ℕ) → p.n ≤ r → Quiet office 0 r → Silent p faulty r script
      → pos (noted_from p faulty b office.first (site p faulty office script r b)) ≡ margin p b +ℤ pos (f + 1))
  -- below zero exactly if some fault set and script leave it waiting after n - 1 rounds
  pub waits : (notice b : ℕ) → silent notice ≡ false → b < p.n → has_margin p b ≡ true
      → (lt_z (margin p b) (pos 0) ≡ true)
      ↔ ((faulty : ℕ) × (script : Script)
      × (is_fault_set p faulty ≡ true) × Good p faulty b × ((site p faulty (one_notice notice) script (p.n - 1) b).state ≡ Waiting))
  -- and exactly if some fault set, by silence alone, keeps it waiting for ever, whatever the office issues
  pub for_ever : (b : ℕ) → b < p.n → has_margin p b ≡ true
      → (lt_z (margin p b) (pos 0) ≡ true)
      ↔ ((faulty : ℕ) × (is_fault_set p faulty ≡ true) × Good p faulty b
      × ((office : Office) (script : Script) (r : ℕ) → Silent p faulty r script → (site p faulty office script r b).state ≡ Waiting))
