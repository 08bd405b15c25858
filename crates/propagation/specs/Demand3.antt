-- The third demand of the mission as one claim about a plan, as document 02, P8, restates it: for every office whose editions rise, fault set, script and
-- number of rounds, from the start records. Where nothing is issued after the start it is the demand of document 01. Assumes nothing.
use Rattle.std.specs.Prelude.{ℕ, suc, ◌+◌, ◌-◌, ◌≤◌, ◌<◌, ◌≡◌, ◌↔◌, true, false}
use Rattle.sets.specs.Sets.{mem}
use Rattle.quorum.specs.Notice.{silent}
use Rattle.terminal.specs.declared.State.TheVariants.{Waiting, Taken}
use Rattle.terminal.specs.Rule.{held_by}
use Rattle.plan.specs.declared.Plan.{Plan}
use Rattle.closure.specs.FaultSet.{is_fault_set}
use Rattle.closure.specs.Verdict.{verdict, accepts}
use Rattle.propagation.specs.Run.{Script, Silent, Office, one_notice, last_issued, Issued, Rising, Quiet, site}

-- a good terminal of the plan is one outside the fault set
abbrev pub Good : Plan → ℕ → ℕ → Type 0
Good p faulty b = (b < p.n) × (mem b faulty ≡ false)

-- some fault set and some script leave a good terminal waiting after n - 1 rounds
abbrev pub LeavesWaiting : Plan → ℕ → Type 0
LeavesWaiting p notice =
    (faulty : ℕ) × (script : Script) × (b : ℕ)
    × (is_fault_set p faulty ≡ true) × Good p faulty b × ((site p faulty (one_notice notice) script (p.n - 1) b).state ≡ Waiting)

-- a notice that was taken in a round had been issued by then: the source's own in that round at the latest, anybody else's before it
pub record IssuedByThen (p : Plan) (office : Office) (b at x : ℕ) : Type 0 where
  pub at_source : Issued office at x
  pub elsewhere : (b ≡ p.source → ⊥) → (q : ℕ) × (at ≡ suc q) × Issued office q x

pub record Demand3 (p : Plan) : Type 0 where
  -- no good terminal ever holds a notice that the office hasn't issued by then
  pub issued : (office : Office) → Rising office → (faulty : ℕ) → is_fault_set p faulty ≡ true → (script : Script)
      → (r b : ℕ) → Good p faulty b → (at x : ℕ) → (site p faulty office script r b).state ≡ Taken at x → (at ≤ r) × IssuedByThen p office b at x
  -- in a passed plan the last notice, where nothing is issued for the n - 1 rounds after it, is held by every good terminal
  pub last : (verdict p).passed ≡ true → (office : Office) → Rising office → (faulty : ℕ) → is_fault_set p faulty ≡ true → (script : Script)
      → (q r b : ℕ) → q + (p.n - 1) ≤ r → Quiet office q r → Good p faulty b
      → (at : ℕ) × ((site p faulty office script r b).state ≡ Taken at (last_issued office q))
  -- the edition that a good terminal holds never falls
  pub editions : (office : Office) → Rising office → (faulty : ℕ) → is_fault_set p faulty ≡ true → (script : Script)
      → (r b : ℕ) → Good p faulty b → held_by (site p faulty office script r b).state ≤ held_by (site p faulty office script (suc r) b).state
  -- where nothing is issued after the start: no good terminal holds another notice than the first
  pub safe : (office : Office) → Rising office → (faulty : ℕ) → is_fault_set p faulty ≡ true → (script : Script)
      → (r b : ℕ) → Quiet office 0 r → Good p faulty b → (at x : ℕ) → (site p faulty office script r b).state ≡ Taken at x → x ≡ office.first
  -- and in a passed plan none waits after n - 1 rounds or more
  pub passes : (verdict p).passed ≡ true → (office : Office) → Rising office → (faulty : ℕ) → is_fault_set p faulty ≡ true → (script : Script)
      → (r b : ℕ) → p.n - 1 ≤ r → Quiet office 0 r → Good p faulty b → (site p faulty office script r b).state ≡ Waiting → ⊥
  -- a plan fails exactly if some choice leaves a good terminal waiting
  pub fails : (notice : ℕ) → silent notice ≡ false → ((verdict p).passed ≡ false) ↔ LeavesWaiting p notice
  -- what a fail lists is a witness: F is a fault set, R is not empty, and the check accepts the three
  pub witness : (verdict p).passed ≡ false → accepts p (verdict p).f (verdict p).l (verdict p).r ≡ true
  -- the listed terminals, by silence alone, keep the named ones waiting for ever, whatever the office issues
  pub silent : (verdict p).passed ≡ false → (office : Office) → (script : Script) → (r b : ℕ) → Silent p (verdict p).f r script
      → b < p.n → mem b (verdict p).r ≡ true → (site p (verdict p).f office script r b).state ≡ Waiting
  -- and so do those of whatever partition the witness check accepts
  pub accepted : (f l r : ℕ) → accepts p f l r ≡ true → (office : Office) → (script : Script) → (k b : ℕ) → Silent p f k script
      → b < p.n → mem b r ≡ true → (site p f office script k b).state ≡ Waiting
