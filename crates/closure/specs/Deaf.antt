-- The verdict on a plan with a deaf terminal (document 02, P6). Assumes nothing.
use Rattle.std.specs.Prelude.{◌≡◌, true, false}
use Rattle.sets.specs.Sets.{Terminal, mem}
use Rattle.plan.specs.declared.Plan.{Plan}
use Rattle.plan.specs.Deaf.{deaf_set}
use Rattle.closure.specs.Verdict.{verdict}

-- it fails with F empty, and every deaf terminal is in R
pub record DeafFails (p : Plan) : Type 0 where
  pub failed : (verdict p).passed ≡ false
  pub nobody_bad : (verdict p).f ≡ 0
  pub cut_off : (b : Terminal) → mem b (deaf_set p) ≡ true → mem b (verdict p).r ≡ true
