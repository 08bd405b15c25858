-- The quoting desk's answer beside the planner's (document 02, P5). Assumes nothing.
use Rattle.std.specs.Prelude.{◌≡◌, true, false}
use Rattle.plan.specs.declared.Plan.{Plan}
use Rattle.plan.specs.Plan.{most_quoted, too_many}
use Rattle.closure.specs.Answer.{refused, answer_of, quote_of}

-- of any plan record: where n, source and bound are in range and n is above 12, the quote is refused by 14, as no verdict is; elsewhere the two are the same
pub record Quoted (p : Plan) : Type 0 where
  pub above : too_many most_quoted p ≡ true → quote_of p ≡ refused 14
  pub never : (answer_of p).number ≡ 14 → ⊥
  pub alike : too_many most_quoted p ≡ false → quote_of p ≡ answer_of p
