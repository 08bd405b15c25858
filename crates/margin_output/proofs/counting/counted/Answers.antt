use Prim.Native.Nat.{ℕ}
use mathlib.Core.Path.{◌≡◌, refl, ap, ◌∙◌}
use native.Mathlib.Omega.{arith}
use Rattle.margin_output.specs.Counts.{standing_in, tally_of}
use Rattle.margin_output.proofs.TableLaws.{tally_start, tally_next, tally_few}
use Rattle.margin_output.proofs.counting.counted.Goals as goal

pub loop-standing-init : goal.loop-standing-init
loop-standing-init c = tally_start (standing_in c.args.places)

pub with_one-t-requires : goal.with_one-t-requires
with_one-t-requires c = let turn = c.loop-standing in let few = tally_few _ _ _ turn.invariant in (omega (arith, few.0), omega (arith, few.1), omega (arith, few.2), omega (arith, few.3))

pub loop-standing-preserved : goal.loop-standing-preserved
loop-standing-preserved c = let turn = c.loop-standing in tally_next turn.standing-index (standing_in c.args.places) _ _ _ refl turn.invariant c.with_one-t.ensures

pub returns : goal.returns
returns c = let turn = c.loop-standing in let e : turn.standing-index ≡ 20 = omega arith in turn.invariant ∙ ap (λ (k : ℕ). tally_of k (standing_in c.args.places)) e
