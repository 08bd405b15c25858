use mathlib.Core.Path.{◌≡◌, ap, ◌∙◌}
use lib.Bits.{bit_and}
use lib.Count.{ones}
use lib.Dec.{ltb}
use lib.ListN.{get_or}
use mir.Val.{Fits}
use mir.Syntax.{w32}
use borrow.Author.Rules.{rules}
use Rattle.sets.specs.Tests.{◌and◌}
use Rattle.sets.specs.Sets.{mem, count}
use Rattle.sets.proofs.Masks.{ones_and}
use Rattle.faults.specs.Rows.{over}
use Rattle.faults.proofs.over.Goals as goal

pub returns : goal.returns
unfolding over
returns c =
    let a = c.args in
    c.those.ensures (λ b. ltb a.f (count 32 (λ i. mem i (get_or a.rows b 0) and mem i a.a)))
    (λ b x k h.
    let row : Fits w32 (get_or a.rows b 0) = search rules in
    let heard : x ≡ ltb a.f (ones (bit_and (get_or a.rows b 0) a.a)) = search rules in
    heard ∙ ap (ltb a.f) (ones_and 32 _ _ row.fits))
