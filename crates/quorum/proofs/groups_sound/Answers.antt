use Prim.Native.Nat.{ℕ}
use mathlib.Core.Path.{sym, ap, ◌∙◌}
use lib.Dec.{eqb, ltb}
use lib.ListN.{get_or}
use Rattle.sets.specs.Tests.{pick}
use Rattle.sets.specs.Sets.{all}
use Rattle.sets.proofs.Bools.{and_yes, and_no_l}
use Rattle.quorum.specs.Quorum.{others, group_at, groups_sound}
use Rattle.quorum.proofs.groups_sound.Goals as goal

pub returns-then-listed_sound : goal.returns-then-listed_sound
unfolding groups_sound group_at
returns-then-listed_sound c =
    let a = c.args in
    c.places_sound.ensures
    ∙ ap (λ (k : ℕ). all 16 (λ i. pick (ltb i k) (others a.n a.source (get_or a.bound.groups i 0)) (eqb (get_or a.bound.groups i 0) 0))) c.listed.ensures
    ∙ sym (and_yes _ _ (sym c.listed_sound.ensures ∙ c.if-listed_sound.true))

pub returns-else-listed_sound : goal.returns-else-listed_sound
unfolding groups_sound group_at
returns-else-listed_sound c = c.if-listed_sound.false ∙ sym (and_no_l _ _ (sym c.listed_sound.ensures ∙ c.if-listed_sound.false))
