use mathlib.Core.Path.{sym, ◌∙◌}
use Rattle.sets.proofs.Bools.{pick_yes, pick_no}
use Rattle.quorum.proofs.place_sound.Goals as goal

pub returns-then-is_listed : goal.returns-then-is_listed
returns-then-is_listed c = c.others.ensures ∙ sym (pick_yes _ _ _ c.if-is_listed.true)

pub returns-else-is_listed : goal.returns-else-is_listed
returns-else-is_listed c = sym (pick_no _ _ _ c.if-is_listed.false)
