use mathlib.Core.Path.{sym, ap, ◌∙◌, subst}
use Prim.Native.Nat.{ℕ, ◌<◌, ◌^◌}
use native.Mathlib.Nat.{lt_of_le_of_lt}
use Rattle.sets.specs.Sets.{mem}
use Rattle.closure.specs.Closure.{reached}
use Rattle.partition.proofs.Members.{less_le, less_by}
use Rattle.partition.proofs.groups.reaches.Goals as goal

pub reach-requires : goal.reach-requires
reach-requires c = let a = c.args in subst (λ (x : ℕ). x < 2 ^ a.site.now.plan.n) (sym (less_by a.all a.b _ c.singleton.ensures)) (lt_of_le_of_lt (less_le a.all a.b) c.requires)

pub returns : goal.returns
returns c = let a = c.args in c.member.ensures ∙ ap (mem a.b) c.reach.ensures ∙ ap (λ (x : ℕ). mem a.b (reached a.site.now.plan x)) (less_by a.all a.b _ c.singleton.ensures)
