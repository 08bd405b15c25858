use Prim.Native.Nat.{ℕ, ◌<◌}
use mathlib.Core.Path.{◌≡◌, sym, ◌∙◌, subst}
use native.Mathlib.Omega.{arith}
use Rattle.sets.specs.Tests.{pick}
use Rattle.sets.specs.Sets.{mem, count, with}
use Rattle.sets.proofs.Bools.{pick_yes, pick_no}
use Rattle.plan.specs.Plan.{heard_by}
use Rattle.plan.proofs.Laws.{sound}
use Rattle.faults.proofs.Rows.{row_hears}
use Rattle.partition.proofs.Members.{less_by, less_fewer}
use Rattle.partition.proofs.Sweeps.{Sweeping, sweeping_start, looked_below, sweeping_next, sweeping_ends}
use Rattle.partition.proofs.search.sweep.Goals.{then-enough, else-enough}
use Rattle.partition.proofs.search.sweep.Goals as goal

pub loop-rest-init : goal.loop-rest-init
loop-rest-init c = sweeping_start _ _ _ _ c.requires c.outside-rest.ensures

pub offset_bounds-site-b : goal.offset_bounds-site-b
offset_bounds-site-b c = let s = sound _ c.args.site.now.sound in let k = looked_below _ s _ _ _ _ _ c.loop-rest.invariant c.highest-b.ensures in let t = s.twenty in omega arith

pub bounds-site-b : goal.bounds-site-b
bounds-site-b c = let s = sound _ c.args.site.now.sound in let k = looked_below _ s _ _ _ _ _ c.loop-rest.invariant c.highest-b.ensures in let t = s.twenty in omega arith

pub loop-rest-smaller : goal.loop-rest-smaller
loop-rest-smaller c = let s = sound _ c.args.site.now.sound in let a = c.args in let l = c.loop-rest in
    subst (λ (x : ℕ). count a.site.now.plan.n (λ i. mem i x) < count a.site.now.plan.n (λ i. mem i l.rest)) (sym (less_by l.rest c.highest-b.result _ c.singleton.ensures)) (less_fewer a.site.now.plan.n l.rest c.highest-b.result s.twenty l.invariant.rest_below c.highest-b.ensures)

-- who hears enough joins
joined : (c : goal.After-singleton) → c.if-enough.r ≡ pick c.enough.result (with 32 c.loop-rest.r c.highest-b.result) c.loop-rest.r
joined c =
    elim c.if-enough.branch [
      | then-enough w ↦ w.r-is ∙ w.with-r.ensures ∙ sym (pick_yes _ _ _ w.if-enough.true)
      | else-enough w ↦ w.r-is ∙ sym (pick_no _ _ _ w.if-enough.false)
    ]

pub loop-rest-preserved : goal.loop-rest-preserved
unfolding heard_by
loop-rest-preserved c = let s = sound _ c.args.site.now.sound in let a = c.args in let l = c.loop-rest in let m = c.highest-b.ensures in
    subst (Sweeping a.site.now.plan a.wall a.l c.if-enough.r) (sym (less_by l.rest c.highest-b.result _ c.singleton.ensures))
    (sweeping_next a.site.now.plan s a.wall a.l l.r l.rest c.highest-b.result l.invariant m _ _ (c.enough.ensures ∙ row_hears a.site.now.plan s l.r c.highest-b.result (looked_below a.site.now.plan s a.wall a.l l.r l.rest c.highest-b.result l.invariant m)) (joined c))

pub returns : goal.returns
returns c = sweeping_ends c.loop-rest.invariant c.loop-rest-test.false
