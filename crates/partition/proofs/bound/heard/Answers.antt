use mathlib.Core.Path.{sym, ◌∙◌, subst}
use Rattle.partition.specs.Search.{Heard}
use Rattle.partition.proofs.Lows.{heard_none, heard_more}
use Rattle.partition.proofs.bound.heard.Goals.{then-member, else-member}
use Rattle.partition.proofs.bound.heard.Goals as goal

pub loop-b-init : goal.loop-b-init
loop-b-init c = heard_none c.args.rows c.args.s

pub loop-b-preserved : goal.loop-b-preserved
loop-b-preserved c =
    let a = c.args in
    elim c.if-member.branch [
      | then-member w ↦ subst (Heard a.rows a.s) (sym w.found-is) (heard_more a.rows a.s _ _ c.loop-b-test.true (sym c.member.ensures ∙ w.if-member.true) c.loop-b.invariant)
      | else-member w ↦ subst (Heard a.rows a.s) (sym w.found-is) c.loop-b.invariant
    ]
