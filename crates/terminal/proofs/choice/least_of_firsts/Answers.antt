use mir.Val.{Fits}
use mir.Syntax.{w32}
use Prim.Native.Nat.{ℕ}
use mathlib.Core.Path.{◌≡◌, sym, ap, ◌∙◌}
use native.Mathlib.Omega.{arith}
use borrow.Author.Rules.{rules}
use Rattle.terminal.specs.Rule.{least}
use Rattle.terminal.specs.Votes.{from_first}
use Rattle.terminal.proofs.Search.{looked_none, looked_past, looked_at}
use Rattle.terminal.proofs.choice.least_of_firsts.Goals as goal

pub loop-j-init : goal.loop-j-init
loop-j-init c = looked_none _ _ _ _ _ _

pub loop-j-preserved-then-not-member : goal.loop-j-preserved-then-not-member
loop-j-preserved-then-not-member c =
    let a = c.args in
    let l = c.loop-j in
    looked_past a.n a.bound a.notes.now a.first.now.values a.first.now.single a.first.now.fickle l.j l.best l.rest l.invariant c.loop-j-test.true
    (sym c.member.ensures ∙ c.if-not-member.true)

pub loop-j-preserved : goal.loop-j-preserved
loop-j-preserved c =
    let a = c.args in
    let l = c.loop-j in
    let low : Fits w32 c.same-who.result = search rules in
    let e = c.lesser-best.ensures in
    rw e (looked_at a.n a.bound a.notes.now a.first.now.values a.first.now.single a.first.now.fickle l.j l.best l.rest l.invariant c.loop-j-test.true c.requires.0
    c.same-who.result c.judged.result (sym c.member.ensures ∙ c.if-not-member.false) low c.same-who.ensures c.judged.ensures)

pub returns : goal.returns
returns c =
    let a = c.args in
    let e : c.loop-j.j ≡ a.n = omega arith in
    c.loop-j.invariant.least_is ∙ ap (λ (k : ℕ). least k (from_first a.n a.bound a.notes.now a.first.now.values a.first.now.single a.first.now.fickle)) e
