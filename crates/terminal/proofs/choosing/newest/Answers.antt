use Prim.Native.Nat.{ℕ, ◌^◌, ◌<◌}
use mathlib.Core.Path.{◌≡◌, sym, ap, ◌∙◌, subst}
use native.Mathlib.Omega.{arith}
use mir.Val.{Fits}
use mir.Syntax.{w32}
use mathlib.Core.List.{map}
use Rattle.sets.specs.Sets.{mem}
use Rattle.terminal.specs.Rule.{choice, newest, highest, qualifying}
use Rattle.terminal.specs.Shown.{values_in, spoken_in}
use Rattle.terminal.proofs.Editions.{Seen, seen_none, seen_past, seen_at, speakers_low, speakers_heard, layout_in_is}
use borrow.Author.Rules.{rules}
use Rattle.terminal.proofs.choosing.newest.Goals as goal

pub loop-j-init : goal.loop-j-init
loop-j-init c =
    let a = c.args in
    subst (Seen a.n a.source a.bound a.heard a.notes.now a.held 0 (record { edition = 0; layout = 0 })) (sym c.above-rest.ensures)
    (seen_none a.n a.source a.bound a.heard a.notes.now a.held)

pub loop-j-preserved-then-not-member : goal.loop-j-preserved-then-not-member
loop-j-preserved-then-not-member c =
    let a = c.args in
    let l = c.loop-j in
    seen_past a.n a.source a.bound a.heard a.notes.now a.held l.j l.best l.rest l.invariant c.loop-j-test.true (sym c.member.ensures ∙ c.if-not-member.true)

pub layout_in-requires : goal.layout_in-requires
layout_in-requires c =
    let a = c.args in
    let p = c.requires in (
      p.0,
      p.1,
      subst (λ (w : ℕ). w < 2 ^ a.n) (sym c.speakers-who.ensures) (speakers_low a.n a.notes.now a.heard _),
      p.2,
      λ j h. p.3 j (speakers_heard a.n a.heard a.notes.now _ j (ap (mem j) (sym c.speakers-who.ensures) ∙ h)),
    )

pub loop-j-preserved : goal.loop-j-preserved
loop-j-preserved c =
    let a = c.args in
    let l = c.loop-j in
    let low : Fits w32 c.speakers-who.result = search rules in
    seen_at a.n a.source a.bound a.heard a.notes.now a.held l.j l.best l.rest l.invariant c.loop-j-test.true c.requires.0
    c.speakers-who.result c.layout_in.result c.better-best.result
    (sym c.member.ensures ∙ c.if-not-member.false) low c.speakers-who.ensures
    (c.layout_in.ensures ∙ ap (λ (w : ℕ). choice a.n a.source a.bound w (map values_in a.notes.now)) c.speakers-who.ensures
    ∙ layout_in_is a.n a.source a.bound a.heard a.notes.now c.requires.1 _)
    c.better-best.ensures

pub returns : goal.returns
unfolding newest
returns c =
    let a = c.args in
    let l = c.loop-j in
    let e : l.j ≡ a.n = omega arith in (
      l.invariant.highest_is ∙ ap (λ (k : ℕ). highest k (qualifying a.n a.source a.bound a.heard (map spoken_in a.notes.now) a.held)) e,
      l.invariant.layout_is,
    )
