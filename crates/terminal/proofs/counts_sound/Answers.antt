use Prim.Native.Nat.{ℕ}
use mathlib.Core.Path.{◌≡◌, refl, sym, ap, ◌∙◌}
use mathlib.Core.Bool.{Bool}
use native.Mathlib.Nat.{not-suc-le-zero}
use native.Mathlib.Omega.{arith}
use borrow.Author.Count.{below_more}
use lib.Dec.{leb}
use lib.ListN.{length}
use Rattle.sets.specs.Tests.{◌implies◌}
use Rattle.sets.specs.Sets.{mem, all}
use Rattle.sets.proofs.Bools.{clash}
use Rattle.sets.proofs.Laws.{all_next, all_no}
use Rattle.terminal.specs.Shown.{note_of}
use Rattle.terminal.specs.Answer.{counts_sound}
use Rattle.terminal.proofs.counts_sound.Goals as goal

pub loop-j-init : goal.loop-j-init
unfolding all
loop-j-init c = (refl, λ i k. absurd (not-suc-le-zero k))

pub loop-j-preserved : goal.loop-j-preserved
loop-j-preserved c =
    let a = c.args in
    let l = c.loop-j in (
      all_next l.j (λ i. mem i a.heard implies leb (note_of a.notes.now i).count a.round) l.invariant.0
          (ap (λ (b : Bool). b implies leb (note_of a.notes.now l.j).count a.round) (sym c.member.ensures) ∙ sym c.count_sound.ensures.0 ∙ c.if-not-count_sound.false),
      below_more (λ (i : ℕ). length (note_of a.notes.now i).values ≡ 40) l.j l.invariant.1 c.count_sound.ensures.1,
    )

pub returns-then-not-count_sound : goal.returns-then-not-count_sound
unfolding counts_sound
returns-then-not-count_sound c =
    let a = c.args in
    let l = c.loop-j in (
      sym
          (all_no 20 (λ i. mem i a.heard implies leb (note_of a.notes.now i).count a.round) l.j (omega (arith, c.told-notes))
          (ap (λ (b : Bool). b implies leb (note_of a.notes.now l.j).count a.round) (sym c.member.ensures) ∙ sym c.count_sound.ensures.0 ∙ c.if-not-count_sound.true)),
      λ t. clash t refl,
    )

pub returns : goal.returns
unfolding counts_sound
returns c =
    let a = c.args in
    let l = c.loop-j in
    let e : l.j ≡ 20 = omega (arith, c.told-notes) in (
      sym (ap (λ (k : ℕ). all k (λ i. mem i a.heard implies leb (note_of a.notes.now i).count a.round)) (sym e) ∙ l.invariant.0),
      λ t. record { twenty = c.told-notes; forty = λ i k. l.invariant.1 i (omega arith) },
    )
