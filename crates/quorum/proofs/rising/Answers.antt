use Prim.Native.Nat.{ℕ, ◌+◌}
use mathlib.Core.Path.{refl, sym, ap, ◌∙◌}
use native.Mathlib.Omega.{arith}
use lib.ListN.{drop, drop_of_length-le}
use Rattle.quorum.specs.Notice.{rising}
use Rattle.quorum.proofs.Notices.{rising_past, rising_next, rising_ends}
use Rattle.quorum.proofs.rising.Goals.{then-not-silent+else-edition-last, else-not-silent}
use Rattle.quorum.proofs.rising.Goals as goal

pub returns-then-edition-last : goal.returns-then-edition-last
returns-then-edition-last c =
    let l = c.loop-notice in
    sym (sym l.invariant ∙ rising_ends l.last l.notice-index _ c.loop-notice-test.true (sym c.silent.ensures ∙ c.if-not-silent.true)
    (let e = c.edition_of-edition.ensures in let t = c.if-edition-last.true in omega arith))

pub loop-notice-preserved : goal.loop-notice-preserved
loop-notice-preserved c =
    let l = c.loop-notice in
    let left = drop (l.notice-index + 1) c.args.later.now in
    elim c.if-not-silent.branch [
      | then-not-silent+else-edition-last w ↦
          ap (λ (k : ℕ). rising k left) (w.last-is ∙ w.edition_of-edition.ensures)
          ∙ sym (rising_next l.last l.notice-index _ c.loop-notice-test.true (sym c.silent.ensures ∙ w.if-not-silent.true)
          (let e = w.edition_of-edition.ensures in let t = w.if-edition-last.false in omega arith)) ∙ l.invariant
      | else-not-silent w ↦
          ap (λ (k : ℕ). rising k left) w.last-is
          ∙ sym (rising_past l.last l.notice-index _ c.loop-notice-test.true (sym c.silent.ensures ∙ w.if-not-silent.false)) ∙ l.invariant
    ]

pub returns : goal.returns
unfolding rising
returns c = let l = c.loop-notice in sym (sym l.invariant ∙ ap (rising l.last) (drop_of_length-le c.args.later.now {i = l.notice-index} c.loop-notice-test.false))
