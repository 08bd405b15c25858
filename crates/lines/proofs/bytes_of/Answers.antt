use Prim.Native.Nat.{ℕ, ◌+◌, ◌%◌, ◌<◌}
use mathlib.Core.Path.{◌≡◌, refl, sym, subst, ◌∙◌}
use mathlib.Core.List.{List}
use native.Mathlib.Omega.{arith}
use lib.ListN.{length}
use borrow.Author.Tests.{le-leb, lt-leb, eq-eqb, eqb-true, eqb-false, ne_eqb}
use Rattle.sets.proofs.Bools.{and_i, and_no_l, and_no_r}
use Rattle.digits.proofs.Laws.{out_after_in, digit_yes, digit_no}
use Rattle.lines.specs.Bytes.{well_formed}
use Rattle.lines.proofs.ByteLaws.{digits_turn, digits_stop, digits_end, said, Held, start_held, grown_held, kept_held, end_held}
use Rattle.lines.proofs.bytes_of.Goals as goal
use Rattle.lines.proofs.bytes_of.Goals.{then-is_empty-via-then-is_empty, then-is_empty-via-else-is_empty+then-line-eq1, then-at-lt-MOST, else-at-lt-MOST}

pub returns-then-is_empty : goal.returns-then-is_empty
unfolding well_formed
returns-then-is_empty c =
    let n = length c.args.line.now in
    elim c.then-is_empty.branch [
      | then-is_empty-via-then-is_empty w ↦
          let none = eqb-true n 0 (sym c.is_empty.ensures ∙ w.if-is_empty.true) in
          and_no_l _ _ (lt-leb 1 n (omega arith))
      | then-is_empty-via-else-is_empty+then-line-eq1 w ↦ and_no_r _ _ (and_no_l _ _ (ne_eqb (n % 2) 0 (λ z. omega arith)))
    ]

pub loop-i-init : goal.loop-i-init
loop-i-init c = (refl, start_held _)

pub returns-in_err-value : goal.returns-in_err-value
unfolding well_formed
returns-in_err-value c =
    let none = c.loop-i.invariant.0 ∙ digits_stop _ _ c.loop-i-test.true (digit_no _ (sym c.in_err-value.ensures)) in
    rw c.from_residual.ensures (and_no_r _ _ (and_no_r _ _ none))

pub overflow_add-first : goal.overflow_add-first
overflow_add-first c =
    let small : c.in_ok-value.value < 16 = (out_after_in _ _ (sym c.in_ok-value.ensures)).0 in
    omega arith

pub loop-i-preserved : goal.loop-i-preserved
loop-i-preserved c =
    let line = c.args.line.now in
    let l = c.loop-i in
    let read = sym c.in_ok-value.ensures in
    let Next : List ℕ → Type 0 = Held line (l.i + 1) in (
      l.invariant.0 ∙ digits_turn _ _ c.loop-i-test.true (digit_yes _ _ read),
      elim c.if-at-lt-MOST.branch [
        | then-at-lt-MOST w ↦ subst Next (sym w.first-is) (grown_held line l.first l.i _ l.invariant.1 w.if-at-lt-MOST.true (said line l.i _ read))
        | else-at-lt-MOST w ↦ subst Next (sym w.first-is) (kept_held line l.first l.i l.invariant.1 w.if-at-lt-MOST.false)
      ],
    )

pub returns : goal.returns
unfolding well_formed
returns c =
    let line = c.args.line.now in
    let l = c.loop-i in
    let some = eqb-false (length line) 0 (sym c.is_empty.ensures ∙ c.if-is_empty.false) in
    let even : length line % 2 ≡ 0 = omega arith in
    let end : l.i ≡ length line = omega arith in (
      and_i _ _ (le-leb 1 (length line) (omega arith)) (and_i _ _ (eq-eqb (length line % 2) 0 even) (l.invariant.0 ∙ digits_end _ _ c.loop-i-test.false)),
      end_held line l.first l.i l.invariant.1 end even,
    )
