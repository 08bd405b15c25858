-- What refuses a head, and what an accepted frame keeps. Assumes nothing.
use Prim.Native.Nat.{ℕ, ◌-◌, ◌≤◌}
use Rattle.std.specs.Prelude.{Option, None}
use mathlib.Core.Path.{◌≡◌, refl, sym, ap, ◌∙◌}
use mathlib.Core.List.{[], ◌∷◌}
use mathlib.Core.Bool.{Bool, true, false}
use native.Mathlib.Omega.{arith}
use borrow.Author.Tests.{leb-true}
use Rattle.sets.specs.Tests.{pick}
use Rattle.sets.specs.Causes.{first_cause, given}
use Rattle.sets.proofs.Bools.{and_l, and_r, not_yes}
use Rattle.sets.proofs.Causes.{cause_later, cause_last}
use Rattle.quorum.specs.declared.BoundKind.{BoundKind}
use Rattle.quorum.specs.Quorum.{most_terminals, in_range}
use Rattle.quorum.specs.Words.{most_rounds}
use Rattle.quorum.proofs.Words.{start_parts}
use Rattle.lines.specs.declared.Frame.{Frame}
use Rattle.lines.specs.declared.Frame.TheVariants.{Foreign, Unknown, Head, Link, Group, Channel, FaultSet, Start, Later, Message, Broadcast}
use Rattle.frames.specs.declared.Stage.TheVariants.{Nothing}
use Rattle.frames.specs.declared.Heads.{Heads}
use Rattle.frames.specs.declared.Progress.{Progress}
use Rattle.frames.specs.Reading.{is_at, Lists, kind_read, rounds_of, head_cause, cause_in, untaken_cause, heads_cause, line_cause, linked, grouped, after}
use Rattle.frames.proofs.Limits.{limit_none}
use Rattle.frames.proofs.Keeps.{head_accepted, start_accepted}

-- a head in its place and in range, by the bound that it was found to mean
pub head_right : (p : Progress) (n source f : ℕ) (kind : BoundKind) → kind ≡ kind_read f → is_at Nothing p ≡ true → in_range n source kind ≡ true
    → head_cause p n source f ≡ 0
unfolding head_cause
head_right p n source f kind e stage h = cause_later _ _ _ (not_yes stage) ∙ cause_last _ _ (not_yes (sym (ap (in_range n source) e) ∙ h))

-- a head's line, by a reader that takes these
pub head_line_lem : (heads : Heads) (p : Progress) (said : Lists) (n source f : ℕ)
    → line_cause heads p said (Head n source f) ≡ first_cause (given (head_cause p n source f) ∷ given (untaken_cause heads n (kind_read f)) ∷ [])
unfolding line_cause cause_in heads_cause
head_line_lem heads p said n source f = refl

-- a start that gives no rounds
pub rounds_left : (n played : ℕ) (rounds : Option ℕ) → rounds ≡ None → played ≡ n - 1 → played ≡ rounds_of n rounds
rounds_left n played rounds e h = h ∙ sym (ap (rounds_of n) e)

-- a refused frame changes neither list
pub either : (b : Bool) (said : Lists) → said ≡ pick b said said
unfolding pick
either true said = refl
either false said = refl

-- an accepted frame leaves at most 20 terminals and 40 rounds
module _ (heads : Heads) (p : Progress) (said : Lists) (twenty : p.plan.n ≤ most_terminals) (forty : p.rounds ≤ most_rounds) where
  kept : (frame : Frame) → cause_in p said frame ≡ 0 → ((after p frame).plan.n ≤ most_terminals) × ((after p frame).rounds ≤ most_rounds)
  unfolding in_range after linked grouped
  kept Foreign h = (twenty, forty)
  kept Unknown h = (twenty, forty)
  kept (Head n source f) h = (leb-true n 20 (and_l _ _ (and_r _ _ (head_accepted p said n source f h).1)), omega arith)
  kept (Link from to) h = (twenty, omega arith)
  kept (Group s) h = (twenty, omega arith)
  kept (Channel layout) h = (twenty, omega arith)
  kept (FaultSet s) h = (twenty, omega arith)
  kept (Start form edition layout rounds) h = (twenty, (start_parts _ _ (start_accepted p said form edition layout rounds h).1).1)
  kept (Later round edition layout) h = (twenty, forty)
  kept (Message form round from to edition layout) h = (twenty, forty)
  kept (Broadcast round from layout) h = (twenty, forty)

  pub kept_next : (frame : Frame) (cause : ℕ) (next : Progress) → cause ≡ line_cause heads p said frame → cause ≡ 0 → next ≡ after p frame
      → (next.plan.n ≤ most_terminals) × (next.rounds ≤ most_rounds)
  kept_next frame cause next e z q = rw q (kept frame (limit_none heads p said frame (sym e ∙ z)).0)
