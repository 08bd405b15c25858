-- A reader of plan files that takes no head with groups, beside the one that takes all heads, and the plans that it reads; for the reader of margins and
-- that of drawings. Assumes nothing.
use Prim.Native.Nat.{ℕ}
use mathlib.Core.Path.{◌≡◌, refl, ap}
use mathlib.Core.Bool.{Bool, true, false}
use mathlib.Core.List.{List}
use native.Mathlib.Omega.{arith}
use borrow.Author.Tests.{leb-true}
use Rattle.sets.proofs.Bools.{clash, and_l, and_r, no_by}
use Rattle.quorum.specs.declared.Bound.{Bound}
use Rattle.quorum.specs.declared.BoundKind.{BoundKind}
use Rattle.quorum.specs.declared.BoundKind.TheVariants.{Most, Groups}
use Rattle.quorum.specs.Quorum.{most_terminals, no_groups, at_most, in_range}
use Rattle.lines.specs.declared.Frame.{Frame}
use Rattle.lines.specs.declared.Frame.TheVariants.{Foreign, Unknown, Head, Link, Group, Channel, FaultSet, Start, Later, Message, Broadcast}
use Rattle.frames.specs.declared.Heads.{Heads}
use Rattle.frames.specs.declared.Progress.{Progress}
use Rattle.frames.specs.Reading.{all_heads, kind_read, lists, Lists, cause_in, untaken_cause, heads_cause, linked, after, refusal, reading}
use Rattle.frames.specs.Margins.{groups_listed, file_grouped}
use Rattle.frames.proofs.Limits.{taken, untaken_grouped, taken_is}
use Rattle.frames.proofs.Keeps.{group_accepted}
use Rattle.frames.proofs.Taking.{reading_takes, reader_of, file_untaken, file_alike}

abbrev groupless : Heads
groupless = record { most = most_terminals; groups = false }

-- ---- the plans that it reads have a bound f

abbrev Bounded : Bound → Type 0
Bounded bound = (f : ℕ) × (bound ≡ at_most f)

kind_bounded : (kind : BoundKind) → lists kind ≡ false → Bounded (record { kind = kind; groups = no_groups })
kind_bounded (Most f) h = (f, refl)
kind_bounded (Groups count) h = clash refl h

-- so none lists groups
bound_lists : (bound : Bound) → Bounded bound → lists bound.kind ≡ false
bound_lists bound b = ap (λ (x : Bound). lists x.kind) b.1

frame_bounded : (p : Progress) (said : Lists) (frame : Frame) → Bounded p.plan.bound → cause_in p said frame ≡ 0 → heads_cause groupless frame ≡ 0
    → Bounded (after p frame).plan.bound
unfolding heads_cause after linked
frame_bounded p said Foreign i z h = i
frame_bounded p said Unknown i z h = i
frame_bounded p said (Head n source f) i z h = kind_bounded (kind_read f) (no_by (λ t. clash ((taken_is groupless n (kind_read f) h).1 t) refl))
frame_bounded p said (Link from to) i z h = i
frame_bounded p said (Group s) i z h = clash (group_accepted p said s z).2 (bound_lists p.plan.bound i)
frame_bounded p said (Channel layout) i z h = i
frame_bounded p said (FaultSet s) i z h = i
frame_bounded p said (Start form edition layout rounds) i z h = i
frame_bounded p said (Later round edition layout) i z h = i
frame_bounded p said (Message form round from to edition layout) i z h = i
frame_bounded p said (Broadcast round from layout) i z h = i

-- ---- the heads that it does not take

module _ (n source : ℕ) (kind : BoundKind) (r : in_range n source kind ≡ true) where
  grouped_refused : groups_listed n kind ≡ true → untaken_cause groupless n kind ≡ 4
  unfolding in_range
  grouped_refused h = untaken_grouped groupless n kind (leb-true n most_terminals (and_l _ _ (and_r _ _ r))) refl h

  bounded_taken : groups_listed n kind ≡ false → untaken_cause groupless n kind ≡ 0
  unfolding in_range
  bounded_taken h = taken groupless n kind (leb-true n most_terminals (and_l _ _ (and_r _ _ r))) (λ t. clash t h)

-- ---- the file

module _ (archive : Bool) (text : List ℕ) where
  pub text_grouped : file_grouped text ≡ true → reading (reader_of archive groupless) text ≡ refusal 4 1
  unfolding file_grouped
  text_grouped h = file_untaken archive groupless groups_listed 4 (λ z. omega arith) grouped_refused bounded_taken text h

  pub text_alike : file_grouped text ≡ false → reading (reader_of archive groupless) text ≡ reading (reader_of archive all_heads) text
  unfolding file_grouped
  text_alike h = file_alike archive groupless groups_listed 4 (λ z. omega arith) grouped_refused bounded_taken text h

  pub text_bounded : (reading (reader_of archive groupless) text).number ≡ 0 → Bounded (reading (reader_of archive groupless) text).progress.plan.bound
  text_bounded h = reading_takes (reader_of archive groupless) (λ (p : Progress). Bounded p.plan.bound) frame_bounded text (0, refl) h
