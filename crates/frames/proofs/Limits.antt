-- The causes of a line by a reader: those of its frame, and then what the reader has against a head. Assumes nothing.
use Prim.Native.Nat.{ℕ, ◌≤◌, ◌<◌}
use mathlib.Core.Path.{◌≡◌, refl, sym, ◌∙◌}
use mathlib.Core.Logic.{⊎_elim}
use mathlib.Core.Bool.{true, false}
use mathlib.Core.List.{[], ◌∷◌}
use native.Mathlib.Omega.{arith}
use borrow.Author.Tests.{lt-ltb, le-ltb, ltb-false}
use Rattle.sets.specs.Causes.{first_cause, given}
use Rattle.sets.proofs.Bools.{decide, and_i, and_yes, and_no_l, and_no_r, not_i, not_yes, not_no}
use Rattle.sets.proofs.Causes.{cause_here, cause_later, cause_last, cause_none, given_passes, given_decides, given_none}
use Rattle.sets.proofs.Laws.{equal_or_not}
use Rattle.quorum.specs.declared.BoundKind.{BoundKind}
use Rattle.lines.specs.declared.Frame.{Frame}
use Rattle.lines.specs.declared.Frame.TheVariants.{Foreign, Unknown, Head, Link, Group, Channel, FaultSet, Start, Later, Message, Broadcast}
use Rattle.frames.specs.declared.Heads.{Heads}
use Rattle.frames.specs.declared.Progress.{Progress}
use Rattle.frames.specs.Reading.{kind_read, lists, Lists, cause_in, untaken_cause, heads_cause, line_cause}

-- ---- a head in range

module _ (heads : Heads) (n : ℕ) (kind : BoundKind) where
  pub taken : n ≤ heads.most → (lists kind ≡ true → heads.groups ≡ true) → untaken_cause heads n kind ≡ 0
  unfolding untaken_cause
  taken m g =
      cause_later _ _ _ (le-ltb heads.most n m)
      ∙ cause_last _ _ (⊎_elim (λ t. and_no_r _ _ (not_yes (g t))) (λ t. and_no_l _ _ t) (decide (lists kind)))

  pub untaken_above : heads.most < n → untaken_cause heads n kind ≡ 14
  unfolding untaken_cause
  untaken_above m = cause_here _ _ _ (lt-ltb heads.most n m)

  pub untaken_grouped : n ≤ heads.most → heads.groups ≡ false → lists kind ≡ true → untaken_cause heads n kind ≡ 4
  unfolding untaken_cause
  untaken_grouped m g l = cause_later _ _ _ (le-ltb heads.most n m) ∙ cause_here _ _ _ (and_i _ _ l (not_i g))

  -- one that is taken is as the reader takes them
  pub taken_is : untaken_cause heads n kind ≡ 0 → (n ≤ heads.most) × (lists kind ≡ true → heads.groups ≡ true)
  unfolding untaken_cause
  taken_is h =
      let a = cause_none _ 14 _ (λ z. omega arith) h in
      let b = cause_none _ 4 _ (λ z. omega arith) a.1 in
      (ltb-false heads.most n a.0, λ t. not_no _ (sym (and_yes _ _ t) ∙ b.0))

-- ---- a line

-- a cause that was found before, and no other
pub given_alone : (number : ℕ) → first_cause (given number ∷ []) ≡ number
unfolding first_cause
given_alone number = ⊎_elim (λ z. given_passes number [] z ∙ sym z) (λ n. given_decides number [] n) (equal_or_not number 0)

module _ (heads : Heads) (p : Progress) (said : Lists) (frame : Frame) where
  pub limit_none : line_cause heads p said frame ≡ 0 → (cause_in p said frame ≡ 0) × (heads_cause heads frame ≡ 0)
  unfolding line_cause
  limit_none h = let a = given_none _ _ h in (a.0, (given_none _ _ a.1).0)

  -- the frame's own causes come first
  limit_refused : (cause_in p said frame ≡ 0 → ⊥) → line_cause heads p said frame ≡ cause_in p said frame
  unfolding line_cause
  limit_refused n = given_decides _ _ n

  pub limit_untaken : cause_in p said frame ≡ 0 → (heads_cause heads frame ≡ 0 → ⊥) → line_cause heads p said frame ≡ heads_cause heads frame
  unfolding line_cause
  limit_untaken z n = given_passes _ _ z ∙ given_decides _ _ n

  -- and are all, where the reader has nothing against it
  pub limit_below : heads_cause heads frame ≡ 0 → line_cause heads p said frame ≡ cause_in p said frame
  unfolding line_cause
  limit_below h =
      ⊎_elim (λ z. given_passes _ _ z ∙ given_alone _ ∙ h ∙ sym z) (λ n. given_decides _ _ n) (equal_or_not (cause_in p said frame) 0)

-- the reader takes every accepted head
abbrev pub Takes : Heads → Progress → Lists → Frame → Type 0
Takes heads p said frame = (n source f : ℕ) → frame ≡ Head n source f → cause_in p said (Head n source f) ≡ 0 → untaken_cause heads n (kind_read f) ≡ 0

head_taken : (heads : Heads) (p : Progress) (said : Lists) (frame : Frame) → Takes heads p said frame → cause_in p said frame ≡ 0 → heads_cause heads frame ≡ 0
unfolding heads_cause
head_taken heads p said Foreign h z = refl
head_taken heads p said Unknown h z = refl
head_taken heads p said (Head n source f) h z = h n source f refl z
head_taken heads p said (Link from to) h z = refl
head_taken heads p said (Group s) h z = refl
head_taken heads p said (Channel layout) h z = refl
head_taken heads p said (FaultSet s) h z = refl
head_taken heads p said (Start form edition layout rounds) h z = refl
head_taken heads p said (Later round edition layout) h z = refl
head_taken heads p said (Message form round from to edition layout) h z = refl
head_taken heads p said (Broadcast round from layout) h z = refl

pub limit_unless : (heads : Heads) (p : Progress) (said : Lists) (frame : Frame) → Takes heads p said frame
    → line_cause heads p said frame ≡ cause_in p said frame
limit_unless heads p said frame h =
    ⊎_elim (λ z. limit_below heads p said frame (head_taken heads p said frame h z)) (limit_refused heads p said frame)
    (equal_or_not (cause_in p said frame) 0)
