-- The groups of an accepted file's plan are those of its lines, in their order. Assumes nothing.
use Prim.Native.Nat.{ℕ, ◌+◌, ◌<◌}
use mathlib.Core.Path.{◌≡◌, refl, sym, ap, ◌∙◌}
use mathlib.Core.List.{List, [], ◌∷◌, ◌++◌, append-nil}
use native.Mathlib.Numerals.{add-one}
use native.Mathlib.Omega.{arith}
use lib.ListN.{length, set, take, length-set, length-replicate}
use lib.Seq.{take-suc-set, append_snoc}
use Rattle.sets.specs.Sets.{Set}
use Rattle.quorum.specs.Quorum.{no_groups, listed}
use Rattle.plan.specs.declared.Plan.{Plan}
use Rattle.lines.specs.declared.Frame.{Frame}
use Rattle.lines.specs.declared.Frame.TheVariants.{Foreign, Unknown, Head, Link, Group, Channel, FaultSet, Start, Later, Message, Broadcast}
use Rattle.lines.specs.Frames.{frame_of}
use Rattle.frames.specs.declared.Progress.{Progress}
use Rattle.frames.specs.declared.Reader.{Reader}
use Rattle.frames.specs.Lines.{Line, ended, cut, lines_from}
use Rattle.frames.specs.Reading.{stage_of, nothing_read, Lists, nothing_said, kind_read, cause_in, linked, grouped, after, said_after, Reading, told, reading}
use Rattle.frames.specs.Tells.{group_before, groups_in}
use Rattle.frames.proofs.Built.{none_listed}
use Rattle.frames.proofs.Keeps.{head_accepted, group_accepted, frame_stage, line_read, end_read, text_read}

-- the groups that are listed
abbrev pub groups_of : Plan → List Set
groups_of p = take (listed p.bound.kind) p.bound.groups

-- sixteen places, and nothing is listed before the head
pub record Open (p : Progress) : Type 0 where
  pub places : length p.plan.bound.groups ≡ 16
  pub empty : stage_of p.stage ≡ 0 → listed p.plan.bound.kind ≡ 0

none_taken : (n : ℕ) (l : List ℕ) → n ≡ 0 → take n l ≡ []
none_taken n l e = ap (λ (i : ℕ). take i l) e

module _ (p : Progress) (said : Lists) (o : Open p) where
  frame_places : (frame : Frame) → length (after p frame).plan.bound.groups ≡ 16
  unfolding after linked grouped
  frame_places Foreign = o.places
  frame_places Unknown = o.places
  frame_places (Head n source f) = length-replicate {A = ℕ} 16 0
  frame_places (Link from to) = o.places
  frame_places (Group s) = length-set p.plan.bound.groups (listed p.plan.bound.kind) s ∙ o.places
  frame_places (Channel layout) = o.places
  frame_places (FaultSet s) = o.places
  frame_places (Start form edition layout rounds) = o.places
  frame_places (Later round edition layout) = o.places
  frame_places (Message form round from to edition layout) = o.places
  frame_places (Broadcast round from layout) = o.places

  frame_open : (frame : Frame) → cause_in p said frame ≡ 0 → Open (after p frame)
  frame_open frame h = record { places = frame_places frame; empty = λ z. absurd (frame_stage p said frame h z) }

  -- a group is put after those that are listed
  group_last : (s : Set) (rest : List Set) → listed p.plan.bound.kind < 16 → groups_of p.plan ++ s ∷ rest ≡ groups_of (grouped p.plan s) ++ rest
  unfolding grouped
  group_last s rest l =
      let count = listed p.plan.bound.kind in
      let there : listed p.plan.bound.kind < length p.plan.bound.groups = omega (arith, o.places) in
      sym
      (ap (λ (i : ℕ). take i (set p.plan.bound.groups count s) ++ rest) (add-one count)
      ∙ ap (λ (l : List ℕ). l ++ rest) (take-suc-set p.plan.bound.groups count s there)
      ∙ append_snoc (groups_of p.plan) s rest)

  frame_groups : (frame : Frame) (rest : List Set) → cause_in p said frame ≡ 0
      → groups_of p.plan ++ group_before frame rest ≡ groups_of (after p frame).plan ++ rest
  unfolding cause_in after linked
  frame_groups Foreign rest h = refl
  frame_groups Unknown rest h = refl
  frame_groups (Head n source f) rest h =
      ap (λ (l : List ℕ). l ++ rest)
      (none_taken _ _ (o.empty (head_accepted p said n source f h).0) ∙ sym (none_taken (listed (kind_read f)) no_groups (none_listed f)))
  frame_groups (Link from to) rest h = refl
  frame_groups (Group s) rest h = group_last s rest (group_accepted p said s h).3
  frame_groups (Channel layout) rest h = refl
  frame_groups (FaultSet s) rest h = refl
  frame_groups (Start form edition layout rounds) rest h = refl
  frame_groups (Later round edition layout) rest h = refl
  frame_groups (Message form round from to edition layout) rest h = refl
  frame_groups (Broadcast round from layout) rest h = refl

-- the groups known in the end are those known before, then those told
pub told_groups : (reader : Reader) (p : Progress) (said : Lists) (k : ℕ) (lines : List Line) → Open p → (told reader p said k lines).number ≡ 0
    → groups_of p.plan ++ groups_in reader.kinds lines ≡ groups_of (told reader p said k lines).progress.plan
unfolding told
told_groups reader p said k [] o =
    end_read reader p said k (λ (r : Reading). groups_of p.plan ++ [] ≡ groups_of r.progress.plan) (λ c. append-nil (groups_of p.plan))
told_groups reader p said k (cut line ∷ rest) o = λ z. absurd (omega arith)
told_groups reader p said k (ended line ∷ rest) o =
    line_read reader p said k line rest
    (λ (r : Reading). groups_of p.plan ++ group_before (frame_of reader.kinds line) (groups_in reader.kinds rest) ≡ groups_of r.progress.plan)
    (λ c z.
    frame_groups p said o (frame_of reader.kinds line) (groups_in reader.kinds rest) c
    ∙ told_groups reader (after p (frame_of reader.kinds line)) (said_after p said (frame_of reader.kinds line)) (k + 1) rest
    (frame_open p said o (frame_of reader.kinds line) c) z)

-- before the first line nothing is
pub nothing_open : Open nothing_read
nothing_open = record { places = length-replicate {A = ℕ} 16 0; empty = λ z. refl }

pub reading_groups : (reader : Reader) (text : List ℕ) → (reading reader text).number ≡ 0
    → groups_in reader.kinds (lines_from [] text) ≡ groups_of (reading reader text).progress.plan
reading_groups reader text =
    text_read reader text (λ (r : Reading). groups_in reader.kinds (lines_from [] text) ≡ groups_of r.progress.plan)
    (λ one. told_groups reader nothing_read nothing_said 1 (lines_from [] text) nothing_open)
