-- What a file tells: a frame, where one of its lines is it, and its groups in their order. Assumes nothing.
use Rattle.std.specs.Prelude.{ℕ, ◌≡◌, ◌⊎◌, List, [], ◌∷◌}
use Rattle.sets.specs.Sets.{Set}
use Rattle.lines.specs.declared.Frame.{Frame}
use Rattle.lines.specs.declared.Frame.TheVariants.{Foreign, Unknown, Head, Link, Group, Channel, FaultSet, Start, Later, Message, Broadcast}
use Rattle.lines.specs.Frames.{frame_of}
use Rattle.frames.specs.Lines.{Line, ended, cut}

-- some line is this frame, for a program that knows these kinds
abbrev pub Tells : (kinds : Set) → Frame → List Line → Type 0
Tells kinds frame [] = ⊥
Tells kinds frame (cut line ∷ rest) = Tells kinds frame rest
Tells kinds frame (ended line ∷ rest) = (frame_of kinds line ≡ frame) ⊎ Tells kinds frame rest

-- no line is a later notice of the office
abbrev pub NoLater : (kinds : Set) → List Line → Type 0
NoLater kinds lines = (round edition layout : ℕ) → Tells kinds (Later round edition layout) lines → ⊥

-- nor the default layout of a shared channel
abbrev pub NoChannel : (kinds : Set) → List Line → Type 0
NoChannel kinds lines = (layout : ℕ) → Tells kinds (Channel layout) lines → ⊥

-- the groups that the lines tell, in their order
abbrev pub group_before : Frame → List Set → List Set
group_before Foreign rest = rest
group_before Unknown rest = rest
group_before (Head n source f) rest = rest
group_before (Link from to) rest = rest
group_before (Group s) rest = s ∷ rest
group_before (Channel layout) rest = rest
group_before (FaultSet s) rest = rest
group_before (Start form edition layout rounds) rest = rest
group_before (Later round edition layout) rest = rest
group_before (Message form round from to edition layout) rest = rest
group_before (Broadcast round from layout) rest = rest

abbrev pub groups_in : (kinds : Set) → List Line → List Set
groups_in kinds [] = []
groups_in kinds (cut line ∷ rest) = groups_in kinds rest
groups_in kinds (ended line ∷ rest) = group_before (frame_of kinds line) (groups_in kinds rest)
