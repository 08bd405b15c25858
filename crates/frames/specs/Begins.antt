-- A file that begins with an accepted head of which a test holds, for claims about readers that do not take all heads. Assumes nothing.
use Rattle.std.specs.Prelude.{ℕ, Bool, false, List, [], ◌∷◌, leb, length}
use Rattle.sets.specs.Tests.{◌and◌}
use Rattle.quorum.specs.declared.BoundKind.{BoundKind}
use Rattle.quorum.specs.Quorum.{in_range}
use Rattle.lines.specs.declared.Frame.{Frame}
use Rattle.lines.specs.declared.Frame.TheVariants.{Foreign, Unknown, Head, Link, Group, Channel, FaultSet, Start, Later, Message, Broadcast}
use Rattle.lines.specs.Frames.{frame_of}
use Rattle.frames.specs.Lines.{Line, ended, cut, lines_from}
use Rattle.frames.specs.Reading.{most_bytes, plan_kinds, kind_read}

module _ (test : (n : ℕ) → BoundKind → Bool) where
  -- a head that is accepted where it comes first, f in range or ff, and of whose n and f or groups the test holds
  abbrev pub head_where : Frame → Bool
  head_where Foreign = false
  head_where Unknown = false
  head_where (Head n source f) = in_range n source (kind_read f) and test n (kind_read f)
  head_where (Link from to) = false
  head_where (Group s) = false
  head_where (Channel layout) = false
  head_where (FaultSet s) = false
  head_where (Start form edition layout rounds) = false
  head_where (Later round edition layout) = false
  head_where (Message form round from to edition layout) = false
  head_where (Broadcast round from layout) = false

  abbrev pub first_where : List Line → Bool
  first_where [] = false
  first_where (cut line ∷ rest) = false
  first_where (ended line ∷ rest) = head_where (frame_of plan_kinds line)

  -- a file of fitting length that begins with such a line
  unfoldable pub file_where : (text : List ℕ) → Bool
  file_where text = (leb 1 (length text) and leb (length text) most_bytes) and first_where (lines_from [] text)
