-- One line's frame, by the table of kinds of document 01, with document 02's. A program knows a set of kinds. Assumes nothing.
use Rattle.std.specs.Prelude.{ℕ, ◌+◌, ◌*◌, Bool, true, Some, None, List, eqb, ltb, length, get_or}
use Rattle.sets.specs.Tests.{◌and◌, pick}
use Rattle.sets.specs.Sets.{Set, mem}
use Rattle.lines.specs.declared.Form.{Form}
use Rattle.lines.specs.declared.Form.TheVariants.{Old, New}
use Rattle.lines.specs.declared.Frame.{Frame}
use Rattle.lines.specs.declared.Frame.TheVariants.{Foreign, Unknown, Head, Link, Group, Channel, FaultSet, Start, Later, Message, Broadcast}
use Rattle.lines.specs.Bytes.{well_formed, bytes_of}

-- document 01's number of a line that is no frame, 0 for a frame
abbrev pub number_of : Frame → ℕ
number_of Foreign = 1
number_of Unknown = 2
number_of (Head n source f) = 0
number_of (Link from to) = 0
number_of (Group s) = 0
number_of (Channel layout) = 0
number_of (FaultSet s) = 0
number_of (Start form edition layout rounds) = 0
number_of (Later round edition layout) = 0
number_of (Message form round from to edition layout) = 0
number_of (Broadcast round from layout) = 0

-- larger numbers have their high byte first
unfoldable pub pair_at : (bytes : List ℕ) (i : ℕ) → ℕ
pair_at bytes i = 256 * get_or bytes i 0 + get_or bytes (i + 1) 0

unfoldable pub triple_at : (bytes : List ℕ) (i : ℕ) → ℕ
triple_at bytes i = 65536 * get_or bytes i 0 + pair_at bytes (i + 1)

-- 01: n, source, f
unfoldable pub head_of : (bytes : List ℕ) → Frame
head_of bytes = pick (eqb (length bytes) 4) (Head (get_or bytes 1 0) (get_or bytes 2 0) (get_or bytes 3 0)) Unknown

-- 02: from, to
unfoldable pub link_of : (bytes : List ℕ) → Frame
link_of bytes = pick (eqb (length bytes) 3) (Link (get_or bytes 1 0) (get_or bytes 2 0)) Unknown

-- 07: a group in three bytes
unfoldable pub group_of : (bytes : List ℕ) → Frame
group_of bytes = pick (eqb (length bytes) 4) (Group (triple_at bytes 1)) Unknown

-- 09: the default layout of a shared channel, in two bytes (document 02, P11)
unfoldable pub channel_of : (bytes : List ℕ) → Frame
channel_of bytes = pick (eqb (length bytes) 3) (Channel (pair_at bytes 1)) Unknown

-- 03: a bad set in three bytes
unfoldable pub fault_set_of : (bytes : List ℕ) → Frame
fault_set_of bytes = pick (eqb (length bytes) 4) (FaultSet (triple_at bytes 1)) Unknown

-- 04: in the old form a layout in two bytes, which counts as edition 1; in the new one an edition and a layout in two bytes each (document 02, P8).
-- In both the rounds have one byte, which may be left out
unfoldable pub start_of : (bytes : List ℕ) → Frame
start_of bytes =
    pick (eqb (length bytes) 4) (Start Old 1 (pair_at bytes 1) (Some (get_or bytes 3 0)))
    (pick (eqb (length bytes) 3) (Start Old 1 (pair_at bytes 1) None)
    (pick (eqb (length bytes) 6) (Start New (pair_at bytes 1) (pair_at bytes 3) (Some (get_or bytes 5 0)))
    (pick (eqb (length bytes) 5) (Start New (pair_at bytes 1) (pair_at bytes 3) None) Unknown)))

-- 08: round, then edition and layout in two bytes each (document 02, P8)
unfoldable pub later_of : (bytes : List ℕ) → Frame
later_of bytes = pick (eqb (length bytes) 6) (Later (get_or bytes 1 0) (pair_at bytes 2) (pair_at bytes 4)) Unknown

-- 05: round, from, to, then the layout in two bytes in the old form, edition and layout in two bytes each in the new one; on a shared channel round,
-- from, and the layout in two bytes, with no hearer (document 02, P11)
unfoldable pub message_of : (bytes : List ℕ) → Frame
message_of bytes =
    pick (eqb (length bytes) 6) (Message Old (get_or bytes 1 0) (get_or bytes 2 0) (get_or bytes 3 0) 1 (pair_at bytes 4))
    (pick (eqb (length bytes) 8) (Message New (get_or bytes 1 0) (get_or bytes 2 0) (get_or bytes 3 0) (pair_at bytes 4) (pair_at bytes 6))
    (pick (eqb (length bytes) 5) (Broadcast (get_or bytes 1 0) (get_or bytes 2 0) (pair_at bytes 3)) Unknown))

unfoldable pub kind_of : (kind : ℕ) (bytes : List ℕ) → Frame
kind_of kind bytes =
    pick (eqb kind 1) (head_of bytes)
    (pick (eqb kind 2) (link_of bytes)
    (pick (eqb kind 3) (fault_set_of bytes)
    (pick (eqb kind 4) (start_of bytes)
    (pick (eqb kind 5) (message_of bytes)
    (pick (eqb kind 7) (group_of bytes) (pick (eqb kind 8) (later_of bytes) (pick (eqb kind 9) (channel_of bytes) Unknown)))))))

-- the first byte is the kind, which the program has to know
unfoldable pub known_frame : (kinds : Set) (bytes : List ℕ) → Frame
known_frame kinds bytes = pick (mem (get_or bytes 0 0) kinds) (kind_of (get_or bytes 0 0) bytes) Unknown

unfoldable pub frame_of : (kinds : Set) (line : List ℕ) → Frame
frame_of kinds line = pick (well_formed line) (known_frame kinds (bytes_of line)) Foreign

-- what a line's frame holds: an edition and a layout have two bytes each, and in the old form the edition is 1
abbrev pub paired : Form → (edition layout : ℕ) → Bool
paired Old edition layout = eqb edition 1 and ltb layout 65536
paired New edition layout = ltb edition 65536 and ltb layout 65536

abbrev pub fits : Frame → Bool
fits Foreign = true
fits Unknown = true
fits (Head n source f) = true
fits (Link from to) = true
fits (Group s) = true
fits (Channel layout) = ltb layout 65536
fits (FaultSet s) = true
fits (Start form edition layout rounds) = paired form edition layout
fits (Later round edition layout) = paired New edition layout
fits (Message form round from to edition layout) = paired form edition layout
fits (Broadcast round from layout) = ltb layout 65536
