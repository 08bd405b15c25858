-- A file read line by line: what each frame does, and the causes for which it is refused (document 01, the table of causes, with document 02's).
-- Assumes nothing.
use Rattle.std.specs.Prelude.{ℕ, ◌+◌, ◌-◌, ◌^◌, Bool, true, false, not, Option, Some, None, List, [], ◌∷◌, eqb, leb, ltb, length, get_or, set, replicate}
use Rattle.sets.specs.Tests.{◌and◌, ◌or◌, pick}
use Rattle.sets.specs.Causes.{◌gives◌, first_cause, given}
use Rattle.sets.specs.Sets.{Terminal, Set, mem, with}
use Rattle.quorum.specs.declared.BoundKind.{BoundKind}
use Rattle.quorum.specs.declared.BoundKind.TheVariants.{Most, Groups}
use Rattle.quorum.specs.Quorum.{most_terminals, most_groups, no_groups, at_most, listed, in_range, others}
use Rattle.quorum.specs.Notice.{Edition, Layout, notice_of}
use Rattle.quorum.specs.Words.{most_rounds, most_words, start_sound, place_of, shared_place_of}
use Rattle.plan.specs.declared.Plan.{Plan}
use Rattle.plan.specs.Plan.{most_quoted, heard_by, hears}
use Rattle.plan.specs.Deaf.{deaf_set}
use Rattle.faults.specs.Check.{fault_cause_of, shared_fault_cause_of}
use Rattle.lines.specs.declared.Form.{Form}
use Rattle.lines.specs.declared.Form.TheVariants.{Old, New}
use Rattle.lines.specs.declared.Frame.{Frame}
use Rattle.lines.specs.declared.Frame.TheVariants.{Foreign, Unknown, Head, Link, Group, Channel, FaultSet, Start, Later, Message, Broadcast}
use Rattle.lines.specs.Frames.{frame_of, number_of}
use Rattle.frames.specs.declared.Stage.{Stage}
use Rattle.frames.specs.declared.Stage.TheVariants.{Nothing, Links, Grouped, Shared, Faults, Started, Words}
use Rattle.frames.specs.declared.Progress.{Progress}
use Rattle.frames.specs.declared.Heads.{Heads}
use Rattle.frames.specs.declared.Reader.{Reader}
use Rattle.frames.specs.Lines.{Line, ended, cut, lines_from}

-- ---- limits, and what each reader opens

-- a file has 1 to so many bytes
abbrev pub most_bytes : ℕ
most_bytes = 24576

-- plan files have the kinds 01, 02 and 07, run files 03 to 05, 08 and 09 too
abbrev pub plan_kinds : Set
plan_kinds = 2 ^ 1 + 2 ^ 2 + 2 ^ 7

abbrev pub run_kinds : Set
run_kinds = 2 ^ 1 + 2 ^ 2 + 2 ^ 3 + 2 ^ 4 + 2 ^ 5 + 2 ^ 7 + 2 ^ 8 + 2 ^ 9

-- the heads that most readers take: all that are in range
abbrev pub all_heads : Heads
all_heads = record { most = most_terminals; groups = true }

-- the readers of new plans and of runs; that of the archive, which opens plans with a deaf terminal too (document 02, P6); that of the quoting desk,
-- which takes fewer terminals (document 02, P5); that of margins, which takes no plan with groups (document 02, P1); and that of drawings, which opens
-- what the archive opens but takes no plan with groups (document 02, P13)
abbrev pub plan_reader : Reader
plan_reader = record { kinds = plan_kinds; archive = false; heads = all_heads }

abbrev pub run_reader : Reader
run_reader = record { kinds = run_kinds; archive = false; heads = all_heads }

abbrev pub archive_reader : Reader
archive_reader = record { kinds = plan_kinds; archive = true; heads = all_heads }

abbrev pub quote_reader : Reader
quote_reader = record { kinds = plan_kinds; archive = false; heads = record { most = most_quoted; groups = true } }

abbrev pub margins_reader : Reader
margins_reader = record { kinds = plan_kinds; archive = false; heads = record { most = most_terminals; groups = false } }

abbrev pub drawing_reader : Reader
drawing_reader = record { kinds = plan_kinds; archive = true; heads = record { most = most_terminals; groups = false } }

-- ---- what is known after some lines

-- the stages in their order: nothing; the head and perhaps links; groups too; the default layout of a shared channel too; the bad set too; the start too
-- and perhaps later notices; words too
abbrev pub stage_of : Stage → ℕ
stage_of Nothing = 0
stage_of Links = 1
stage_of Grouped = 2
stage_of Shared = 3
stage_of Faults = 4
stage_of Started = 5
stage_of Words = 6

unfoldable pub is_at : Stage → Progress → Bool
is_at stage p = eqb (stage_of p.stage) (stage_of stage)

-- after the head, and while nothing but links and groups has followed
unfoldable pub in_plan : Progress → Bool
in_plan p = is_at Links p or is_at Grouped p

-- from the start on
unfoldable pub is_started : Progress → Bool
is_started p = is_at Started p or is_at Words p

-- the start's form decides that of all frames after it (document 02, P8): a frame of this form is of the other one
abbrev pub form_of : Form → ℕ
form_of Old = 0
form_of New = 1

unfoldable pub other_form : Progress → Form → Bool
other_form p form = is_started p and not (eqb (form_of form) (form_of p.form))

-- one channel is shared by all where a default layout was given (document 02, P11)
unfoldable pub is_shared : Progress → Bool
is_shared p = not (eqb p.default 0)

-- a frame of this form is refused by 2: the start was of the other one; or the channel is shared and the frame is barred from it, as one with an edition
-- is, and a word that names a hearer
unfoldable pub wrong_form : Progress → Form → (barred : Bool) → Bool
wrong_form p form barred = other_form p form or (is_shared p and barred)

abbrev pub has_edition : Form → Bool
has_edition Old = false
has_edition New = true

abbrev pub no_links : List ℕ
no_links = replicate most_terminals 0

abbrev pub no_plan : Plan
no_plan = record { n = 0; source = 0; bound = at_most 0; rows = no_links }

-- what is known before the start, on a channel with this default layout; it is 0 where the channel is not shared
abbrev pub unstarted : Stage → Plan → (faulty : Set) → (default : Layout) → Progress
unstarted stage plan faulty default =
    record { stage = stage; plan = plan; faulty = faulty; form = Old; notice = 0; rounds = 0; issued = 0; edition = 0; default = default }

abbrev pub planned : Stage → Plan → (faulty : Set) → Progress
planned stage plan faulty = unstarted stage plan faulty 0

abbrev pub nothing_read : Progress
nothing_read = planned Nothing no_plan 0

-- what is said: the liars' words, each at its place, on a shared channel at that of its round and sender, and the office's later notices, that of round r
-- at place r - 1
pub record Lists : Type 0 where
  pub words : List ℕ
  pub later : List ℕ

abbrev pub both : (words later : List ℕ) → Lists
both words later = record { words = words; later = later }

abbrev pub no_words : List ℕ
no_words = replicate most_words 0

abbrev pub no_later : List ℕ
no_later = replicate most_rounds 0

abbrev pub nothing_said : Lists
nothing_said = both no_words no_later

-- the head's last byte: f, or ff where groups are listed instead (document 02, P10)
unfoldable pub kind_read : (f : ℕ) → BoundKind
kind_read f = pick (eqb f 255) (Groups 0) (Most f)

-- groups are listed, not f; and none has been so far
abbrev pub lists : BoundKind → Bool
lists (Most f) = false
lists (Groups count) = true

abbrev pub lists_none : BoundKind → Bool
lists_none (Most f) = false
lists_none (Groups count) = eqb count 0

-- the rounds that a start frame means on n terminals: those of its rounds byte, and without it n - 1 (document 02, P2)
abbrev pub rounds_of : (n : ℕ) → Option ℕ → ℕ
rounds_of n (Some rounds) = rounds
rounds_of n None = n - 1

-- ---- the number of the first cause that refuses a frame, 0 for none

unfoldable pub head_cause : Progress → (n : ℕ) (source : Terminal) (f : ℕ) → ℕ
head_cause p n source f = first_cause (not (is_at Nothing p) gives 3 ∷ not (in_range n source (kind_read f)) gives 4 ∷ [])

unfoldable pub link_cause : Progress → (from to : Terminal) → ℕ
link_cause p from to =
    first_cause (not (is_at Links p) gives 3 ∷ (leb p.plan.n from or leb p.plan.n to or eqb from to) gives 5 ∷ hears p.plan to from gives 6 ∷ [])

-- 17: it is the seventeenth, or names the source or a number at or above n
unfoldable pub group_cause : Progress → (s : Set) → ℕ
group_cause p s =
    first_cause
    (not (in_plan p and lists p.plan.bound.kind) gives 3
    ∷ not (ltb (listed p.plan.bound.kind) most_groups and others p.plan.n p.plan.source s) gives 17
    ∷ [])

-- a default layout, once, and just before the bad set (document 02, P11)
unfoldable pub channel_cause : Progress → Layout → ℕ
channel_cause p layout = first_cause (not (in_plan p) gives 3 ∷ eqb layout 0 gives 9 ∷ [])

-- 7 and 8 are those of a library call; on a shared channel, of the one by which the source may be bad too
unfoldable pub bad_set_cause : Progress → (s : Set) → ℕ
bad_set_cause p s = pick (is_shared p) (shared_fault_cause_of p.plan s) (fault_cause_of p.plan s)

unfoldable pub fault_set_cause : Progress → (s : Set) → ℕ
fault_set_cause p s = first_cause (not (in_plan p or is_at Shared p) gives 3 ∷ given (bad_set_cause p s) ∷ [])

-- 2: there was a start of the other form, or it has an edition on a shared channel; 16: edition 0 (document 02, P8)
unfoldable pub start_cause : Progress → Form → Edition → Layout → Option ℕ → ℕ
start_cause p form edition layout rounds =
    first_cause
    (wrong_form p form (has_edition form) gives 2
    ∷ not (is_at Faults p) gives 3
    ∷ not (start_sound layout (rounds_of p.plan.n rounds)) gives 9
    ∷ eqb edition 0 gives 16
    ∷ [])

-- 3: it comes after a word, or its round is not above that of the notice before, or not played; 16: its edition is not above that of the notice before
unfoldable pub later_cause : Progress → (round : ℕ) → Edition → Layout → ℕ
later_cause p round edition layout =
    first_cause
    (wrong_form p New true gives 2
    ∷ not (is_at Started p and ltb p.issued round and leb round p.rounds) gives 3
    ∷ eqb layout 0 gives 9
    ∷ not (ltb p.edition edition) gives 16
    ∷ [])

-- a word in a round that is played, on a link, from a bad sender, and not silence
unfoldable pub is_word : Progress → (round : ℕ) (from to : Terminal) → Edition → Layout → Bool
is_word p round from to edition layout =
    leb 1 round and leb round p.rounds and ltb from p.plan.n and ltb to p.plan.n and hears p.plan to from
    and mem from p.faulty and not (eqb edition 0) and not (eqb layout 0)

-- 11: its place is taken
unfoldable pub message_cause : Progress → (words : List ℕ) → Form → (round : ℕ) (from to : Terminal) → Edition → Layout → ℕ
message_cause p words form round from to edition layout =
    first_cause
    (wrong_form p form true gives 2
    ∷ not (is_started p) gives 3
    ∷ not (is_word p round from to edition layout) gives 10
    ∷ not (eqb (get_or words (place_of p.plan.n round from to) 0) 0) gives 11
    ∷ [])

-- on a shared channel a word names no hearer: one in a round that is played, from a bad sender, whoever hears it, and not silence
unfoldable pub is_broadcast : Progress → (round : ℕ) (from : Terminal) → Layout → Bool
is_broadcast p round from layout =
    leb 1 round and leb round p.rounds and ltb from p.plan.n and mem from p.faulty and not (eqb layout 0)

-- 2: the start came, and the channel is not shared; 11: the sender has said one in this round
unfoldable pub broadcast_cause : Progress → (words : List ℕ) (round : ℕ) (from : Terminal) → Layout → ℕ
broadcast_cause p words round from layout =
    first_cause
    ((is_started p and not (is_shared p)) gives 2
    ∷ not (is_started p) gives 3
    ∷ not (is_broadcast p round from layout) gives 10
    ∷ not (eqb (get_or words (shared_place_of p.plan.n round from) 0) 0) gives 11
    ∷ [])

unfoldable pub cause_in : Progress → Lists → Frame → ℕ
cause_in p said Foreign = number_of Foreign
cause_in p said Unknown = number_of Unknown
cause_in p said (Head n source f) = head_cause p n source f
cause_in p said (Link from to) = link_cause p from to
cause_in p said (Group s) = group_cause p s
cause_in p said (Channel layout) = channel_cause p layout
cause_in p said (FaultSet s) = fault_set_cause p s
cause_in p said (Start form edition layout rounds) = start_cause p form edition layout rounds
cause_in p said (Later round edition layout) = later_cause p round edition layout
cause_in p said (Message form round from to edition layout) = message_cause p said.words form round from to edition layout
cause_in p said (Broadcast round from layout) = broadcast_cause p said.words round from layout

-- why a reader does not take a head in range, 0 where it does. 14: it has more terminals than the reader takes (document 02, P5); 4: it lists groups, and
-- the reader takes none (document 02, P1 and P13)
unfoldable pub untaken_cause : Heads → (n : ℕ) → BoundKind → ℕ
untaken_cause heads n kind = first_cause (ltb heads.most n gives 14 ∷ (lists kind and not heads.groups) gives 4 ∷ [])

-- the same of a frame: every reader takes those that are no heads
unfoldable pub heads_cause : Heads → Frame → ℕ
heads_cause heads Foreign = 0
heads_cause heads Unknown = 0
heads_cause heads (Head n source f) = untaken_cause heads n (kind_read f)
heads_cause heads (Link from to) = 0
heads_cause heads (Group s) = 0
heads_cause heads (Channel layout) = 0
heads_cause heads (FaultSet s) = 0
heads_cause heads (Start form edition layout rounds) = 0
heads_cause heads (Later round edition layout) = 0
heads_cause heads (Message form round from to edition layout) = 0
heads_cause heads (Broadcast round from layout) = 0

-- the causes of a line, by a reader that takes these heads: its own come after 3 and 4, and a head has no other
unfoldable pub line_cause : Heads → Progress → Lists → Frame → ℕ
line_cause heads p said frame = first_cause (given (cause_in p said frame) ∷ given (heads_cause heads frame) ∷ [])

-- ---- where the links end (document 02, P6 and P10): at the first line after the head that passes 1 and 2 and is not a link, nor, where groups are
-- listed, a group; or else at the end of the file

-- a line with this frame passes 1 and 2 and is neither
unfoldable pub ends_links : BoundKind → Frame → Bool
ends_links kind Foreign = false
ends_links kind Unknown = false
ends_links kind (Head n source f) = true
ends_links kind (Link from to) = false
ends_links kind (Group s) = not (lists kind)
ends_links kind (Channel layout) = true
ends_links kind (FaultSet s) = true
ends_links kind (Start form edition layout rounds) = true
ends_links kind (Later round edition layout) = true
ends_links kind (Message form round from to edition layout) = true
ends_links kind (Broadcast round from layout) = true

-- the number of the first cause that is looked at there, 0 for none: no group, and a deaf terminal
unfoldable pub links_cause : Reader → Progress → ℕ
links_cause reader p =
    first_cause
    ((in_plan p and lists_none p.plan.bound.kind) gives 17
    ∷ (in_plan p and not reader.archive and not (eqb (deaf_set p.plan) 0)) gives 15
    ∷ [])

-- the same of a line, if the links end there
unfoldable pub end_cause : Reader → Progress → Frame → ℕ
end_cause reader p frame = pick (ends_links p.plan.bound.kind frame) (links_cause reader p) 0

-- ---- what an accepted frame adds

-- the plan with one link more: `to` hears `from`
unfoldable pub linked : Plan → (from to : Terminal) → Plan
linked p from to = record { n = p.n; source = p.source; bound = p.bound; rows = set p.rows to (with 32 (heard_by p to) from) }

-- and with one group more, after those that are listed
unfoldable pub grouped : Plan → (s : Set) → Plan
grouped p s = record {
  n = p.n;
  source = p.source;
  bound = record { kind = Groups (listed p.bound.kind + 1); groups = set p.bound.groups (listed p.bound.kind) s };
  rows = p.rows;
}

-- a word was said
abbrev pub spoken : Progress → Progress
spoken p = record {
  stage = Words;
  plan = p.plan;
  faulty = p.faulty;
  form = p.form;
  notice = p.notice;
  rounds = p.rounds;
  issued = p.issued;
  edition = p.edition;
  default = p.default;
}

unfoldable pub after : Progress → Frame → Progress
after p Foreign = p
after p Unknown = p
after p (Head n source f) =
    planned Links (record { n = n; source = source; bound = record { kind = kind_read f; groups = no_groups }; rows = no_links }) 0
after p (Link from to) = planned Links (linked p.plan from to) 0
after p (Group s) = planned Grouped (grouped p.plan s) 0
after p (Channel layout) = unstarted Shared p.plan 0 layout
after p (FaultSet s) = unstarted Faults p.plan s p.default
after p (Start form edition layout rounds) = record {
  stage = Started;
  plan = p.plan;
  faulty = p.faulty;
  form = form;
  notice = notice_of edition layout;
  rounds = rounds_of p.plan.n rounds;
  issued = 0;
  edition = edition;
  default = p.default;
}
after p (Later round edition layout) = record {
  stage = Started;
  plan = p.plan;
  faulty = p.faulty;
  form = p.form;
  notice = p.notice;
  rounds = p.rounds;
  issued = round;
  edition = edition;
  default = p.default;
}
after p (Message form round from to edition layout) = spoken p
after p (Broadcast round from layout) = spoken p

unfoldable pub said_after : Progress → Lists → Frame → Lists
said_after p said Foreign = said
said_after p said Unknown = said
said_after p said (Head n source f) = said
said_after p said (Link from to) = said
said_after p said (Group s) = said
said_after p said (Channel layout) = said
said_after p said (FaultSet s) = said
said_after p said (Start form edition layout rounds) = said
said_after p said (Later round edition layout) = both said.words (set said.later (round - 1) (notice_of edition layout))
said_after p said (Message form round from to edition layout) =
    both (set said.words (place_of p.plan.n round from to) (notice_of edition layout)) said.later
said_after p said (Broadcast round from layout) = both (set said.words (shared_place_of p.plan.n round from) (notice_of 1 layout)) said.later

-- ---- the file

-- the number of a refusal and its line, 0 and 0 where the file is read; beside them a refused file gives nothing
pub record Reading : Type 0 where
  pub number : ℕ
  pub line : ℕ
  pub progress : Progress
  pub said : Lists

abbrev pub refusal : (number line : ℕ) → Reading
refusal number line = record { number = number; line = line; progress = nothing_read; said = nothing_said }

-- the reading goes on where no cause was found
abbrev pub unless : (cause line : ℕ) → Reading → Reading
unless cause line r = pick (eqb cause 0) r (refusal cause line)

-- the lines from line k on: the first that fails decides. What is looked at where the links end comes before the line's other causes, and is told
-- with line 0
unfoldable pub told : Reader → Progress → Lists → (k : ℕ) → List Line → Reading
told reader p said k [] = unless (links_cause reader p) 0 (record { number = 0; line = 0; progress = p; said = said })
told reader p said k (cut line ∷ rest) = refusal 1 k
told reader p said k (ended line ∷ rest) =
    unless (end_cause reader p (frame_of reader.kinds line)) 0
    (unless (line_cause reader.heads p said (frame_of reader.kinds line)) k
    (told reader (after p (frame_of reader.kinds line)) (said_after p said (frame_of reader.kinds line)) (k + 1) rest))

-- the file's length comes first of all
unfoldable pub reading : Reader → (text : List ℕ) → Reading
reading reader text =
    pick (leb 1 (length text) and leb (length text) most_bytes) (told reader nothing_read nothing_said 1 (lines_from [] text)) (refusal 1 0)

-- a file for `run` needs 03 and 04: that comes last
unfoldable pub whole : Reading → Reading
whole r = pick (eqb r.number 0 and not (is_started r.progress)) (refusal 3 0) r

unfoldable pub plan_reading : (text : List ℕ) → Reading
plan_reading text = reading plan_reader text

unfoldable pub archive_reading : (text : List ℕ) → Reading
archive_reading text = reading archive_reader text

unfoldable pub quote_reading : (text : List ℕ) → Reading
quote_reading text = reading quote_reader text

unfoldable pub margins_reading : (text : List ℕ) → Reading
margins_reading text = reading margins_reader text

unfoldable pub drawing_reading : (text : List ℕ) → Reading
drawing_reading text = reading drawing_reader text

unfoldable pub run_reading : (text : List ℕ) → Reading
run_reading text = whole (reading run_reader text)

-- what a caller gets beside the lists: the number of a refusal and its line, 0 and 0 where the file is read; beside them a refused file gives only zeros
pub record FileRead : Type 0 where
  pub number : ℕ
  pub line : ℕ
  pub progress : Progress

-- what the archive's caller gets: the deaf terminals too
pub record ArchiveRead : Type 0 where
  pub file : FileRead
  pub deaf : ℕ

abbrev pub file_read : Reading → FileRead
file_read r = record { number = r.number; line = r.line; progress = r.progress }

-- the archive's reader gives the deaf terminals too; of a refused file there are none
abbrev pub archive_read : Reading → ArchiveRead
archive_read r = record { file = file_read r; deaf = deaf_set r.progress.plan }

-- the reader of run files is lent two lists, for the words and for the later notices: where the file is accepted, one of the wrong length is refused 12
unfoldable pub run_file : (text : List ℕ) (room roomLater : ℕ) → Reading
run_file text room roomLater =
    pick (eqb (run_reading text).number 0 and not (eqb room most_words and eqb roomLater most_rounds)) (refusal 12 0) (run_reading text)

-- the lists afterwards: a refused call leaves them as they were
unfoldable pub words_read : Reading → (before : List ℕ) → List ℕ
words_read r before = pick (eqb r.number 0) r.said.words before

unfoldable pub later_read : Reading → (before : List ℕ) → List ℕ
later_read r before = pick (eqb r.number 0) r.said.later before
