-- The head of an accepted file's plan is its first line. Assumes nothing.
use Prim.Native.Nat.{ℕ, ◌+◌}
use mathlib.Core.Path.{◌≡◌, refl, sym, ap, ◌∙◌}
use mathlib.Core.Bool.{true}
use mathlib.Core.List.{List, [], ◌∷◌}
use native.Mathlib.Omega.{arith}
use lib.Dec.{eqb}
use borrow.Author.Tests.{eqb-true}
use Rattle.sets.proofs.Bools.{clash, pick_case}
use Rattle.quorum.specs.declared.BoundKind.{BoundKind}
use Rattle.quorum.specs.declared.BoundKind.TheVariants.{Most, Groups}
use Rattle.plan.specs.declared.Plan.{Plan}
use Rattle.lines.specs.declared.Frame.{Frame}
use Rattle.lines.specs.declared.Frame.TheVariants.{Foreign, Unknown, Head, Link, Group, Channel, FaultSet, Start, Later, Message, Broadcast}
use Rattle.lines.specs.Frames.{frame_of}
use Rattle.frames.specs.declared.Progress.{Progress}
use Rattle.frames.specs.declared.Reader.{Reader}
use Rattle.frames.specs.Lines.{Line, ended, cut, lines_from}
use Rattle.frames.specs.Reading.{stage_of, nothing_read, Lists, nothing_said, kind_read, lists, cause_in, linked, grouped, after, said_after, Reading, told, reading}
use Rattle.frames.proofs.Keeps.{head_accepted, link_accepted, group_accepted, channel_accepted, fault_set_accepted, start_accepted, later_accepted, message_accepted, broadcast_accepted, frame_stage, some_line, line_read, told_keeps, text_read}
use Rattle.writer.specs.Written.{bound_byte}
use Rattle.writer.specs.RoundTrip.{Begins}

abbrev head_of : Plan → Frame
head_of p = Head p.n p.source (bound_byte p.bound.kind)

-- the last byte that is written of what was read of it
pub byte_again : (f : ℕ) → bound_byte (kind_read f) ≡ f
unfolding kind_read
byte_again f =
    pick_case (λ (k : BoundKind). bound_byte k ≡ f) (eqb f 255) (Groups 0) (Most f) (λ h. sym (eqb-true f 255 h)) (λ h. refl)

lists_byte : (kind : BoundKind) → lists kind ≡ true → 255 ≡ bound_byte kind
lists_byte (Most f) h = clash h refl
lists_byte (Groups count) h = refl

-- the first frame that is accepted is a head
first_head : (said : Lists) (frame : Frame) → cause_in nothing_read said frame ≡ 0 → frame ≡ head_of (after nothing_read frame).plan
unfolding cause_in after
first_head said Foreign h = absurd (omega arith)
first_head said Unknown h = absurd (omega arith)
first_head said (Head n source f) h = ap (Head n source) (sym (byte_again f))
first_head said (Link from to) h = absurd (omega (arith, (link_accepted nothing_read said from to h).0))
first_head said (Group s) h = absurd (let l = (group_accepted nothing_read said s h).0 in omega arith)
first_head said (Channel layout) h = absurd (let l = (channel_accepted nothing_read said layout h).0 in omega arith)
first_head said (FaultSet s) h = absurd (let l = (fault_set_accepted nothing_read said s h).0 in omega arith)
first_head said (Start form edition layout rounds) h = absurd (omega (arith, (start_accepted nothing_read said form edition layout rounds h).0))
first_head said (Later round edition layout) h = absurd (omega (arith, (later_accepted nothing_read said round edition layout h).0))
first_head said (Message form round from to edition layout) h =
    absurd (omega (arith, message_accepted nothing_read said form round from to edition layout h))
first_head said (Broadcast round from layout) h = absurd (omega (arith, broadcast_accepted nothing_read said round from layout h))

-- a later one keeps it
head_kept : (p : Progress) (said : Lists) (frame : Frame) → (stage_of p.stage ≡ 0 → ⊥) → cause_in p said frame ≡ 0 → head_of (after p frame).plan ≡ head_of p.plan
unfolding after linked grouped
head_kept p said Foreign s h = refl
head_kept p said Unknown s h = refl
head_kept p said (Head n source f) s h = absurd (s (head_accepted p said n source f h).0)
head_kept p said (Link from to) s h = refl
head_kept p said (Group x) s h = ap (Head p.plan.n p.plan.source) (lists_byte p.plan.bound.kind (group_accepted p said x h).2)
head_kept p said (Channel layout) s h = refl
head_kept p said (FaultSet x) s h = refl
head_kept p said (Start form edition layout rounds) s h = refl
head_kept p said (Later round edition layout) s h = refl
head_kept p said (Message form round from to edition layout) s h = refl
head_kept p said (Broadcast round from layout) s h = refl

-- ---- the lines

told_head : (reader : Reader) (p : Progress) (said : Lists) (k : ℕ) (lines : List Line) → (stage_of p.stage ≡ 0 → ⊥)
    → (told reader p said k lines).number ≡ 0 → head_of (told reader p said k lines).progress.plan ≡ head_of p.plan
told_head reader p said k lines s z =
    (told_keeps (λ (q : Progress). (stage_of q.stage ≡ 0 → ⊥) × (head_of q.plan ≡ head_of p.plan))
    (λ q w f i c. (frame_stage q w f c, head_kept q w f i.0 c ∙ i.1)) reader p said k lines (s, refl) z).1

told_begins : (reader : Reader) (said : Lists) (lines : List Line) → (lines ≡ [] → ⊥)
    → (told reader nothing_read said 1 lines).number ≡ 0 → Begins reader.kinds (told reader nothing_read said 1 lines).progress.plan lines
unfolding told
told_begins reader said [] n = λ z. absurd (n refl)
told_begins reader said (cut line ∷ rest) n = λ z. absurd (omega arith)
told_begins reader said (ended line ∷ rest) n =
    line_read reader nothing_read said 1 line rest (λ (r : Reading). frame_of reader.kinds line ≡ head_of r.progress.plan)
    (λ c z.
    first_head said (frame_of reader.kinds line) c
    ∙ sym
    (told_head reader (after nothing_read (frame_of reader.kinds line)) (said_after nothing_read said (frame_of reader.kinds line)) (1 + 1) rest
    (frame_stage nothing_read said (frame_of reader.kinds line) c) z))

pub reading_begins : (reader : Reader) (text : List ℕ) → (reading reader text).number ≡ 0 → Begins reader.kinds (reading reader text).progress.plan (lines_from [] text)
reading_begins reader text =
    text_read reader text (λ (r : Reading). Begins reader.kinds r.progress.plan (lines_from [] text))
    (λ one. told_begins reader nothing_said (lines_from [] text) (some_line [] text (omega arith)))
