-- The start of an accepted file, and its later notices: where a line tells a start, the run has its notice, its form, and the rounds that it means;
-- where no line tells a later notice, there is none, and where none tells a default layout, the channel is not shared. Assumes nothing.
use Prim.Native.Nat.{ℕ, ◌+◌, ◌≤◌}
use mathlib.Core.Path.{◌≡◌, refl, sym, ap, ◌∙◌, subst}
use mathlib.Core.Logic.{inl, inr, ⊎_elim}
use mathlib.Core.Bool.{false}
use mathlib.Core.List.{List, [], ◌∷◌}
use native.Mathlib.Omega.{arith}
use borrow.Author.Tests.{eq-eqb}
use Rattle.std.specs.Prelude.{Option}
use Rattle.sets.proofs.Bools.{not_yes}
use Rattle.quorum.specs.Notice.{notice_of}
use Rattle.lines.specs.declared.Form.{Form}
use Rattle.lines.specs.declared.Frame.{Frame}
use Rattle.lines.specs.declared.Frame.TheVariants.{Foreign, Unknown, Head, Link, Group, Channel, FaultSet, Start, Later, Message, Broadcast}
use Rattle.lines.specs.Frames.{frame_of}
use Rattle.frames.specs.declared.Progress.{Progress}
use Rattle.frames.specs.declared.Reader.{Reader}
use Rattle.frames.specs.Lines.{Line, ended, cut, lines_from}
use Rattle.frames.specs.Reading.{run_kinds, run_reader, is_shared, stage_of, rounds_of, nothing_read, Lists, no_later, nothing_said, cause_in, after, said_after, Reading, told, reading, run_reading}
use Rattle.frames.specs.Tells.{Tells, NoLater, NoChannel}
use Rattle.frames.proofs.Keeps.{head_accepted, link_accepted, group_accepted, channel_accepted, fault_set_accepted, start_accepted, line_read, end_read, told_keeps, text_read}
use Rattle.frames.proofs.Accepted.{run_is}

-- ---- the start

-- what is known has this notice, the rounds that are meant, and this form
abbrev pub Started : Form → (edition layout : ℕ) → Option ℕ → Progress → Type 0
Started form edition layout rounds p = (p.notice ≡ notice_of edition layout) × (p.rounds ≡ rounds_of p.plan.n rounds) × (p.form ≡ form)

module _ (reader : Reader) (form : Form) (edition layout : ℕ) (rounds : Option ℕ) where
  abbrev Known : Progress → Type 0
  Known p = (5 ≤ stage_of p.stage) × Started form edition layout rounds p

  -- after it only later notices and words are accepted, and it stays
  frame_stays : (p : Progress) (said : Lists) (frame : Frame) → Known p → cause_in p said frame ≡ 0 → Known (after p frame)
  unfolding after
  frame_stays p said Foreign s h = s
  frame_stays p said Unknown s h = s
  frame_stays p said (Head n source f) s h = absurd (omega (arith, s.0, (head_accepted p said n source f h).0))
  frame_stays p said (Link from to) s h = absurd (omega (arith, s.0, (link_accepted p said from to h).0))
  frame_stays p said (Group x) s h = absurd (omega (arith, s.0, (group_accepted p said x h).1))
  frame_stays p said (Channel l) s h = absurd (omega (arith, s.0, (channel_accepted p said l h).1))
  frame_stays p said (FaultSet x) s h = absurd (omega (arith, s.0, (fault_set_accepted p said x h).1))
  frame_stays p said (Start f e l r) s h = absurd (omega (arith, s.0, (start_accepted p said f e l r h).0))
  frame_stays p said (Later r e l) s h = (omega arith, s.1)
  frame_stays p said (Message f r from to e l) s h = (omega arith, s.1)
  frame_stays p said (Broadcast r from l) s h = (omega arith, s.1)

  -- the rest is told after it
  start_here : (p : Progress) (said : Lists) (k : ℕ) (frame : Frame) (rest : List Line) → frame ≡ Start form edition layout rounds
      → (told reader (after p frame) said k rest).number ≡ 0 → Started form edition layout rounds (told reader (after p frame) said k rest).progress
  unfolding after
  start_here p said k frame rest e z =
      (told_keeps Known frame_stays reader (after p frame) said k rest (subst (λ (x : Frame). Known (after p x)) (sym e) (omega arith, (refl, refl, refl))) z).1

  told_starts : (p : Progress) (said : Lists) (k : ℕ) (lines : List Line) → Tells reader.kinds (Start form edition layout rounds) lines
      → (told reader p said k lines).number ≡ 0 → Started form edition layout rounds (told reader p said k lines).progress
  unfolding told
  told_starts p said k [] t = absurd t
  told_starts p said k (cut line ∷ rest) t = λ z. absurd (omega arith)
  told_starts p said k (ended line ∷ rest) t =
      line_read reader p said k line rest (λ (r : Reading). Started form edition layout rounds r.progress)
      (λ c.
      ⊎_elim (start_here p (said_after p said (frame_of reader.kinds line)) (k + 1) (frame_of reader.kinds line) rest)
      (told_starts (after p (frame_of reader.kinds line)) (said_after p said (frame_of reader.kinds line)) (k + 1) rest) t)

  reading_starts : (text : List ℕ) → Tells reader.kinds (Start form edition layout rounds) (lines_from [] text) → (reading reader text).number ≡ 0
      → Started form edition layout rounds (reading reader text).progress
  reading_starts text t =
      text_read reader text (λ (r : Reading). Started form edition layout rounds r.progress)
      (λ one. told_starts nothing_read nothing_said 1 (lines_from [] text) t)

pub run_starts : (text : List ℕ) → (run_reading text).number ≡ 0 → (form : Form) (edition layout : ℕ) (rounds : Option ℕ)
    → Tells run_kinds (Start form edition layout rounds) (lines_from [] text) → Started form edition layout rounds (run_reading text).progress
run_starts text h form edition layout rounds t =
    let e = run_is text h in
    subst (λ (r : Reading). Started form edition layout rounds r.progress) (sym e)
    (reading_starts run_reader form edition layout rounds text t (sym (ap (λ (r : Reading). r.number) e) ∙ h))

-- ---- later notices

same_later : (p : Progress) (said : Lists) (frame : Frame) → ((round edition layout : ℕ) → frame ≡ Later round edition layout → ⊥)
    → (said_after p said frame).later ≡ said.later
unfolding said_after
same_later p said Foreign n = refl
same_later p said Unknown n = refl
same_later p said (Head t source f) n = refl
same_later p said (Link from to) n = refl
same_later p said (Group x) n = refl
same_later p said (Channel layout) n = refl
same_later p said (FaultSet x) n = refl
same_later p said (Start form edition layout rounds) n = refl
same_later p said (Later round edition layout) n = absurd (n round edition layout refl)
same_later p said (Message form round from to edition layout) n = refl
same_later p said (Broadcast round from layout) n = refl

told_no_later : (reader : Reader) (p : Progress) (said : Lists) (k : ℕ) (lines : List Line) → NoLater reader.kinds lines
    → (told reader p said k lines).number ≡ 0 → (told reader p said k lines).said.later ≡ said.later
unfolding told
told_no_later reader p said k [] n = end_read reader p said k (λ (r : Reading). r.said.later ≡ said.later) (λ c. refl)
told_no_later reader p said k (cut line ∷ rest) n = λ z. absurd (omega arith)
told_no_later reader p said k (ended line ∷ rest) n =
    line_read reader p said k line rest (λ (r : Reading). r.said.later ≡ said.later)
    (λ c z.
    told_no_later reader (after p (frame_of reader.kinds line)) (said_after p said (frame_of reader.kinds line)) (k + 1) rest
    (λ r e l t. n r e l (inr t)) z
    ∙ same_later p said (frame_of reader.kinds line) (λ r e l q. n r e l (inl q)))

pub run_no_later : (text : List ℕ) → (run_reading text).number ≡ 0 → NoLater run_kinds (lines_from [] text) → (run_reading text).said.later ≡ no_later
run_no_later text h n =
    let e = run_is text h in
    ap (λ (r : Reading). r.said.later) e
    ∙ text_read run_reader text (λ (r : Reading). r.said.later ≡ no_later) (λ one. told_no_later run_reader nothing_read nothing_said 1 (lines_from [] text) n)
    (sym (ap (λ (r : Reading). r.number) e) ∙ h)

-- ---- a shared channel

same_default : (p : Progress) (frame : Frame) → ((layout : ℕ) → frame ≡ Channel layout → ⊥) → p.default ≡ 0 → (after p frame).default ≡ 0
unfolding after
same_default p Foreign n e = e
same_default p Unknown n e = e
same_default p (Head t source f) n e = refl
same_default p (Link from to) n e = refl
same_default p (Group x) n e = refl
same_default p (Channel layout) n e = absurd (n layout refl)
same_default p (FaultSet x) n e = e
same_default p (Start form edition layout rounds) n e = e
same_default p (Later round edition layout) n e = e
same_default p (Message form round from to edition layout) n e = e
same_default p (Broadcast round from layout) n e = e

told_no_channel : (reader : Reader) (p : Progress) (said : Lists) (k : ℕ) (lines : List Line) → NoChannel reader.kinds lines → p.default ≡ 0
    → (told reader p said k lines).number ≡ 0 → (told reader p said k lines).progress.default ≡ 0
unfolding told
told_no_channel reader p said k [] n e = end_read reader p said k (λ (r : Reading). r.progress.default ≡ 0) (λ c. e)
told_no_channel reader p said k (cut line ∷ rest) n e = λ z. absurd (omega arith)
told_no_channel reader p said k (ended line ∷ rest) n e =
    line_read reader p said k line rest (λ (r : Reading). r.progress.default ≡ 0)
    (λ c.
    told_no_channel reader (after p (frame_of reader.kinds line)) (said_after p said (frame_of reader.kinds line)) (k + 1) rest
    (λ l t. n l (inr t)) (same_default p (frame_of reader.kinds line) (λ l q. n l (inl q)) e))

-- without a default layout the channel is not shared
pub run_no_channel : (text : List ℕ) → (run_reading text).number ≡ 0 → NoChannel run_kinds (lines_from [] text) → is_shared (run_reading text).progress ≡ false
unfolding is_shared
run_no_channel text h n =
    let e = run_is text h in
    let z : (run_reading text).progress.default ≡ 0 =
    ap (λ (r : Reading). r.progress.default) e
    ∙ text_read run_reader text (λ (r : Reading). r.progress.default ≡ 0) (λ one. told_no_channel run_reader nothing_read nothing_said 1 (lines_from [] text) n refl)
    (sym (ap (λ (r : Reading). r.number) e) ∙ h) in
    not_yes (eq-eqb (run_reading text).progress.default 0 z)
