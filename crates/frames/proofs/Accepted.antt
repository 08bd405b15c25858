-- What an accepted file tells: its plan is sound, its bad set is one of the plan, its notices and rounds are in range. Assumes nothing.
use Prim.Native.Nat.{ℕ, ◌+◌, ◌≤◌, ◌<◌}
use mathlib.Core.Path.{◌≡◌, refl, sym, ap, ◌∙◌, subst}
use mathlib.Core.Logic.{◌⊎◌, inl, inr, ⊎_elim}
use mathlib.Core.Bool.{true, false, not}
use mathlib.Core.List.{List, [], ◌∷◌}
use native.Mathlib.Omega.{arith}
use lib.Dec.{eqb, leb}
use lib.ListN.{length, get_or, take}
use borrow.Author.Tests.{eq-eqb}
use Rattle.sets.specs.Tests.{◌and◌}
use Rattle.sets.proofs.Bools.{clash, decide, and_yes, not_no, pick_yes, pick_no, pick_case}
use Rattle.sets.proofs.Laws.{equal_or_not, below_or_not}
use Rattle.quorum.specs.Notice.{edition_of, layout_of, rising}
use Rattle.quorum.specs.Words.{most_rounds, most_words, start_sound}
use Rattle.quorum.proofs.Words.{start_parts}
use Rattle.plan.specs.Plan.{cause_of}
use Rattle.faults.specs.Check.{fault_cause_of, shared_fault_cause_of}
use Rattle.lines.specs.declared.Form.TheVariants.{Old}
use Rattle.lines.specs.declared.Frame.{Frame}
use Rattle.lines.specs.declared.Frame.TheVariants.{Foreign, Unknown, Head, Link, Group, Channel, FaultSet, Start, Later, Message, Broadcast}
use Rattle.lines.specs.Frames.{frame_of}
use Rattle.frames.specs.declared.Progress.{Progress}
use Rattle.frames.specs.declared.Reader.{Reader}
use Rattle.frames.specs.Lines.{Line, ended, cut, lines_from}
use Rattle.frames.specs.Reading.{most_bytes, plan_reader, run_reader, archive_reader, stage_of, in_plan, is_started, is_shared, lists_none, nothing_read, Lists, no_later, nothing_said, bad_set_cause, cause_in, line_cause, ends_links, links_cause, end_cause, after, said_after, Reading, refusal, told, reading, whole, plan_reading, archive_reading, run_reading}
use Rattle.frames.proofs.Unless.{unless_refused}
use Rattle.frames.proofs.EndLaws.{links_listed, end_here}
use Rattle.frames.proofs.Built.{Built, Whole, built_whole, built_twenty}
use Rattle.frames.proofs.Keeps.{stage_plan, started_stage, channel_accepted, fault_set_accepted, start_accepted, later_accepted, message_accepted, broadcast_accepted, frame_stage, frame_built, line_ends_lem, line_read, end_read, text_read, reading_keeps}
use Rattle.frames.proofs.Rising.{rises_all, rises_part}
use Rattle.frames.proofs.Issued.{Issued, reading_issued}

-- ---- the end of the file

-- where it ends nothing refuses the links
pub told_ends : (reader : Reader) (p : Progress) (said : Lists) (k : ℕ) (lines : List Line) → (told reader p said k lines).number ≡ 0
    → links_cause reader (told reader p said k lines).progress ≡ 0
unfolding told
told_ends reader p said k [] = end_read reader p said k (λ (r : Reading). links_cause reader r.progress ≡ 0) (λ c. c)
told_ends reader p said k (cut line ∷ rest) = λ z. absurd (omega arith)
told_ends reader p said k (ended line ∷ rest) =
    line_read reader p said k line rest (λ (r : Reading). links_cause reader r.progress ≡ 0)
    (λ c. told_ends reader (after p (frame_of reader.kinds line)) (said_after p said (frame_of reader.kinds line)) (k + 1) rest)

pub reading_ends : (reader : Reader) (text : List ℕ) → (reading reader text).number ≡ 0 → links_cause reader (reading reader text).progress ≡ 0
reading_ends reader text =
    text_read reader text (λ (r : Reading). links_cause reader r.progress ≡ 0) (λ one. told_ends reader nothing_read nothing_said 1 (lines_from [] text))

-- ---- where the links have ended no group is missing: that was looked at there

abbrev Listed : Progress → Type 0
Listed p = 3 ≤ stage_of p.stage → lists_none p.plan.bound.kind ≡ false

past_plan : (p : Progress) → 1 ≤ stage_of p.stage → in_plan p ≡ false → 3 ≤ stage_of p.stage
past_plan p s h = ⊎_elim (λ b. b) (λ b. clash (stage_plan p s b) h) (below_or_not 2 (stage_of p.stage))

frame_listed : (reader : Reader) (p : Progress) (said : Lists) (frame : Frame) → Listed p → end_cause reader p frame ≡ 0 → cause_in p said frame ≡ 0
    → Listed (after p frame)
unfolding cause_in after ends_links
frame_listed reader p said Foreign i e h l = absurd (omega arith)
frame_listed reader p said Unknown i e h l = absurd (omega arith)
frame_listed reader p said (Head n source f) i e h l = absurd (omega arith)
frame_listed reader p said (Link from to) i e h l = absurd (omega arith)
frame_listed reader p said (Group s) i e h l = absurd (omega arith)
frame_listed reader p said (Channel layout) i e h l =
    let a = channel_accepted p said layout h in
    links_listed reader p (stage_plan p a.0 a.1) (sym (end_here reader p (Channel layout) refl) ∙ e)
frame_listed reader p said (FaultSet s) i e h l =
    ⊎_elim (λ t. links_listed reader p t (sym (end_here reader p (FaultSet s) refl) ∙ e)) (λ t. i (past_plan p (fault_set_accepted p said s h).0 t))
    (decide (in_plan p))
frame_listed reader p said (Start form edition layout rounds) i e h l = i (omega (arith, (start_accepted p said form edition layout rounds h).0))
frame_listed reader p said (Later round edition layout) i e h l = i (omega (arith, (later_accepted p said round edition layout h).0))
frame_listed reader p said (Message form round from to edition layout) i e h l =
    i (omega (arith, message_accepted p said form round from to edition layout h))
frame_listed reader p said (Broadcast round from layout) i e h l = i (omega (arith, broadcast_accepted p said round from layout h))

told_listed : (reader : Reader) (p : Progress) (said : Lists) (k : ℕ) (lines : List Line) → Listed p → (told reader p said k lines).number ≡ 0
    → Listed (told reader p said k lines).progress
unfolding told
told_listed reader p said k [] i = end_read reader p said k (λ (r : Reading). Listed r.progress) (λ c. i)
told_listed reader p said k (cut line ∷ rest) i = λ z. absurd (omega arith)
told_listed reader p said k (ended line ∷ rest) i =
    line_ends_lem reader p said k line rest (λ (r : Reading). Listed r.progress)
    (λ e c.
    told_listed reader (after p (frame_of reader.kinds line)) (said_after p said (frame_of reader.kinds line)) (k + 1) rest
    (frame_listed reader p said (frame_of reader.kinds line) i e c))

reading_listed : (reader : Reader) (text : List ℕ) → (reading reader text).number ≡ 0 → Listed (reading reader text).progress
reading_listed reader text =
    text_read reader text (λ (r : Reading). Listed r.progress)
    (λ one. told_listed reader nothing_read nothing_said 1 (lines_from [] text) (λ l. absurd (omega arith)))

-- ---- what is known of each stage

-- once a line was read: a plan, but that a group may be missing; from stage 4 a bad set of it; and on a shared channel the old form
pub record Known (p : Progress) : Type 0 where
  pub begun : stage_of p.stage ≡ 0 → ⊥
  pub plan_built : Built p.plan
  pub bad_set : 4 ≤ stage_of p.stage → bad_set_cause p p.faulty ≡ 0
  pub shared_form : is_shared p ≡ true → p.form ≡ Old

module _ (p : Progress) (said : Lists) where
  -- what was known at a stage that is not 0
  was : (stage_of p.stage ≡ 0) ⊎ Known p → (stage_of p.stage ≡ 0 → ⊥) → Known p
  was (inl s) n = absurd (n s)
  was (inr i) n = i

  frame_bad_set : (frame : Frame) → (stage_of p.stage ≡ 0) ⊎ Known p → cause_in p said frame ≡ 0 → 4 ≤ stage_of (after p frame).stage
      → bad_set_cause (after p frame) (after p frame).faulty ≡ 0
  unfolding cause_in after bad_set_cause is_shared
  frame_bad_set Foreign i h l = absurd (omega arith)
  frame_bad_set Unknown i h l = absurd (omega arith)
  frame_bad_set (Head n source f) i h l = absurd (omega arith)
  frame_bad_set (Link from to) i h l = absurd (omega arith)
  frame_bad_set (Group s) i h l = absurd (omega arith)
  frame_bad_set (Channel layout) i h l = absurd (omega arith)
  frame_bad_set (FaultSet s) i h l = (fault_set_accepted p said s h).2
  frame_bad_set (Start form edition layout rounds) i h l =
      let s = (start_accepted p said form edition layout rounds h).0 in (was i (λ z. omega arith)).bad_set (omega arith)
  frame_bad_set (Later round edition layout) i h l =
      let s = (later_accepted p said round edition layout h).0 in (was i (λ z. omega arith)).bad_set (omega arith)
  frame_bad_set (Message form round from to edition layout) i h l =
      let s = message_accepted p said form round from to edition layout h in (was i (λ z. omega arith)).bad_set (omega arith)
  frame_bad_set (Broadcast round from layout) i h l =
      let s = broadcast_accepted p said round from layout h in (was i (λ z. omega arith)).bad_set (omega arith)

  frame_shared_form : (frame : Frame) → (stage_of p.stage ≡ 0) ⊎ Known p → cause_in p said frame ≡ 0 → is_shared (after p frame) ≡ true
      → (after p frame).form ≡ Old
  unfolding cause_in after is_shared
  frame_shared_form Foreign i h c = absurd (omega arith)
  frame_shared_form Unknown i h c = absurd (omega arith)
  frame_shared_form (Head n source f) i h c = refl
  frame_shared_form (Link from to) i h c = refl
  frame_shared_form (Group s) i h c = refl
  frame_shared_form (Channel layout) i h c = refl
  frame_shared_form (FaultSet s) i h c = refl
  frame_shared_form (Start form edition layout rounds) i h c = (start_accepted p said form edition layout rounds h).3 c
  frame_shared_form (Later round edition layout) i h c =
      let s = (later_accepted p said round edition layout h).0 in (was i (λ z. omega arith)).shared_form c
  frame_shared_form (Message form round from to edition layout) i h c =
      let s = message_accepted p said form round from to edition layout h in (was i (λ z. omega arith)).shared_form c
  frame_shared_form (Broadcast round from layout) i h c =
      let s = broadcast_accepted p said round from layout h in (was i (λ z. omega arith)).shared_form c

  frame_known : (frame : Frame) → (stage_of p.stage ≡ 0) ⊎ Known p → cause_in p said frame ≡ 0 → Known (after p frame)
  frame_known frame i h = record {
    begun = frame_stage p said frame h;
    plan_built = frame_built p said frame (λ n. (was i n).plan_built) h;
    bad_set = frame_bad_set frame i h;
    shared_form = frame_shared_form frame i h;
  }

pub reading_known : (reader : Reader) (text : List ℕ) → (reading reader text).number ≡ 0 → Known (reading reader text).progress
reading_known = reading_keeps Known frame_known

-- no group is missing: the links end on a line or at the end of the file
known_whole : (reader : Reader) (p : Progress) → Known p → Listed p → links_cause reader p ≡ 0 → Whole p.plan
known_whole reader p k i e =
    built_whole p.plan k.plan_built
    (⊎_elim (λ h. links_listed reader p h e)
    (λ h. i (past_plan p (⊎_elim (λ b. b) (λ b. absurd (k.begun (omega arith))) (below_or_not 0 (stage_of p.stage))) h)) (decide (in_plan p)))

pub reading_whole : (reader : Reader) (text : List ℕ) → (reading reader text).number ≡ 0 → Whole (reading reader text).progress.plan
reading_whole reader text z = known_whole reader _ (reading_known reader text z) (reading_listed reader text z) (reading_ends reader text z)

-- ---- a refused file: nothing is known of it

told_refused : (reader : Reader) (p : Progress) (said : Lists) (k : ℕ) (lines : List Line) → ((told reader p said k lines).number ≡ 0 → ⊥)
    → (told reader p said k lines).progress ≡ nothing_read
unfolding told
told_refused reader p said k [] = unless_refused (links_cause reader p) 0 _ (λ n. absurd (n refl))
told_refused reader p said k (cut line ∷ rest) = λ n. refl
told_refused reader p said k (ended line ∷ rest) =
    unless_refused (end_cause reader p (frame_of reader.kinds line)) 0 _
    (unless_refused (line_cause reader.heads p said (frame_of reader.kinds line)) k _
    (told_refused reader (after p (frame_of reader.kinds line)) (said_after p said (frame_of reader.kinds line)) (k + 1) rest))

pub reading_refused : (reader : Reader) (text : List ℕ) → ((reading reader text).number ≡ 0 → ⊥) → (reading reader text).progress ≡ nothing_read
unfolding reading
reading_refused reader text =
    pick_case (λ (r : Reading). (r.number ≡ 0 → ⊥) → r.progress ≡ nothing_read) (leb 1 (length text) and leb (length text) most_bytes)
    (told reader nothing_read nothing_said 1 (lines_from [] text)) (refusal 1 0)
    (λ t. told_refused reader nothing_read nothing_said 1 (lines_from [] text)) (λ t n. refl)

-- whatever was read has at most 20 terminals
pub reading_twenty : (reader : Reader) (text : List ℕ) → (reading reader text).progress.plan.n ≤ 20
reading_twenty reader text =
    ⊎_elim (λ z. built_twenty _ (reading_known reader text z).plan_built)
    (λ n. let e = ap (λ (p : Progress). p.plan.n) (reading_refused reader text n) in omega arith) (equal_or_not (reading reader text).number 0)

-- ---- an accepted plan file, and an accepted run file

pub accepted_sound : (text : List ℕ) → (plan_reading text).number ≡ 0 → Whole (plan_reading text).progress.plan
unfolding plan_reading
accepted_sound text h = reading_whole plan_reader text h

pub archived_sound : (text : List ℕ) → (archive_reading text).number ≡ 0 → Whole (archive_reading text).progress.plan
unfolding archive_reading
archived_sound text h = reading_whole archive_reader text h

-- a run file that is accepted has reached the start
whole_stage : (r : Reading) → (whole r).number ≡ 0 → (whole r ≡ r) × (is_started r.progress ≡ true)
unfolding whole
whole_stage r =
    pick_case (λ (x : Reading). x.number ≡ 0 → (x ≡ r) × (is_started r.progress ≡ true))
    (eqb r.number 0 and not (is_started r.progress)) (refusal 3 0) r
    (λ t z. absurd (omega arith)) (λ t z. (refl, not_no _ (sym (and_yes _ _ (eq-eqb r.number 0 z)) ∙ t)))

pub run_is : (text : List ℕ) → (run_reading text).number ≡ 0 → run_reading text ≡ reading run_reader text
unfolding run_reading
run_is text h = (whole_stage (reading run_reader text) h).0

-- what an accepted run file gives: a sound plan and a bad set of it, on a shared channel one that may have the source; a first notice, neither half of
-- which is 0, and at most 40 rounds; the liars' words and the office's later notices at their places, the editions of these rising, and none of them after
-- the last round. In the old form, which a shared channel has, the first notice is of edition 1, and there is no later one
pub record Run (r : Reading) : Type 0 where
  pub plan_sound : cause_of r.progress.plan ≡ 0
  pub bad_set : is_shared r.progress ≡ false → fault_cause_of r.progress.plan r.progress.faulty ≡ 0
  pub shared_bad_set : is_shared r.progress ≡ true → shared_fault_cause_of r.progress.plan r.progress.faulty ≡ 0
  pub shared_form : is_shared r.progress ≡ true → r.progress.form ≡ Old
  pub default_small : r.progress.default < 65536
  pub starts_sound : start_sound (layout_of r.progress.notice) r.progress.rounds ≡ true
  pub some_edition : edition_of r.progress.notice ≡ 0 → ⊥
  pub rounds_within : r.progress.rounds ≤ most_rounds
  pub words_length : length r.said.words ≡ most_words
  pub later_length : length r.said.later ≡ most_rounds
  pub rises : rising (edition_of r.progress.notice) r.said.later ≡ true
  pub rises_played : rising (edition_of r.progress.notice) (take r.progress.rounds r.said.later) ≡ true
  pub none_after : (j : ℕ) → r.progress.rounds ≤ j → get_or r.said.later j 0 ≡ 0
  pub old_edition : r.progress.form ≡ Old → edition_of r.progress.notice ≡ 1
  pub old_later : r.progress.form ≡ Old → r.said.later ≡ no_later

module _ (r : Reading) (plan_sound : cause_of r.progress.plan ≡ 0) (k : Known r.progress) (o : Issued r.progress r.said)
    (s : 5 ≤ stage_of r.progress.stage) where
  run_of : Run r
  unfolding bad_set_cause
  run_of =
      let p = r.progress in
      let f = o.first s in
      let most = (start_parts _ _ f.sound).1 in
      record {
        plan_sound = plan_sound;
        bad_set = λ h. sym (pick_no _ _ _ h) ∙ k.bad_set (omega arith);
        shared_bad_set = λ h. sym (pick_yes _ _ _ h) ∙ k.bad_set (omega arith);
        shared_form = k.shared_form;
        default_small = o.small;
        starts_sound = f.sound;
        some_edition = f.some;
        rounds_within = most;
        words_length = o.places;
        later_length = o.entries;
        rises = rises_all _ r.said.later p.issued p.edition f.rises f.free (omega (arith, f.within, most, o.entries));
        rises_played = rises_part _ r.said.later p.issued p.edition f.rises f.free p.rounds f.within (omega (arith, most, o.entries));
        none_after = λ j h. f.free j (omega (arith, f.within));
        old_edition = λ e. (f.old e).0;
        old_later = λ e. (f.old e).1;
      }

pub run_accepted : (text : List ℕ) → (run_reading text).number ≡ 0 → Run (run_reading text)
unfolding run_reading
run_accepted text h =
    let w = whole_stage (reading run_reader text) h in
    let z = sym (ap (λ (r : Reading). r.number) w.0) ∙ h in
    subst Run (sym w.0)
    (run_of (reading run_reader text) (reading_whole run_reader text z).0 (reading_known run_reader text z) (reading_issued run_reader text z)
    (started_stage (reading run_reader text).progress w.1))
