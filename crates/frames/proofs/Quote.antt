-- The quoting desk's reader beside the others, and what its limit leaves. Assumes nothing.
use Prim.Native.Nat.{ℕ, ◌+◌, ◌≤◌}
use mathlib.Core.Path.{◌≡◌, refl, sym, ap, ◌∙◌}
use mathlib.Core.Logic.{⊎_elim}
use mathlib.Core.Bool.{true, false, not}
use mathlib.Core.List.{List, [], ◌∷◌}
use native.Mathlib.Omega.{arith}
use lib.Dec.{eqb, leb}
use lib.ListN.{length}
use borrow.Author.Tests.{ne_eqb, ltb-true, ltb-false}
use Rattle.sets.specs.Tests.{◌and◌}
use Rattle.sets.proofs.Bools.{decide, and_i, not_i, pick_case}
use Rattle.sets.proofs.Causes.{lacks, cause_lacks}
use Rattle.quorum.specs.declared.BoundKind.{BoundKind}
use Rattle.quorum.specs.Quorum.{in_range}
use Rattle.plan.specs.Plan.{most_quoted, cause_of}
use Rattle.plan.proofs.Laws.{not_fourteen}
use Rattle.faults.specs.Check.{fault_cause_of, shared_fault_cause_of}
use Rattle.lines.specs.declared.Frame.{Frame}
use Rattle.lines.specs.declared.Frame.TheVariants.{Foreign, Unknown, Head, Link, Group, Channel, FaultSet, Start, Later, Message, Broadcast}
use Rattle.lines.specs.Frames.{frame_of}
use Rattle.frames.specs.declared.Heads.{Heads}
use Rattle.frames.specs.declared.Progress.{Progress}
use Rattle.frames.specs.declared.Reader.{Reader}
use Rattle.frames.specs.Lines.{Line, ended, cut, lines_from}
use Rattle.frames.specs.Reading.{most_bytes, all_heads, plan_reader, archive_reader, quote_reader, run_reader, is_started, is_shared, kind_read, nothing_read, Lists, nothing_said, head_cause, link_cause, group_cause, channel_cause, bad_set_cause, fault_set_cause, start_cause, later_cause, message_cause, broadcast_cause, cause_in, untaken_cause, heads_cause, line_cause, ends_links, links_cause, end_cause, linked, grouped, after, said_after, Reading, refusal, told, reading, whole, plan_reading, archive_reading, quote_reading, margins_reading, drawing_reading, run_reading}
use Rattle.frames.specs.Quote.{quoted_above, file_above, Quoting}
use Rattle.frames.specs.Margins.{file_grouped}
use Rattle.frames.proofs.Unless.{unless_never}
use Rattle.frames.proofs.Limits.{taken, untaken_above, taken_is}
use Rattle.frames.proofs.Keeps.{limit_free}
use Rattle.frames.proofs.Taking.{reading_takes, file_untaken, file_alike}
use Rattle.frames.proofs.Margins.{measuring}
use Rattle.frames.proofs.Drawing.{drawn}

-- ---- an accepted file has no more terminals than its reader takes

frame_most : (heads : Heads) (p : Progress) (frame : Frame) → p.plan.n ≤ heads.most → heads_cause heads frame ≡ 0 → (after p frame).plan.n ≤ heads.most
unfolding heads_cause after linked grouped
frame_most heads p Foreign i h = i
frame_most heads p Unknown i h = i
frame_most heads p (Head n source f) i h = (taken_is heads n (kind_read f) h).0
frame_most heads p (Link from to) i h = i
frame_most heads p (Group s) i h = i
frame_most heads p (Channel layout) i h = i
frame_most heads p (FaultSet s) i h = i
frame_most heads p (Start form edition layout rounds) i h = i
frame_most heads p (Later round edition layout) i h = i
frame_most heads p (Message form round from to edition layout) i h = i
frame_most heads p (Broadcast round from layout) i h = i

pub quoted_most : (text : List ℕ) → (quote_reading text).number ≡ 0 → (quote_reading text).progress.plan.n ≤ most_quoted
unfolding quote_reading
quoted_most text h =
    reading_takes quote_reader (λ (p : Progress). p.plan.n ≤ most_quoted) (λ p said frame i z c. frame_most quote_reader.heads p frame i c) text (omega arith) h

-- ---- 14 is told by no reader that takes all heads

bad_set_never : (p : Progress) (s : ℕ) → bad_set_cause p s ≡ 14 → ⊥
unfolding bad_set_cause fault_cause_of shared_fault_cause_of lacks ◌and◌
bad_set_never p s =
    let plan = not_i (ne_eqb (cause_of p.plan) 14 (not_fourteen p.plan)) in
    pick_case (λ (c : ℕ). c ≡ 14 → ⊥) (is_shared p) (shared_fault_cause_of p.plan s) (fault_cause_of p.plan s)
    (λ t. cause_lacks 14 _ (λ z. omega arith) (and_i _ _ plan refl)) (λ t. cause_lacks 14 _ (λ z. omega arith) (and_i _ _ plan refl))

frame_never : (p : Progress) (said : Lists) (frame : Frame) → cause_in p said frame ≡ 14 → ⊥
unfolding cause_in head_cause link_cause group_cause channel_cause fault_set_cause start_cause later_cause message_cause broadcast_cause lacks ◌and◌
frame_never p said Foreign h = omega arith
frame_never p said Unknown h = omega arith
frame_never p said (Head n source f) h = cause_lacks 14 _ (λ z. omega arith) refl h
frame_never p said (Link from to) h = cause_lacks 14 _ (λ z. omega arith) refl h
frame_never p said (Group s) h = cause_lacks 14 _ (λ z. omega arith) refl h
frame_never p said (Channel layout) h = cause_lacks 14 _ (λ z. omega arith) refl h
frame_never p said (FaultSet s) h =
    cause_lacks 14 _ (λ z. omega arith) (and_i _ _ refl (and_i _ _ (not_i (ne_eqb (bad_set_cause p s) 14 (bad_set_never p s))) refl)) h
frame_never p said (Start form edition layout rounds) h = cause_lacks 14 _ (λ z. omega arith) refl h
frame_never p said (Later round edition layout) h = cause_lacks 14 _ (λ z. omega arith) refl h
frame_never p said (Message form round from to edition layout) h = cause_lacks 14 _ (λ z. omega arith) refl h
frame_never p said (Broadcast round from layout) h = cause_lacks 14 _ (λ z. omega arith) refl h

module _ (reader : Reader) (m : reader.heads ≡ all_heads) where
  links_never : (p : Progress) → links_cause reader p ≡ 14 → ⊥
  unfolding links_cause lacks ◌and◌
  links_never p h = cause_lacks 14 _ (λ z. omega arith) refl h

  end_never : (p : Progress) (frame : Frame) → end_cause reader p frame ≡ 14 → ⊥
  unfolding end_cause
  end_never p frame =
      pick_case (λ (c : ℕ). c ≡ 14 → ⊥) (ends_links p.plan.bound.kind frame) (links_cause reader p) 0 (λ t. links_never p) (λ t h. omega arith)

  told_never : (p : Progress) (said : Lists) (k : ℕ) (lines : List Line) → (told reader p said k lines).number ≡ 14 → ⊥
  unfolding told
  told_never p said k [] = unless_never (links_cause reader p) 0 _ (links_never p) (λ h. omega arith)
  told_never p said k (cut line ∷ rest) = λ h. omega arith
  told_never p said k (ended line ∷ rest) =
      unless_never (end_cause reader p (frame_of reader.kinds line)) 0 _ (end_never p (frame_of reader.kinds line))
      (unless_never (line_cause reader.heads p said (frame_of reader.kinds line)) k _
      (λ h. frame_never p said (frame_of reader.kinds line) (sym (limit_free reader.heads p said (frame_of reader.kinds line) m) ∙ h))
      (told_never (after p (frame_of reader.kinds line)) (said_after p said (frame_of reader.kinds line)) (k + 1) rest))

  reading_never : (text : List ℕ) → (reading reader text).number ≡ 14 → ⊥
  unfolding reading
  reading_never text =
      pick_case (λ (r : Reading). r.number ≡ 14 → ⊥) (leb 1 (length text) and leb (length text) most_bytes)
      (told reader nothing_read nothing_said 1 (lines_from [] text)) (refusal 1 0)
      (λ t. told_never nothing_read nothing_said 1 (lines_from [] text)) (λ t h. omega arith)

-- ---- the file

above_refused : (n source : ℕ) (kind : BoundKind) → in_range n source kind ≡ true → quoted_above n kind ≡ true
    → untaken_cause quote_reader.heads n kind ≡ 14
above_refused n source kind r h = untaken_above quote_reader.heads n kind (ltb-true most_quoted n h)

below_taken : (n source : ℕ) (kind : BoundKind) → in_range n source kind ≡ true → quoted_above n kind ≡ false → untaken_cause quote_reader.heads n kind ≡ 0
below_taken n source kind r h = taken quote_reader.heads n kind (ltb-false most_quoted n h) (λ l. refl)

module _ (text : List ℕ) where
  text_above : file_above text ≡ true → quote_reading text ≡ refusal 14 1
  unfolding file_above quote_reading
  text_above h = file_untaken false quote_reader.heads quoted_above 14 (λ z. omega arith) above_refused below_taken text h

  text_alike : file_above text ≡ false → quote_reading text ≡ plan_reading text
  unfolding file_above plan_reading quote_reading
  text_alike h = file_alike false quote_reader.heads quoted_above 14 (λ z. omega arith) above_refused below_taken text h

  text_never : (plan_reading text).number ≡ 14 → ⊥
  unfolding plan_reading
  text_never h = reading_never plan_reader refl text h

  archive_never : (archive_reading text).number ≡ 14 → ⊥
  unfolding archive_reading
  archive_never h = reading_never archive_reader refl text h

  -- the readers of margins and of drawings refuse by 4, or as that of new plans and that of the archive do
  groupless_never : (r free : Reading) → (file_grouped text ≡ true → r ≡ refusal 4 1) → (file_grouped text ≡ false → r ≡ free)
      → (free.number ≡ 14 → ⊥) → r.number ≡ 14 → ⊥
  groupless_never r free refused alike never h =
      ⊎_elim (λ t. let e = ap (λ (x : Reading). x.number) (refused t) in omega arith)
      (λ t. never (sym (ap (λ (x : Reading). x.number) (alike t)) ∙ h)) (decide (file_grouped text))

  margins_never : (margins_reading text).number ≡ 14 → ⊥
  margins_never = groupless_never _ _ (measuring text).grouped (measuring text).alike text_never

  drawing_never : (drawing_reading text).number ≡ 14 → ⊥
  drawing_never = groupless_never _ _ (drawn text).grouped (drawn text).alike archive_never

  -- a run file without its start is refused by 3
  run_never : (run_reading text).number ≡ 14 → ⊥
  unfolding run_reading whole
  run_never =
      pick_case (λ (r : Reading). r.number ≡ 14 → ⊥) (eqb (reading run_reader text).number 0 and not (is_started (reading run_reader text).progress)) (refusal 3 0)
      (reading run_reader text) (λ t h. omega arith) (λ t. reading_never run_reader refl text)

  pub quoting : Quoting text
  quoting = record {
    above = text_above;
    alike = text_alike;
    never = text_never;
    never_archived = archive_never;
    never_measured = margins_never;
    never_drawn = drawing_never;
    never_run = run_never;
  }
