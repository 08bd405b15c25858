-- What a reader leaves by the heads that it takes; and one of plan files that takes fewer, beside the one that takes all and is else the same: the first
-- line decides. Assumes nothing.
use Prim.Native.Nat.{ℕ, ◌+◌}
use mathlib.Core.Path.{◌≡◌, refl, sym, ap, ◌∙◌}
use mathlib.Core.Logic.{⊎_elim}
use mathlib.Core.Bool.{Bool, true, false}
use mathlib.Core.List.{List, [], ◌∷◌}
use native.Mathlib.Omega.{arith}
use lib.Dec.{leb}
use lib.ListN.{length}
use Rattle.sets.specs.Tests.{◌and◌}
use Rattle.sets.proofs.Bools.{clash, decide, and_l, and_r, and_yes, no_by, pick_yes, pick_no}
use Rattle.sets.proofs.Laws.{equal_or_not}
use Rattle.quorum.specs.declared.BoundKind.{BoundKind}
use Rattle.quorum.specs.Quorum.{in_range}
use Rattle.lines.specs.declared.Frame.{Frame}
use Rattle.lines.specs.declared.Frame.TheVariants.{Foreign, Unknown, Head, Link, Group, Channel, FaultSet, Start, Later, Message, Broadcast}
use Rattle.lines.specs.Frames.{frame_of}
use Rattle.frames.specs.declared.Heads.{Heads}
use Rattle.frames.specs.declared.Progress.{Progress}
use Rattle.frames.specs.declared.Reader.{Reader}
use Rattle.frames.specs.Lines.{Line, ended, cut, lines_from}
use Rattle.frames.specs.Reading.{most_bytes, plan_kinds, all_heads, stage_of, is_at, nothing_read, Lists, nothing_said, kind_read, cause_in, untaken_cause, heads_cause, line_cause, links_cause, end_cause, after, said_after, Reading, refusal, unless, told, reading}
use Rattle.frames.specs.Begins.{head_where, first_where, file_where}
use Rattle.frames.proofs.Unless.{unless_none, unless_some}
use Rattle.frames.proofs.Limits.{limit_none, limit_untaken, limit_unless}
use Rattle.frames.proofs.EndLaws.{links_elsewhere, end_none}
use Rattle.frames.proofs.Keeps.{plan_stage, head_accepted, frame_stage, limit_free, line_causes, end_read, text_read}
use Rattle.frames.proofs.TellLaws.{head_right}

-- ---- what every frame keeps that is accepted and that the reader takes, an accepted file keeps

module _ (reader : Reader) (I : Progress → Type 0)
    (kept :
    (p : Progress) (said : Lists) (frame : Frame) → I p → cause_in p said frame ≡ 0 → heads_cause reader.heads frame ≡ 0 → I (after p frame)) where
  told_takes : (p : Progress) (said : Lists) (k : ℕ) (lines : List Line) → I p → (told reader p said k lines).number ≡ 0
      → I (told reader p said k lines).progress
  unfolding told
  told_takes p said k [] i = end_read reader p said k (λ (r : Reading). I r.progress) (λ c. i)
  told_takes p said k (cut line ∷ rest) i = λ z. absurd (omega arith)
  told_takes p said k (ended line ∷ rest) i =
      line_causes reader p said k line rest (λ (r : Reading). I r.progress)
      (λ e c.
      let a = limit_none reader.heads p said (frame_of reader.kinds line) c in
      told_takes (after p (frame_of reader.kinds line)) (said_after p said (frame_of reader.kinds line)) (k + 1) rest
      (kept p said (frame_of reader.kinds line) i a.0 a.1))

  pub reading_takes : (text : List ℕ) → I nothing_read → (reading reader text).number ≡ 0 → I (reading reader text).progress
  reading_takes text i =
      text_read reader text (λ (r : Reading). I r.progress) (λ one. told_takes nothing_read nothing_said 1 (lines_from [] text) i)

-- ---- beside the reader of plan files that takes all heads: that of new plans, or that of the archive

-- one that opens plans with a deaf terminal too, or does not
abbrev pub reader_of : (archive : Bool) → Heads → Reader
reader_of archive heads = record { kinds = plan_kinds; archive = archive; heads = heads }

module _ (archive : Bool) (few : Heads) where
  abbrev taking : Reader
  taking = reader_of archive few

  abbrev free : Reader
  free = reader_of archive all_heads

  abbrev following : Reader → Progress → Lists → ℕ → Frame → List Line → Reading
  following reader p said k frame rest = told reader (after p frame) (said_after p said frame) (k + 1) rest

  -- a line of which both find the same
  same_line : (p : Progress) (said : Lists) (k : ℕ) (line : List ℕ) (rest : List Line)
      → line_cause few p said (frame_of plan_kinds line) ≡ cause_in p said (frame_of plan_kinds line)
      → (cause_in p said (frame_of plan_kinds line) ≡ 0
      → following taking p said k (frame_of plan_kinds line) rest ≡ following free p said k (frame_of plan_kinds line) rest)
      → told taking p said k (ended line ∷ rest) ≡ told free p said k (ended line ∷ rest)
  unfolding told end_cause links_cause
  same_line p said k line rest e next =
      ap (unless (end_cause taking p (frame_of plan_kinds line)) 0)
      (ap (λ (c : ℕ). unless c k (following taking p said k (frame_of plan_kinds line) rest)) e
      ∙ ⊎_elim (λ z. ap (unless (cause_in p said (frame_of plan_kinds line)) k) (next z)) (λ n. unless_some _ k _ n ∙ sym (unless_some _ k _ n))
      (equal_or_not (cause_in p said (frame_of plan_kinds line)) 0)
      ∙ ap (λ (c : ℕ). unless c k (following free p said k (frame_of plan_kinds line) rest))
      (sym (limit_free all_heads p said (frame_of plan_kinds line) refl)))

  -- after the head it does not matter which heads a reader takes
  same_later : (p : Progress) (said : Lists) (k : ℕ) (lines : List Line) → (stage_of p.stage ≡ 0 → ⊥)
      → told taking p said k lines ≡ told free p said k lines
  unfolding told links_cause
  same_later p said k [] s = refl
  same_later p said k (cut line ∷ rest) s = refl
  same_later p said k (ended line ∷ rest) s =
      same_line p said k line rest
      (limit_unless few p said (frame_of plan_kinds line) (λ n source f e z. absurd (s (head_accepted p said n source f z).0)))
      (λ z.
      same_later (after p (frame_of plan_kinds line)) (said_after p said (frame_of plan_kinds line)) (k + 1) rest (frame_stage p said (frame_of plan_kinds line) z))

  -- of the heads in range the reader refuses those by this cause of which the test holds, and takes the others
  module _ (test : (n : ℕ) → BoundKind → Bool) (cause : ℕ) (some : cause ≡ 0 → ⊥)
      (refuses : (n source : ℕ) (kind : BoundKind) → in_range n source kind ≡ true → test n kind ≡ true → untaken_cause few n kind ≡ cause)
      (takes : (n source : ℕ) (kind : BoundKind) → in_range n source kind ≡ true → test n kind ≡ false → untaken_cause few n kind ≡ 0) where
    first_untaken : (frame : Frame) → head_where test frame ≡ true → (cause_in nothing_read nothing_said frame ≡ 0) × (heads_cause few frame ≡ cause)
    unfolding cause_in heads_cause is_at
    first_untaken Foreign h = clash h refl
    first_untaken Unknown h = clash h refl
    first_untaken (Head n source f) h =
        (head_right nothing_read n source f _ refl refl (and_l _ _ h), refuses n source (kind_read f) (and_l _ _ h) (and_r _ _ h))
    first_untaken (Link from to) h = clash h refl
    first_untaken (Group s) h = clash h refl
    first_untaken (Channel layout) h = clash h refl
    first_untaken (FaultSet s) h = clash h refl
    first_untaken (Start form edition layout rounds) h = clash h refl
    first_untaken (Later round edition layout) h = clash h refl
    first_untaken (Message form round from to edition layout) h = clash h refl
    first_untaken (Broadcast round from layout) h = clash h refl

    lines_untaken : (lines : List Line) → first_where test lines ≡ true → told taking nothing_read nothing_said 1 lines ≡ refusal cause 1
    unfolding told
    lines_untaken [] h = clash h refl
    lines_untaken (cut line ∷ rest) h = clash h refl
    lines_untaken (ended line ∷ rest) h =
        let a = first_untaken (frame_of plan_kinds line) h in
        let c = limit_untaken few nothing_read nothing_said (frame_of plan_kinds line) a.0 (λ z. some (sym a.1 ∙ z)) ∙ a.1 in
        unless_none (end_cause taking nothing_read (frame_of plan_kinds line)) 0 _
        (end_none taking nothing_read (frame_of plan_kinds line)
        (links_elsewhere taking nothing_read (no_by (λ t. let o = (plan_stage nothing_read t).0 in omega arith))))
        ∙ unless_some (line_cause few nothing_read nothing_said (frame_of plan_kinds line)) 1 _ (λ z. some (sym c ∙ z))
        ∙ ap (λ (x : ℕ). refusal x 1) c

    lines_alike : (lines : List Line) → first_where test lines ≡ false
        → told taking nothing_read nothing_said 1 lines ≡ told free nothing_read nothing_said 1 lines
    unfolding told links_cause
    lines_alike [] h = refl
    lines_alike (cut line ∷ rest) h = refl
    lines_alike (ended line ∷ rest) h =
        same_line nothing_read nothing_said 1 line rest
        (limit_unless few nothing_read nothing_said (frame_of plan_kinds line)
        (λ n source f e z.
        let t = (head_accepted nothing_read nothing_said n source f z).1 in
        takes n source (kind_read f) t (sym (and_yes _ _ t) ∙ sym (ap (head_where test) e) ∙ h)))
        (λ z.
        same_later (after nothing_read (frame_of plan_kinds line)) (said_after nothing_read nothing_said (frame_of plan_kinds line)) (1 + 1) rest
        (frame_stage nothing_read nothing_said (frame_of plan_kinds line) z))

    -- the file
    module _ (text : List ℕ) where
      abbrev fitting : Bool
      fitting = leb 1 (length text) and leb (length text) most_bytes

      pub file_untaken : file_where test text ≡ true → reading taking text ≡ refusal cause 1
      unfolding file_where reading
      file_untaken h = pick_yes _ _ _ (and_l fitting _ h) ∙ lines_untaken (lines_from [] text) (and_r fitting _ h)

      pub file_alike : file_where test text ≡ false → reading taking text ≡ reading free text
      unfolding file_where reading
      file_alike h =
          ⊎_elim (λ t. pick_yes _ _ _ t ∙ lines_alike (lines_from [] text) (sym (and_yes fitting _ t) ∙ h) ∙ sym (pick_yes _ _ _ t))
          (λ t. pick_no _ _ _ t ∙ sym (pick_no _ _ _ t)) (decide fitting)
