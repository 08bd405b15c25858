-- The reader of new plans beside that of the archive, whatever kinds they know. Assumes nothing.
use Prim.Native.Nat.{ℕ, ◌+◌, ◌≤◌}
use mathlib.Core.Path.{◌≡◌, refl, sym, ap, ◌∙◌, subst}
use mathlib.Core.Logic.{◌⊎◌, inl, inr, ⊎_elim}
use mathlib.Core.Bool.{true, false}
use mathlib.Core.List.{List, [], ◌∷◌}
use native.Mathlib.Omega.{arith}
use lib.Dec.{leb}
use lib.ListN.{length}
use Rattle.sets.specs.Tests.{◌and◌}
use Rattle.sets.specs.Sets.{mask}
use Rattle.sets.proofs.Bools.{clash, decide, no_by, not_yes, pick_yes, pick_no}
use Rattle.sets.proofs.Laws.{equal_or_not}
use Rattle.plan.specs.Deaf.{deaf_set}
use Rattle.lines.specs.declared.Frame.{Frame}
use Rattle.lines.specs.declared.Frame.TheVariants.{Foreign, Unknown, Head, Link, Group, Channel, FaultSet, Start, Later, Message, Broadcast}
use Rattle.lines.specs.Frames.{frame_of}
use Rattle.frames.specs.declared.Progress.{Progress}
use Rattle.frames.specs.declared.Reader.{Reader}
use Rattle.frames.specs.Lines.{Line, ended, cut, lines_from}
use Rattle.frames.specs.Reading.{most_bytes, plan_kinds, run_kinds, all_heads, stage_of, in_plan, lists_none, nothing_read, Lists, nothing_said, cause_in, ends_links, links_cause, end_cause, after, said_after, Reading, refusal, unless, told, reading, plan_reading, archive_reading, run_reading}
use Rattle.frames.specs.Archive.{Beside}
use Rattle.frames.proofs.Unless.{unless_none, unless_some, unless_read}
use Rattle.frames.proofs.EndLaws.{links_elsewhere, links_none, links_archived, links_heard, links_deaf, end_here, end_later, end_none}
use Rattle.frames.proofs.Keeps.{plan_stage, stage_plan, head_accepted, link_accepted, group_accepted, channel_accepted, fault_set_accepted, start_accepted, later_accepted, message_accepted, broadcast_accepted, frame_stage, limit_free, line_read, told_keeps}
use Rattle.frames.proofs.Accepted.{run_is}

-- ---- what an accepted frame does to the stage

-- from the default layout or the bad set on, the plan stays
later_frame : (p : Progress) (said : Lists) (frame : Frame) → 3 ≤ stage_of p.stage → cause_in p said frame ≡ 0
    → (3 ≤ stage_of (after p frame).stage) × ((after p frame).plan ≡ p.plan)
unfolding cause_in after
later_frame p said Foreign s h = absurd (omega arith)
later_frame p said Unknown s h = absurd (omega arith)
later_frame p said (Head n source f) s h = absurd (omega (arith, (head_accepted p said n source f h).0))
later_frame p said (Link from to) s h = absurd (omega (arith, (link_accepted p said from to h).0))
later_frame p said (Group x) s h = absurd (omega (arith, (group_accepted p said x h).1))
later_frame p said (Channel layout) s h = absurd (omega (arith, (channel_accepted p said layout h).1))
later_frame p said (FaultSet x) s h = (omega arith, refl)
later_frame p said (Start form edition layout rounds) s h = (omega arith, refl)
later_frame p said (Later round edition layout) s h = (omega arith, refl)
later_frame p said (Message form round from to edition layout) s h = (omega arith, refl)
later_frame p said (Broadcast round from layout) s h = (omega arith, refl)

-- the links end with this frame
abbrev Ends : Progress → Frame → Type 0
Ends p frame = (in_plan p ≡ true) × (ends_links p.plan.bound.kind frame ≡ true)

-- before that, the frame is a head, a link or a group, or it is the default layout or the bad set, and the links end with it
early_frame : (p : Progress) (said : Lists) (frame : Frame) → stage_of p.stage ≤ 2 → cause_in p said frame ≡ 0
    → (Ends p frame × (3 ≤ stage_of (after p frame).stage) × ((after p frame).plan ≡ p.plan)) ⊎ ((Ends p frame → ⊥) × (stage_of (after p frame).stage ≤ 2))
unfolding cause_in after ends_links
early_frame p said Foreign s h = absurd (omega arith)
early_frame p said Unknown s h = absurd (omega arith)
early_frame p said (Head n source f) s h =
    let z = (head_accepted p said n source f h).0 in inr (λ e. let o = (plan_stage p e.0).0 in omega arith, omega arith)
early_frame p said (Link from to) s h = inr (λ e. clash e.1 refl, omega arith)
early_frame p said (Group x) s h = inr (λ e. clash e.1 (not_yes (group_accepted p said x h).2), omega arith)
early_frame p said (Channel layout) s h =
    let a = channel_accepted p said layout h in inl ((stage_plan p a.0 a.1, refl), omega arith, refl)
early_frame p said (FaultSet x) s h = inl ((stage_plan p (fault_set_accepted p said x h).0 s, refl), omega arith, refl)
early_frame p said (Start form edition layout rounds) s h = absurd (omega (arith, (start_accepted p said form edition layout rounds h).0))
early_frame p said (Later round edition layout) s h = absurd (omega (arith, (later_accepted p said round edition layout h).0))
early_frame p said (Message form round from to edition layout) s h = absurd (omega (arith, message_accepted p said form round from to edition layout h))
early_frame p said (Broadcast round from layout) s h = absurd (omega (arith, broadcast_accepted p said round from layout h))

-- ---- two readings of one file

-- both are this one, which is refused, or in whose plan nobody is deaf
beside_same : (archive new r : Reading) → archive ≡ r → new ≡ r → (r.number ≡ 0 → deaf_set r.progress.plan ≡ 0) → Beside archive new
beside_same archive new r a b h = record {
  nobody_deaf = λ z d. b ∙ sym a;
  somebody_deaf = λ z d. absurd (d (ap (λ (x : Reading). deaf_set x.progress.plan) a ∙ h (sym (ap (λ (x : Reading). x.number) a) ∙ z)));
  refused = λ n. inl (b ∙ sym a);
}

-- the new one is refused by 15, since in every plan that the archive might have read somebody is deaf
beside_deaf : (archive new : Reading) → new ≡ refusal 15 0 → (archive.number ≡ 0 → deaf_set archive.progress.plan ≡ 0 → ⊥) → Beside archive new
beside_deaf archive new e h = record {
  nobody_deaf = λ z d. absurd (h z d);
  somebody_deaf = λ z d. e;
  refused = λ n. inr e;
}

beside_as : (archive archive₁ new new₁ : Reading) → archive ≡ archive₁ → new ≡ new₁ → Beside archive₁ new₁ → Beside archive new
beside_as archive archive₁ new new₁ a b h = subst (λ (x : Reading). Beside x new) (sym a) (subst (Beside archive₁) (sym b) h)

module _ (kinds : ℕ) where
  -- the readers that know these kinds: of new plans, and of plans that are kept in the archive
  abbrev pub fresh : Reader
  fresh = record { kinds = kinds; archive = false; heads = all_heads }

  abbrev pub kept : Reader
  kept = record { kinds = kinds; archive = true; heads = all_heads }

  -- ---- where the links end

  -- what the readers find there: no group, both; a deaf terminal, the new reader only; or nothing
  record Missing (p : Progress) (frame : Frame) : Type 0 where
    of_fresh : end_cause fresh p frame ≡ 17
    of_kept : end_cause kept p frame ≡ 17

  record Deaf (p : Progress) (frame : Frame) : Type 0 where
    ends : Ends p frame
    somebody : deaf_set p.plan ≡ 0 → ⊥
    of_fresh : end_cause fresh p frame ≡ 15

  record Passed (p : Progress) (frame : Frame) : Type 0 where
    heard : Ends p frame → deaf_set p.plan ≡ 0
    of_fresh : end_cause fresh p frame ≡ 0
    of_kept : end_cause kept p frame ≡ 0

  place : (p : Progress) (frame : Frame) → Missing p frame ⊎ Deaf p frame ⊎ Passed p frame
  place p frame = go (decide (in_plan p)) (decide (ends_links p.plan.bound.kind frame)) (decide (lists_none p.plan.bound.kind)) (equal_or_not (deaf_set p.plan) 0)
    where
      go : (in_plan p ≡ true) ⊎ (in_plan p ≡ false) → (ends_links p.plan.bound.kind frame ≡ true) ⊎ (ends_links p.plan.bound.kind frame ≡ false)
          → (lists_none p.plan.bound.kind ≡ true) ⊎ (lists_none p.plan.bound.kind ≡ false)
          → (deaf_set p.plan ≡ 0) ⊎ (deaf_set p.plan ≡ 0 → ⊥) → Missing p frame ⊎ Deaf p frame ⊎ Passed p frame
      go (inr a) b l d = inr (inr (record {
        heard = λ e. clash e.0 a;
        of_fresh = end_none fresh p frame (links_elsewhere fresh p a);
        of_kept = end_none kept p frame (links_elsewhere kept p a);
      }))
      go (inl a) (inr b) l d =
          inr (inr (record { heard = λ e. clash e.1 b; of_fresh = end_later fresh p frame b; of_kept = end_later kept p frame b }))
      go (inl a) (inl b) (inl l) d = inl (record {
        of_fresh = end_here fresh p frame b ∙ links_none fresh p a l;
        of_kept = end_here kept p frame b ∙ links_none kept p a l;
      })
      go (inl a) (inl b) (inr l) (inr n) = inr (inl (record {
        ends = (a, b);
        somebody = n;
        of_fresh = end_here fresh p frame b ∙ links_deaf fresh p l a refl n;
      }))
      go (inl a) (inl b) (inr l) (inl z) = inr (inr (record {
        heard = λ e. z;
        of_fresh = end_none fresh p frame (links_heard fresh p l z);
        of_kept = end_none kept p frame (links_heard kept p l z);
      }))

  -- a line where they are not refused, by a reader that takes all heads
  module _ (reader : Reader) (p : Progress) (said : Lists) (k : ℕ) (line : List ℕ) (rest : List Line) (m : reader.heads ≡ all_heads) where
    abbrev told_next : Reading
    told_next = told reader (after p (frame_of reader.kinds line)) (said_after p said (frame_of reader.kinds line)) (k + 1) rest

    line_goes : end_cause reader p (frame_of reader.kinds line) ≡ 0
        → told reader p said k (ended line ∷ rest) ≡ unless (cause_in p said (frame_of reader.kinds line)) k told_next
    unfolding told
    line_goes e =
        unless_none (end_cause reader p (frame_of reader.kinds line)) 0 _ e
        ∙ ap (λ (c : ℕ). unless c k told_next) (limit_free reader.heads p said (frame_of reader.kinds line) m)

  -- so the archive's reading goes on with every line whose frame is accepted, and to the end, where no group is missing
  pub kept_line : (p : Progress) (said : Lists) (k : ℕ) (line : List ℕ) (rest : List Line) (frame : Frame) → frame_of kinds line ≡ frame
      → end_cause kept p frame ≡ 0 → cause_in p said frame ≡ 0
      → told kept p said k (ended line ∷ rest) ≡ told kept (after p frame) (said_after p said frame) (k + 1) rest
  kept_line p said k line rest frame f o z =
      line_goes kept p said k line rest refl (ap (end_cause kept p) f ∙ o)
      ∙ unless_none (cause_in p said (frame_of kinds line)) k _ (ap (cause_in p said) f ∙ z)
      ∙ ap (λ (x : Frame). told kept (after p x) (said_after p said x) (k + 1) rest) f

  pub kept_end : (p : Progress) (said : Lists) (k : ℕ) → lists_none p.plan.bound.kind ≡ false
      → told kept p said k [] ≡ record { number = 0; line = 0; progress = p; said = said }
  unfolding told
  kept_end p said k l = unless_none (links_cause kept p) 0 _ (links_archived kept p l refl)

  -- ---- after them: both readers read the same, and the plan stays

  module _ (p : Progress) (s : 3 ≤ stage_of p.stage) where
    elsewhere : in_plan p ≡ false
    elsewhere = no_by (λ h. let o = (plan_stage p h).1 in omega arith)

    later_none : (reader : Reader) (frame : Frame) → end_cause reader p frame ≡ 0
    later_none reader frame = end_none reader p frame (links_elsewhere reader p elsewhere)

  later_same : (p : Progress) (said : Lists) (k : ℕ) (lines : List Line) → 3 ≤ stage_of p.stage → told fresh p said k lines ≡ told kept p said k lines
  unfolding told
  later_same p said k [] s =
      unless_none (links_cause fresh p) 0 _ (links_elsewhere fresh p (elsewhere p s))
      ∙ sym (unless_none (links_cause kept p) 0 _ (links_elsewhere kept p (elsewhere p s)))
  later_same p said k (cut line ∷ rest) s = refl
  later_same p said k (ended line ∷ rest) s =
      line_goes fresh p said k line rest refl (later_none p s fresh (frame_of kinds line))
      ∙ ⊎_elim
      (λ z.
      ap (unless (cause_in p said (frame_of kinds line)) k)
      (later_same (after p (frame_of kinds line)) (said_after p said (frame_of kinds line)) (k + 1) rest (later_frame p said (frame_of kinds line) s z).0))
      (λ n. unless_some (cause_in p said (frame_of kinds line)) k _ n ∙ sym (unless_some (cause_in p said (frame_of kinds line)) k _ n))
      (equal_or_not (cause_in p said (frame_of kinds line)) 0)
      ∙ sym (line_goes kept p said k line rest refl (later_none p s kept (frame_of kinds line)))

  later_plan : (p : Progress) (said : Lists) (k : ℕ) (lines : List Line) → 3 ≤ stage_of p.stage
      → (told kept p said k lines).number ≡ 0 → (told kept p said k lines).progress.plan ≡ p.plan
  later_plan p said k lines s z =
      (told_keeps (λ (q : Progress). (3 ≤ stage_of q.stage) × (q.plan ≡ p.plan))
      (λ q w f i c. let l = later_frame q w f i.0 c in (l.0, l.1 ∙ i.1)) kept p said k lines (s, refl) z).1

  -- ---- before them

  -- somebody is deaf where the links end: the archive may go on, and the plan stays
  ended_deaf : (p : Progress) (said : Lists) (k : ℕ) (line : List ℕ) (rest : List Line) → stage_of p.stage ≤ 2
      → Ends p (frame_of kinds line) → (deaf_set p.plan ≡ 0 → ⊥)
      → (told kept p said k (ended line ∷ rest)).number ≡ 0 → deaf_set (told kept p said k (ended line ∷ rest)).progress.plan ≡ 0 → ⊥
  ended_deaf p said k line rest s e d =
      line_read kept p said k line rest (λ (r : Reading). deaf_set r.progress.plan ≡ 0 → ⊥)
      (λ c z y.
      ⊎_elim
      (λ l.
      d
      (sym
      (ap deaf_set
      (later_plan (after p (frame_of kinds line)) (said_after p said (frame_of kinds line)) (k + 1) rest l.1 z ∙ l.2))
      ∙ y))
      (λ n. n.0 e) (early_frame p said (frame_of kinds line) s c))

  -- the file ends: before the head, or where the links end
  module _ (p : Progress) (said : Lists) (k : ℕ) where
    abbrev all_read : Reading
    all_read = record { number = 0; line = 0; progress = p; said = said }

    end_same : (c : ℕ) → links_cause kept p ≡ c → links_cause fresh p ≡ c → (c ≡ 0 → deaf_set p.plan ≡ 0) → Beside (told kept p said k []) (told fresh p said k [])
    unfolding told
    end_same c a b h =
        beside_same _ _ (unless c 0 all_read) (ap (λ (x : ℕ). unless x 0 all_read) a) (ap (λ (x : ℕ). unless x 0 all_read) b)
        (unless_read c 0 all_read (λ (r : Reading). deaf_set r.progress.plan ≡ 0) (λ z o. h z))

    end_deaf : links_cause kept p ≡ 0 → links_cause fresh p ≡ 15 → (deaf_set p.plan ≡ 0 → ⊥) → Beside (told kept p said k []) (told fresh p said k [])
    unfolding told
    end_deaf a b n =
        beside_deaf _ _ (unless_some (links_cause fresh p) 0 _ (λ z. omega arith) ∙ ap (λ (x : ℕ). refusal x 0) b)
        (λ z y. n (sym (ap (λ (r : Reading). deaf_set r.progress.plan) (unless_none (links_cause kept p) 0 all_read a)) ∙ y))

    early_end : stage_of p.stage ≤ 2 → (stage_of p.stage ≡ 0 → deaf_set p.plan ≡ 0) → Beside (told kept p said k []) (told fresh p said k [])
    early_end s i = go (decide (in_plan p)) (decide (lists_none p.plan.bound.kind)) (equal_or_not (deaf_set p.plan) 0)
      where
        go : (in_plan p ≡ true) ⊎ (in_plan p ≡ false) → (lists_none p.plan.bound.kind ≡ true) ⊎ (lists_none p.plan.bound.kind ≡ false)
            → (deaf_set p.plan ≡ 0) ⊎ (deaf_set p.plan ≡ 0 → ⊥) → Beside (told kept p said k []) (told fresh p said k [])
        go (inr a) l d =
            end_same 0 (links_elsewhere kept p a) (links_elsewhere fresh p a)
            (λ z. i (⊎_elim (λ y. y) (λ n. clash (stage_plan p (omega arith) s) a) (equal_or_not (stage_of p.stage) 0)))
        go (inl a) (inl l) d = end_same 17 (links_none kept p a l) (links_none fresh p a l) (λ z. absurd (omega arith))
        go (inl a) (inr l) (inl z) = end_same 0 (links_heard kept p l z) (links_heard fresh p l z) (λ o. z)
        go (inl a) (inr l) (inr n) = end_deaf (links_archived kept p l refl) (links_deaf fresh p l a refl n) n

  -- a line, and what follows it
  module _ (p : Progress) (said : Lists) (k : ℕ) (line : List ℕ) (rest : List Line) (s : stage_of p.stage ≤ 2) where
    abbrev frame : Frame
    frame = frame_of kinds line

    abbrev archived : Reading
    archived = told kept (after p frame) (said_after p said frame) (k + 1) rest

    abbrev renewed : Reading
    renewed = told fresh (after p frame) (said_after p said frame) (k + 1) rest

    abbrev Here : Type 0
    Here = Beside (told kept p said k (ended line ∷ rest)) (told fresh p said k (ended line ∷ rest))

    abbrev Next : Type 0
    Next = stage_of (after p frame).stage ≤ 2 → (stage_of (after p frame).stage ≡ 0 → ⊥) → Beside archived renewed

    early_missing : Missing p frame → Here
    unfolding told
    early_missing m =
        beside_same _ _ (refusal 17 0)
        (unless_some (end_cause kept p frame) 0 _ (λ z. omega (arith, m.of_kept)) ∙ ap (λ (x : ℕ). refusal x 0) m.of_kept)
        (unless_some (end_cause fresh p frame) 0 _ (λ z. omega (arith, m.of_fresh)) ∙ ap (λ (x : ℕ). refusal x 0) m.of_fresh)
        (λ z. absurd (omega arith))

    early_refused : Deaf p frame → Here
    unfolding told
    early_refused d =
        beside_deaf _ _ (unless_some (end_cause fresh p frame) 0 _ (λ z. omega (arith, d.of_fresh)) ∙ ap (λ (x : ℕ). refusal x 0) d.of_fresh)
        (ended_deaf p said k line rest s d.ends d.somebody)

    module _ (o : Passed p frame) where
      kept_goes : told kept p said k (ended line ∷ rest) ≡ unless (cause_in p said frame) k archived
      kept_goes = line_goes kept p said k line rest refl o.of_kept

      fresh_goes : told fresh p said k (ended line ∷ rest) ≡ unless (cause_in p said frame) k renewed
      fresh_goes = line_goes fresh p said k line rest refl o.of_fresh

      early_wrong : (cause_in p said frame ≡ 0 → ⊥) → Here
      early_wrong n =
          beside_same _ _ (refusal (cause_in p said frame) k) (kept_goes ∙ unless_some _ k _ n) (fresh_goes ∙ unless_some _ k _ n) (λ z. absurd (n z))

      -- the links end with it, and nobody is deaf
      early_ended : Ends p frame × (3 ≤ stage_of (after p frame).stage) × ((after p frame).plan ≡ p.plan) → Beside archived renewed
      early_ended l =
          beside_same _ _ archived refl (later_same (after p frame) (said_after p said frame) (k + 1) rest l.1)
          (λ z. ap deaf_set (later_plan (after p frame) (said_after p said frame) (k + 1) rest l.1 z ∙ l.2) ∙ o.heard l.0)

      early_right : Next → cause_in p said frame ≡ 0 → Here
      early_right next c =
          beside_as _ archived _ renewed (kept_goes ∙ unless_none _ k _ c) (fresh_goes ∙ unless_none _ k _ c)
          (⊎_elim early_ended (λ n. next n.1 (frame_stage p said frame c)) (early_frame p said frame s c))

    early_line : Next → Here
    early_line next =
        ⊎_elim early_missing (⊎_elim early_refused (λ o. ⊎_elim (early_right o next) (early_wrong o) (equal_or_not (cause_in p said frame) 0))) (place p frame)

  early : (p : Progress) (said : Lists) (k : ℕ) (lines : List Line) → stage_of p.stage ≤ 2 → (stage_of p.stage ≡ 0 → deaf_set p.plan ≡ 0)
      → Beside (told kept p said k lines) (told fresh p said k lines)
  unfolding told
  early p said k [] s i = early_end p said k s i
  early p said k (cut line ∷ rest) s i = beside_same _ _ (refusal 1 k) refl refl (λ z. absurd (omega arith))
  early p said k (ended line ∷ rest) s i =
      early_line p said k line rest s
      (λ e b. early (after p (frame_of kinds line)) (said_after p said (frame_of kinds line)) (k + 1) rest e (λ z. absurd (b z)))

  -- ---- the file

  pub reading_beside : (text : List ℕ) → Beside (reading kept text) (reading fresh text)
  unfolding reading deaf_set mask
  reading_beside text =
      ⊎_elim
      (λ t.
      beside_as _ _ _ _ (pick_yes _ _ _ t) (pick_yes _ _ _ t)
      (early nothing_read nothing_said 1 (lines_from [] text) (omega arith) (λ z. refl)))
      (λ t. beside_same _ _ (refusal 1 0) (pick_no _ _ _ t) (pick_no _ _ _ t) (λ z. absurd (omega arith)))
      (decide (leb 1 (length text) and leb (length text) most_bytes))

pub beside : (text : List ℕ) → Beside (archive_reading text) (plan_reading text)
unfolding plan_reading archive_reading
beside text = reading_beside plan_kinds text

-- ---- what the new reader accepts, the archive does: it is the same, and nobody in it is deaf

module _ (archive new : Reading) (b : Beside archive new) (z : new.number ≡ 0) where
  accepted_same : (archive.number ≡ 0) × (deaf_set archive.progress.plan ≡ 0) × (new ≡ archive)
  accepted_same =
      ⊎_elim
      (λ a.
      ⊎_elim (λ d. (a, d, b.nobody_deaf a d)) (λ n. absurd (no_fifteen (b.somebody_deaf a n))) (equal_or_not (deaf_set archive.progress.plan) 0))
      (λ n. ⊎_elim (λ e. absurd (n (sym (ap (λ (r : Reading). r.number) e) ∙ z))) (λ e. absurd (no_fifteen e)) (b.refused n))
      (equal_or_not archive.number 0)
    where
      no_fifteen : new ≡ refusal 15 0 → ⊥
      no_fifteen e = let f : new.number ≡ 15 = ap (λ (r : Reading). r.number) e in omega arith

  accepted_hears : deaf_set new.progress.plan ≡ 0
  accepted_hears = ap (λ (r : Reading). deaf_set r.progress.plan) accepted_same.2 ∙ accepted_same.1

pub plan_hears : (text : List ℕ) → (plan_reading text).number ≡ 0 → deaf_set (plan_reading text).progress.plan ≡ 0
plan_hears text z = accepted_hears _ _ (beside text) z

pub run_hears : (text : List ℕ) → (run_reading text).number ≡ 0 → deaf_set (run_reading text).progress.plan ≡ 0
run_hears text z =
    let e = run_is text z in
    ap (λ (r : Reading). deaf_set r.progress.plan) e ∙ accepted_hears _ _ (reading_beside run_kinds text) (sym (ap (λ (r : Reading). r.number) e) ∙ z)
