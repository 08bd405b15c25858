-- What an accepted frame was found to be, and what an accepted file keeps of all of them. Assumes nothing.
use Prim.Native.Nat.{ℕ, ◌+◌, ◌≤◌, ◌<◌}
use mathlib.Core.Path.{◌≡◌, refl, sym, ap, ◌∙◌}
use mathlib.Core.Logic.{◌⊎◌, inl, inr, ⊎_elim}
use mathlib.Core.Bool.{Bool, true, false, not}
use mathlib.Core.List.{List, [], ◌∷◌, ◌++◌}
use native.Mathlib.Omega.{arith}
use lib.Dec.{eqb, leb}
use lib.ListN.{length, length-append}
use borrow.Author.Tests.{eq-eqb, ne_eqb, eqb-true, eqb-false, ltb-true, leb-true, leb-false}
use Rattle.std.specs.Prelude.{Option}
use Rattle.sets.specs.Tests.{◌and◌, ◌or◌}
use Rattle.sets.specs.Causes.{◌gives◌, first_cause}
use Rattle.sets.proofs.Bools.{clash, and_l, and_r, and_i, and_yes, or_l, or_r, or_e, not_i, not_yes, not_no, pick_case}
use Rattle.sets.proofs.Causes.{cause_here, cause_none}
use Rattle.sets.proofs.Laws.{equal_or_not}
use Rattle.quorum.specs.Quorum.{most_terminals, most_groups, listed, in_range, others}
use Rattle.quorum.specs.Words.{start_sound}
use Rattle.plan.specs.Plan.{hears}
use Rattle.lines.specs.declared.Form.{Form}
use Rattle.lines.specs.declared.Form.TheVariants.{Old, New}
use Rattle.lines.specs.declared.Frame.{Frame}
use Rattle.lines.specs.declared.Frame.TheVariants.{Foreign, Unknown, Head, Link, Group, Channel, FaultSet, Start, Later, Message, Broadcast}
use Rattle.lines.specs.Frames.{frame_of, fits}
use Rattle.lines.proofs.Fits.{frame_fits}
use Rattle.frames.specs.declared.Stage.{Stage}
use Rattle.frames.specs.declared.Stage.TheVariants.{Nothing, Links, Shared, Faults, Started}
use Rattle.frames.specs.declared.Progress.{Progress}
use Rattle.frames.specs.declared.Heads.{Heads}
use Rattle.frames.specs.declared.Reader.{Reader}
use Rattle.frames.specs.Lines.{Line, ended, cut, last_line, lines_from}
use Rattle.frames.specs.Reading.{most_bytes, all_heads, stage_of, is_at, in_plan, is_started, form_of, other_form, is_shared, wrong_form, has_edition, kind_read, lists, rounds_of, nothing_read, Lists, nothing_said, head_cause, link_cause, group_cause, channel_cause, bad_set_cause, fault_set_cause, start_cause, later_cause, message_cause, broadcast_cause, cause_in, line_cause, links_cause, end_cause, after, said_after, Reading, refusal, told, reading}
use Rattle.frames.proofs.Unless.{unless_read}
use Rattle.frames.proofs.Limits.{taken, limit_none, limit_unless}
use Rattle.frames.proofs.Built.{Built, head_built, link_built, group_built}

-- ---- an accepted frame

or_none : (a b : Bool) → a or b ≡ false → (a ≡ false) × (b ≡ false)
unfolding ◌or◌
or_none true b h = clash refl h
or_none false b h = (refl, h)

-- the two stages of a plan's lines after its head
module _ (p : Progress) where
  pub plan_stage : in_plan p ≡ true → (1 ≤ stage_of p.stage) × (stage_of p.stage ≤ 2)
  unfolding in_plan is_at
  plan_stage h =
      ⊎_elim (λ a. let e = eqb-true (stage_of p.stage) 1 a in (omega arith, omega arith))
      (λ a. let e = eqb-true (stage_of p.stage) 2 a in (omega arith, omega arith)) (or_e _ _ h)

  pub stage_plan : 1 ≤ stage_of p.stage → stage_of p.stage ≤ 2 → in_plan p ≡ true
  unfolding in_plan is_at
  stage_plan a b =
      ⊎_elim (λ e. or_l _ _ (eq-eqb (stage_of p.stage) 1 e)) (λ n. or_r _ _ (eq-eqb (stage_of p.stage) 2 (omega arith)))
      (equal_or_not (stage_of p.stage) 1)

  -- a bad set may follow them, or a default layout
  set_stage : in_plan p or is_at Shared p ≡ true → (1 ≤ stage_of p.stage) × (stage_of p.stage ≤ 3)
  unfolding is_at
  set_stage h =
      ⊎_elim (λ a. let b = plan_stage a in (b.0, omega (arith, b.1))) (λ a. let e = eqb-true (stage_of p.stage) 3 a in (omega arith, omega arith))
      (or_e _ _ h)

  -- and the two from the start on, where all frames have its form
  pub started_stage : is_started p ≡ true → 5 ≤ stage_of p.stage
  unfolding is_started is_at
  started_stage h =
      ⊎_elim (λ a. let e = eqb-true (stage_of p.stage) 5 a in omega arith) (λ a. let e = eqb-true (stage_of p.stage) 6 a in omega arith) (or_e _ _ h)

  pub same_form : (form : Form) → is_started p ≡ true → other_form p form ≡ false → form_of form ≡ form_of p.form
  unfolding other_form
  same_form form s h = eqb-true (form_of form) (form_of p.form) (not_no _ (sym (and_yes _ _ s) ∙ h))

  -- a frame that is not of the wrong form is not barred from a shared channel
  right_form : (form : Form) (barred : Bool) → wrong_form p form barred ≡ false → (other_form p form ≡ false) × (is_shared p and barred ≡ false)
  unfolding wrong_form
  right_form form barred h = or_none _ _ h

-- on a shared channel it has no edition
old_form : (form : Form) (shared : Bool) → shared and has_edition form ≡ false → shared ≡ true → form ≡ Old
old_form Old shared h s = refl
old_form New shared h s = clash (and_i _ _ s refl) h

-- a row whose number is a cause of its own
row_none : (cause : ℕ) → first_cause (not (eqb cause 0) gives cause ∷ []) ≡ 0 → cause ≡ 0
row_none cause h = ⊎_elim (λ z. z) (λ n. sym (cause_here _ _ _ (not_i (ne_eqb cause 0 n))) ∙ h) (equal_or_not cause 0)

module _ (p : Progress) (said : Lists) where
  at_stage : (stage : Stage) → not (is_at stage p) ≡ false → stage_of p.stage ≡ stage_of stage
  unfolding is_at
  at_stage stage h = eqb-true _ _ (not_no _ h)

  pub head_accepted : (n source f : ℕ) → cause_in p said (Head n source f) ≡ 0 → (stage_of p.stage ≡ 0) × (in_range n source (kind_read f) ≡ true)
  unfolding cause_in head_cause
  head_accepted n source f h =
      let a = cause_none _ 3 _ (λ z. omega arith) h in
      let b = cause_none _ 4 _ (λ z. omega arith) a.1 in
      (at_stage Nothing a.0, not_no _ b.0)

  pub link_accepted : (from to : ℕ) → cause_in p said (Link from to) ≡ 0
      → (stage_of p.stage ≡ 1) × (from < p.plan.n) × (to < p.plan.n) × (from ≡ to → ⊥) × (hears p.plan to from ≡ false)
  unfolding cause_in link_cause
  link_accepted from to h =
      let a = cause_none _ 3 _ (λ z. omega arith) h in
      let b = cause_none _ 5 _ (λ z. omega arith) a.1 in
      let c = cause_none _ 6 _ (λ z. omega arith) b.1 in
      let d = or_none _ _ b.0 in
      let e = or_none _ _ d.1 in
      (at_stage Links a.0, leb-false p.plan.n from d.0, leb-false p.plan.n to e.0, eqb-false from to e.1, c.0)

  pub group_accepted : (s : ℕ) → cause_in p said (Group s) ≡ 0
      → (1 ≤ stage_of p.stage) × (stage_of p.stage ≤ 2) × (lists p.plan.bound.kind ≡ true) × (listed p.plan.bound.kind < most_groups)
      × (others p.plan.n p.plan.source s ≡ true)
  unfolding cause_in group_cause
  group_accepted s h =
      let a = cause_none _ 3 _ (λ z. omega arith) h in
      let b = cause_none _ 17 _ (λ z. omega arith) a.1 in
      let c = not_no _ a.0 in
      let d = not_no _ b.0 in
      let e = plan_stage p (and_l _ _ c) in
      (e.0, e.1, and_r _ _ c, ltb-true (listed p.plan.bound.kind) most_groups (and_l _ _ d), and_r _ _ d)

  pub channel_accepted : (layout : ℕ) → cause_in p said (Channel layout) ≡ 0 → (1 ≤ stage_of p.stage) × (stage_of p.stage ≤ 2) × (layout ≡ 0 → ⊥)
  unfolding cause_in channel_cause
  channel_accepted layout h =
      let a = cause_none _ 3 _ (λ z. omega arith) h in
      let b = cause_none _ 9 _ (λ z. omega arith) a.1 in
      let e = plan_stage p (not_no _ a.0) in
      (e.0, e.1, eqb-false layout 0 b.0)

  pub fault_set_accepted : (s : ℕ) → cause_in p said (FaultSet s) ≡ 0
      → (1 ≤ stage_of p.stage) × (stage_of p.stage ≤ 3) × (bad_set_cause p s ≡ 0)
  unfolding cause_in fault_set_cause
  fault_set_accepted s h =
      let a = cause_none _ 3 _ (λ z. omega arith) h in
      let e = set_stage p (not_no _ a.0) in
      (e.0, e.1, row_none (bad_set_cause p s) a.1)

  pub start_accepted : (form : Form) (edition layout : ℕ) (rounds : Option ℕ) → cause_in p said (Start form edition layout rounds) ≡ 0
      → (stage_of p.stage ≡ 4) × (start_sound layout (rounds_of p.plan.n rounds) ≡ true) × (edition ≡ 0 → ⊥) × (is_shared p ≡ true → form ≡ Old)
  unfolding cause_in start_cause
  start_accepted form edition layout rounds h =
      let a = cause_none _ 2 _ (λ z. omega arith) h in
      let b = cause_none _ 3 _ (λ z. omega arith) a.1 in
      let c = cause_none _ 9 _ (λ z. omega arith) b.1 in
      let d = cause_none _ 16 _ (λ z. omega arith) c.1 in
      (at_stage Faults b.0, not_no _ c.0, eqb-false edition 0 d.0, old_form form (is_shared p) (right_form p form (has_edition form) a.0).1)

  pub later_accepted : (round edition layout : ℕ) → cause_in p said (Later round edition layout) ≡ 0
      → (stage_of p.stage ≡ 5) × (p.issued < round) × (round ≤ p.rounds) × (layout ≡ 0 → ⊥) × (p.edition < edition) × (p.form ≡ Old → ⊥)
  unfolding cause_in later_cause is_started
  later_accepted round edition layout h =
      let a = cause_none _ 2 _ (λ z. omega arith) h in
      let b = cause_none _ 3 _ (λ z. omega arith) a.1 in
      let c = cause_none _ 9 _ (λ z. omega arith) b.1 in
      let d = cause_none _ 16 _ (λ z. omega arith) c.1 in
      let e = not_no _ b.0 in (
        at_stage Started (not_yes (and_l _ _ e)),
        ltb-true p.issued round (and_l _ _ (and_r _ _ e)),
        leb-true round p.rounds (and_r _ _ (and_r _ _ e)),
        eqb-false layout 0 c.0,
        ltb-true p.edition edition (not_no _ d.0),
        λ o. let f = same_form p New (or_l _ _ (and_l _ _ e)) (right_form p New true a.0).0 in omega (arith, ap form_of o),
      )

  pub message_accepted : (form : Form) (round from to edition layout : ℕ) → cause_in p said (Message form round from to edition layout) ≡ 0
      → 5 ≤ stage_of p.stage
  unfolding cause_in message_cause
  message_accepted form round from to edition layout h =
      let a = cause_none _ 2 _ (λ z. omega arith) h in
      let b = cause_none _ 3 _ (λ z. omega arith) a.1 in
      started_stage p (not_no _ b.0)

  pub broadcast_accepted : (round from layout : ℕ) → cause_in p said (Broadcast round from layout) ≡ 0 → 5 ≤ stage_of p.stage
  unfolding cause_in broadcast_cause
  broadcast_accepted round from layout h =
      let a = cause_none _ 2 _ (λ z. omega arith) h in
      let b = cause_none _ 3 _ (λ z. omega arith) a.1 in
      started_stage p (not_no _ b.0)

  -- an accepted frame is the first or a later one: something is known after it
  pub frame_stage : (frame : Frame) → cause_in p said frame ≡ 0 → stage_of (after p frame).stage ≡ 0 → ⊥
  unfolding cause_in after
  frame_stage Foreign h z = omega arith
  frame_stage Unknown h z = omega arith
  frame_stage (Head n source f) h z = omega arith
  frame_stage (Link from to) h z = omega arith
  frame_stage (Group s) h z = omega arith
  frame_stage (Channel layout) h z = omega arith
  frame_stage (FaultSet s) h z = omega arith
  frame_stage (Start form edition layout rounds) h z = omega arith
  frame_stage (Later round edition layout) h z = omega arith
  frame_stage (Message form round from to edition layout) h z = omega arith
  frame_stage (Broadcast round from layout) h z = omega arith

  -- what is known once something was read is a plan, but that a group may be missing
  pub frame_built : (frame : Frame) → ((stage_of p.stage ≡ 0 → ⊥) → Built p.plan) → cause_in p said frame ≡ 0 → Built (after p frame).plan
  unfolding cause_in after
  frame_built Foreign i h = absurd (omega arith)
  frame_built Unknown i h = absurd (omega arith)
  frame_built (Head n source f) i h = head_built n source f (head_accepted n source f h).1
  frame_built (Link from to) i h =
      let c = link_accepted from to h in
      link_built p.plan (i (λ z. omega (arith, c.0))) from to c.1 c.2 c.3
  frame_built (Group s) i h =
      let c = group_accepted s h in
      group_built p.plan (i (λ z. omega (arith, c.0))) s c.3 c.4
  frame_built (Channel layout) i h = i (λ z. omega (arith, (channel_accepted layout h).0))
  frame_built (FaultSet s) i h = i (λ z. omega (arith, (fault_set_accepted s h).0))
  frame_built (Start form edition layout rounds) i h = i (λ z. omega (arith, (start_accepted form edition layout rounds h).0))
  frame_built (Later round edition layout) i h = i (λ z. omega (arith, (later_accepted round edition layout h).0))
  frame_built (Message form round from to edition layout) i h = i (λ z. omega (arith, message_accepted form round from to edition layout h))
  frame_built (Broadcast round from layout) i h = i (λ z. omega (arith, broadcast_accepted round from layout h))

-- ---- a reader that takes all heads has nothing against one

pub limit_free : (heads : Heads) (p : Progress) (said : Lists) (frame : Frame) → heads ≡ all_heads
    → line_cause heads p said frame ≡ cause_in p said frame
unfolding in_range
limit_free heads p said frame e =
    ap (λ (h : Heads). line_cause h p said frame) e
    ∙ limit_unless all_heads p said frame
    (λ n source f i z.
    taken all_heads n (kind_read f) (leb-true n most_terminals (and_l _ _ (and_r _ _ (head_accepted p said n source f z).1))) (λ l. refl))

-- ---- the lines: what every accepted frame leaves, after the first and after a later one, an accepted file leaves

-- a text that is not empty has a line
pub some_line : (line text : List ℕ) → 0 < length line + length text → lines_from line text ≡ [] → ⊥
unfolding lines_from last_line
some_line [] [] h = λ e. omega arith
some_line (b ∷ line) [] h = λ e. let z : ◌≡◌ {A = ℕ} 0 1 = cc in omega arith
some_line line (b ∷ text) h =
    pick_case (λ (x : List Line). x ≡ [] → ⊥) (eqb b 10) (ended line ∷ lines_from [] text) (lines_from (line ++ (b ∷ [])) text)
    (λ t e. let z : ◌≡◌ {A = ℕ} 0 1 = cc in omega arith) (λ t. some_line (line ++ (b ∷ [])) text (simp length-append (omega arith)))

-- what holds of a file that is read: its first line's frame was accepted, where the links end there nothing refuses them, and the rest is told after it
module _ (reader : Reader) (p : Progress) (said : Lists) (k : ℕ) (line : List ℕ) (rest : List Line) where
  abbrev frame : Frame
  frame = frame_of reader.kinds line

  abbrev next : Reading
  next = told reader (after p frame) (said_after p said frame) (k + 1) rest

  pub line_causes : (Q : Reading → Type 0) → (end_cause reader p frame ≡ 0 → line_cause reader.heads p said frame ≡ 0 → next.number ≡ 0 → Q next)
      → (told reader p said k (ended line ∷ rest)).number ≡ 0 → Q (told reader p said k (ended line ∷ rest))
  unfolding told
  line_causes Q f = unless_read (end_cause reader p frame) 0 _ Q (λ a. unless_read (line_cause reader.heads p said frame) k next Q (f a))

  pub line_ends_lem : (Q : Reading → Type 0) → (end_cause reader p frame ≡ 0 → cause_in p said frame ≡ 0 → next.number ≡ 0 → Q next)
      → (told reader p said k (ended line ∷ rest)).number ≡ 0 → Q (told reader p said k (ended line ∷ rest))
  line_ends_lem Q f = line_causes Q (λ a c. f a (limit_none reader.heads p said frame c).0)

  pub line_read : (Q : Reading → Type 0) → (cause_in p said frame ≡ 0 → next.number ≡ 0 → Q next)
      → (told reader p said k (ended line ∷ rest)).number ≡ 0 → Q (told reader p said k (ended line ∷ rest))
  line_read Q f = line_ends_lem Q (λ a. f)

-- at its end nothing refuses the links either
pub end_read : (reader : Reader) (p : Progress) (said : Lists) (k : ℕ) (Q : Reading → Type 0)
    → (links_cause reader p ≡ 0 → Q (record { number = 0; line = 0; progress = p; said = said }))
    → (told reader p said k []).number ≡ 0 → Q (told reader p said k [])
unfolding told
end_read reader p said k Q f = unless_read (links_cause reader p) 0 _ Q (λ c z. f c)

-- and it is not empty
pub text_read : (reader : Reader) (text : List ℕ) (Q : Reading → Type 0)
    → (1 ≤ length text → (told reader nothing_read nothing_said 1 (lines_from [] text)).number ≡ 0 → Q (told reader nothing_read nothing_said 1 (lines_from [] text)))
    → (reading reader text).number ≡ 0 → Q (reading reader text)
unfolding reading
text_read reader text Q f =
    pick_case (λ (r : Reading). r.number ≡ 0 → Q r) (leb 1 (length text) and leb (length text) most_bytes)
    (told reader nothing_read nothing_said 1 (lines_from [] text)) (refusal 1 0)
    (λ t. f (leb-true 1 (length text) (and_l _ _ t))) (λ t z. absurd (omega arith))

-- what every accepted frame keeps, an accepted file keeps
module _ (I : Progress → Lists → Type 0)
    (kept :
    (p : Progress) (said : Lists) (frame : Frame) → fits frame ≡ true → I p said → cause_in p said frame ≡ 0
    → I (after p frame) (said_after p said frame)) where
  pub told_holds : (reader : Reader) (p : Progress) (said : Lists) (k : ℕ) (lines : List Line) → I p said → (told reader p said k lines).number ≡ 0
      → I (told reader p said k lines).progress (told reader p said k lines).said
  unfolding told
  told_holds reader p said k [] i = end_read reader p said k (λ (r : Reading). I r.progress r.said) (λ c. i)
  told_holds reader p said k (cut line ∷ rest) i = λ z. absurd (omega arith)
  told_holds reader p said k (ended line ∷ rest) i =
      line_read reader p said k line rest (λ (r : Reading). I r.progress r.said)
      (λ c.
      told_holds reader (after p (frame_of reader.kinds line)) (said_after p said (frame_of reader.kinds line)) (k + 1) rest
      (kept p said (frame_of reader.kinds line) (frame_fits line reader.kinds) i c))

  pub reading_holds : (reader : Reader) (text : List ℕ) → I nothing_read nothing_said → (reading reader text).number ≡ 0
      → I (reading reader text).progress (reading reader text).said
  reading_holds reader text i =
      text_read reader text (λ (r : Reading). I r.progress r.said) (λ one. told_holds reader nothing_read nothing_said 1 (lines_from [] text) i)

-- the same of what is known alone
module _ (I : Progress → Type 0) (kept : (p : Progress) (said : Lists) (frame : Frame) → I p → cause_in p said frame ≡ 0 → I (after p frame)) where
  pub told_keeps : (reader : Reader) (p : Progress) (said : Lists) (k : ℕ) (lines : List Line) → I p → (told reader p said k lines).number ≡ 0
      → I (told reader p said k lines).progress
  told_keeps = told_holds (λ (p : Progress) (said : Lists). I p) (λ p said frame f i c. kept p said frame i c)

-- and what the first one brings about too
module _ (I : Progress → Type 0)
    (kept : (p : Progress) (said : Lists) (frame : Frame) → (stage_of p.stage ≡ 0) ⊎ I p → cause_in p said frame ≡ 0 → I (after p frame)) where
  told_brings : (reader : Reader) (said : Lists) (lines : List Line) → (lines ≡ [] → ⊥) → (told reader nothing_read said 1 lines).number ≡ 0
      → I (told reader nothing_read said 1 lines).progress
  unfolding told
  told_brings reader said [] n = λ z. absurd (n refl)
  told_brings reader said (cut line ∷ rest) n = λ z. absurd (omega arith)
  told_brings reader said (ended line ∷ rest) n =
      line_read reader nothing_read said 1 line rest (λ (r : Reading). I r.progress)
      (λ c.
      told_keeps I (λ p w f i. kept p w f (inr i)) reader (after nothing_read (frame_of reader.kinds line))
      (said_after nothing_read said (frame_of reader.kinds line)) (1 + 1) rest (kept nothing_read said (frame_of reader.kinds line) (inl refl) c))

  pub reading_keeps : (reader : Reader) (text : List ℕ) → (reading reader text).number ≡ 0 → I (reading reader text).progress
  reading_keeps reader text =
      text_read reader text (λ (r : Reading). I r.progress)
      (λ one. told_brings reader nothing_said (lines_from [] text) (some_line [] text (omega arith)))
