-- The links of an accepted file's plan are those of its lines. Assumes nothing.
use Prim.Native.Nat.{ℕ, ◌+◌, ◌≤◌, ◌<◌}
use mathlib.Core.Path.{◌≡◌, refl, sym, ap, ◌∙◌}
use mathlib.Core.Logic.{◌⊎◌, inl, inr, ⊎_elim, ◌↔◌}
use mathlib.Core.Bool.{true, false}
use mathlib.Core.List.{List, [], ◌∷◌}
use native.Mathlib.Nat.{lt_of_lt_of_le}
use native.Mathlib.Omega.{arith}
use lib.Dec.{eqb}
use lib.ListN.{length, get_or, set, replicate, get_or-replicate, get_or-eq_default}
use lib.Pow.{pow_mono}
use lib.Seq.{get_or-set_same, get_or-set_other}
use borrow.Author.Tests.{eq-eqb, eqb-true}
use Rattle.sets.specs.Tests.{◌or◌}
use Rattle.sets.specs.Sets.{mem, with}
use Rattle.sets.proofs.Bools.{clash, or_l, or_r, or_e}
use Rattle.sets.proofs.Operations.{mem_with_any}
use Rattle.sets.proofs.Laws.{equal_or_not, below_or_not, mem_zero}
use Rattle.quorum.specs.declared.Bound.{Bound}
use Rattle.quorum.specs.Quorum.{no_groups, at_most}
use Rattle.plan.specs.declared.Plan.{Plan}
use Rattle.plan.specs.Plan.{heard_by, hears}
use Rattle.lines.specs.declared.Frame.{Frame}
use Rattle.lines.specs.declared.Frame.TheVariants.{Foreign, Unknown, Head, Link, Group, Channel, FaultSet, Start, Later, Message, Broadcast}
use Rattle.lines.specs.Frames.{frame_of}
use Rattle.frames.specs.declared.Progress.{Progress}
use Rattle.frames.specs.declared.Reader.{Reader}
use Rattle.frames.specs.Lines.{Line, ended, cut, lines_from}
use Rattle.frames.specs.Reading.{stage_of, nothing_read, Lists, nothing_said, kind_read, cause_in, linked, grouped, after, said_after, Reading, told, reading}
use Rattle.frames.specs.Tells.{Tells}
use Rattle.frames.proofs.Built.{Built, built_twenty, built_row}
use Rattle.frames.proofs.Keeps.{head_accepted, link_accepted, frame_stage, frame_built, line_read, end_read, text_read}

-- no links
no_row : (b : ℕ) → get_or {A = ℕ} (replicate 20 0) b 0 ≡ 0
no_row b =
    ⊎_elim (λ h. get_or-replicate {A = ℕ} 20 b 0 0 h) (λ h. get_or-eq_default {A = ℕ} (replicate 20 0) 0 h)
    (below_or_not b 20)

no_link : (n source : ℕ) (bound : Bound) (a b : ℕ) → hears (record { n = n; source = source; bound = bound; rows = replicate 20 0 }) b a ≡ false
unfolding hears heard_by
no_link n source bound a b = ap (mem a) (no_row b) ∙ mem_zero a

-- ---- one link more

module _ (p : Plan) (w : Built p) (from to : ℕ) (f : from < p.n) (t : to < p.n) (a b : ℕ) where
  abbrev row : ℕ
  row = with 32 (heard_by p to) from

  row_more : mem a row ≡ hears p to a or eqb a from
  unfolding hears
  row_more =
      let n : p.n ≤ 32 = omega (arith, built_twenty p w) in
      mem_with_any 32 (heard_by p to) from a (lt_of_lt_of_le (built_row p w to t) (pow_mono n)) (omega arith)

  hears_same : b ≡ to → hears (linked p from to) b a ≡ hears p to a or eqb a from
  unfolding hears heard_by linked
  hears_same e =
      let there : to < length p.rows = omega (arith, built_twenty p w, w.rows_length) in
      ap (λ (i : ℕ). mem a (get_or (set p.rows to row) i 0)) e ∙ ap (mem a) (get_or-set_same p.rows to row 0 there) ∙ row_more

  hears_other : (b ≡ to → ⊥) → hears (linked p from to) b a ≡ hears p b a
  unfolding hears heard_by linked
  hears_other n = ap (mem a) (get_or-set_other p.rows to b row 0 n)

  link_more : (b ≡ to) ⊎ (b ≡ to → ⊥) → (hears (linked p from to) b a ≡ true) ↔ ((hears p b a ≡ true) ⊎ (Link from to ≡ Link a b))
  link_more (inl e) = (
    λ h.
        ⊎_elim (λ x. inl (ap (λ (i : ℕ). hears p i a) e ∙ x)) (λ x. inr (let y : a ≡ from = eqb-true a from x in cc))
        (or_e (hears p to a) (eqb a from) (sym (hears_same e) ∙ h)),
    ⊎_elim (λ x. hears_same e ∙ or_l _ _ (sym (ap (λ (i : ℕ). hears p i a) e) ∙ x))
        (λ x. hears_same e ∙ or_r _ _ (eq-eqb a from (let y : a ≡ from = cc in y))),
  )
  link_more (inr n) = (
    λ h. inl (sym (hears_other n) ∙ h),
    ⊎_elim (λ x. hears_other n ∙ x) (λ x. absurd (n (let y : b ≡ to = cc in y))),
  )

-- ---- an accepted frame

-- a plan once something was read, and no link before
record Ready (p : Progress) : Type 0 where
  begun : (stage_of p.stage ≡ 0 → ⊥) → Built p.plan
  empty : stage_of p.stage ≡ 0 → (a b : ℕ) → hears p.plan b a ≡ false

module _ (p : Progress) (said : Lists) (r : Ready p) where
  frame_ready : (frame : Frame) → cause_in p said frame ≡ 0 → Ready (after p frame)
  frame_ready frame h = record { begun = λ n. frame_built p said frame r.begun h; empty = λ z. absurd (frame_stage p said frame h z) }

  -- a frame that is no link and keeps the plan
  same_plan : (frame : Frame) (a b : ℕ) → (frame ≡ Link a b → ⊥) → (hears p.plan b a ≡ true) ↔ ((hears p.plan b a ≡ true) ⊎ (frame ≡ Link a b))
  same_plan frame a b n = (λ h. inl h, ⊎_elim (λ h. h) (λ e. absurd (n e)))

  frame_links : (frame : Frame) → cause_in p said frame ≡ 0 → (a b : ℕ)
      → (hears (after p frame).plan b a ≡ true) ↔ ((hears p.plan b a ≡ true) ⊎ (frame ≡ Link a b))
  unfolding after grouped hears heard_by
  frame_links Foreign h a b = same_plan Foreign a b (λ e. let z : ◌≡◌ {A = ℕ} 0 1 = cc in omega arith)
  frame_links Unknown h a b = same_plan Unknown a b (λ e. let z : ◌≡◌ {A = ℕ} 0 1 = cc in omega arith)
  frame_links (Head n source f) h a b = (
    λ x. clash x (no_link n source (record { kind = kind_read f; groups = no_groups }) a b),
    ⊎_elim (λ x. clash x (r.empty (head_accepted p said n source f h).0 a b)) (λ e. absurd (let z : ◌≡◌ {A = ℕ} 0 1 = cc in omega arith)),
  )
  frame_links (Link from to) h a b =
      let c = link_accepted p said from to h in
      link_more p.plan (r.begun (λ z. omega (arith, c.0))) from to c.1 c.2 a b (equal_or_not b to)
  frame_links (Group s) h a b = same_plan (Group s) a b (λ e. let z : ◌≡◌ {A = ℕ} 0 1 = cc in omega arith)
  frame_links (Channel layout) h a b = same_plan (Channel layout) a b (λ e. let z : ◌≡◌ {A = ℕ} 0 1 = cc in omega arith)
  frame_links (FaultSet s) h a b = same_plan (FaultSet s) a b (λ e. let z : ◌≡◌ {A = ℕ} 0 1 = cc in omega arith)
  frame_links (Start form edition layout rounds) h a b =
      same_plan (Start form edition layout rounds) a b (λ e. let z : ◌≡◌ {A = ℕ} 0 1 = cc in omega arith)
  frame_links (Later round edition layout) h a b = same_plan (Later round edition layout) a b (λ e. let z : ◌≡◌ {A = ℕ} 0 1 = cc in omega arith)
  frame_links (Message form round from to edition layout) h a b =
      same_plan (Message form round from to edition layout) a b (λ e. let z : ◌≡◌ {A = ℕ} 0 1 = cc in omega arith)
  frame_links (Broadcast round from layout) h a b = same_plan (Broadcast round from layout) a b (λ e. let z : ◌≡◌ {A = ℕ} 0 1 = cc in omega arith)

-- ---- the lines

-- the links known in the end are those known before, and those told
Says : Progress → (ℕ → ℕ → Type 0) → Progress → Type 0
Says p T q = (a b : ℕ) → (hears q.plan b a ≡ true) ↔ ((hears p.plan b a ≡ true) ⊎ T a b)

joined : {A B C F T : Type 0} → B ↔ (A ⊎ F) → C ↔ (B ⊎ T) → C ↔ (A ⊎ (F ⊎ T))
joined e g = (
  λ c. ⊎_elim (λ b. ⊎_elim (λ a. inl a) (λ f. inr (inl f)) (e.0 b)) (λ t. inr (inr t)) (g.0 c),
  ⊎_elim (λ a. g.1 (inl (e.1 (inl a)))) (⊎_elim (λ f. g.1 (inl (e.1 (inr f)))) (λ t. g.1 (inr t))),
)

told_links : (reader : Reader) (p : Progress) (said : Lists) (k : ℕ) (lines : List Line) → Ready p
    → (told reader p said k lines).number ≡ 0 → Says p (λ a b. Tells reader.kinds (Link a b) lines) (told reader p said k lines).progress
unfolding told Says
told_links reader p said k [] r =
    end_read reader p said k (λ (x : Reading). Says p (λ a b. Tells reader.kinds (Link a b) []) x.progress)
    (λ c a b. (λ h. inl h, ⊎_elim (λ h. h) (λ e. absurd e)))
told_links reader p said k (cut line ∷ rest) r = λ z. absurd (omega arith)
told_links reader p said k (ended line ∷ rest) r =
    line_read reader p said k line rest (λ (x : Reading). Says p (λ a b. Tells reader.kinds (Link a b) (ended line ∷ rest)) x.progress)
    (λ c z a b.
    joined (frame_links p said r (frame_of reader.kinds line) c a b)
    (told_links reader (after p (frame_of reader.kinds line)) (said_after p said (frame_of reader.kinds line)) (k + 1) rest (frame_ready p said r (frame_of reader.kinds line) c) z
    a b))

nothing_ready : Ready nothing_read
nothing_ready = record { begun = λ n. absurd (n refl); empty = λ z a b. no_link 0 0 (at_most 0) a b }

-- b hears a exactly if some line of the file is the link from a to b
pub reading_links : (reader : Reader) (text : List ℕ) → (reading reader text).number ≡ 0 → (a b : ℕ)
    → (hears (reading reader text).progress.plan b a ≡ true) ↔ Tells reader.kinds (Link a b) (lines_from [] text)
unfolding Says
reading_links reader text =
    text_read reader text (λ (r : Reading). (a b : ℕ) → (hears r.progress.plan b a ≡ true) ↔ Tells reader.kinds (Link a b) (lines_from [] text))
    (λ one z a b.
    let g = told_links reader nothing_read nothing_said 1 (lines_from [] text) nothing_ready z a b in
    (λ h. ⊎_elim (λ x. clash x (no_link 0 0 (at_most 0) a b)) (λ x. x) (g.0 h), λ x. g.1 (inr x)))
