-- The notices of an accepted file: the first, and the later ones in their list. Assumes nothing.
use Prim.Native.Nat.{ℕ, ◌-◌, ◌≤◌, ◌<◌}
use mathlib.Core.Path.{◌≡◌, refl, sym, ap, ◌∙◌, subst}
use mathlib.Core.Logic.{⊎_elim}
use mathlib.Core.Bool.{true, false}
use mathlib.Core.List.{List}
use native.Mathlib.Omega.{arith}
use lib.ListN.{length, get_or, set, replicate, length-set, length-replicate, get_or-replicate, get_or-eq_default}
use borrow.Author.Tests.{ltb-true}
use Rattle.std.specs.Prelude.{Option}
use Rattle.sets.proofs.Laws.{below_or_not}
use Rattle.quorum.specs.Notice.{notice_of, edition_of, layout_of, silent, rising}
use Rattle.quorum.specs.Words.{most_rounds, most_words, start_sound, place_of, shared_place_of}
use Rattle.quorum.proofs.Notices.{edition_notice, layout_notice, said_i}
use Rattle.quorum.proofs.Words.{start_parts}
use Rattle.lines.specs.declared.Form.{Form}
use Rattle.lines.specs.declared.Form.TheVariants.{Old, New}
use Rattle.lines.specs.declared.Frame.{Frame}
use Rattle.lines.specs.declared.Frame.TheVariants.{Foreign, Unknown, Head, Link, Group, Channel, FaultSet, Start, Later, Message, Broadcast}
use Rattle.lines.specs.Frames.{fits, paired}
use Rattle.lines.proofs.Fits.{paired_parts}
use Rattle.frames.specs.declared.Progress.{Progress}
use Rattle.frames.specs.declared.Reader.{Reader}
use Rattle.frames.specs.Reading.{stage_of, rounds_of, nothing_read, Lists, no_later, nothing_said, cause_in, after, said_after, reading}
use Rattle.frames.proofs.Keeps.{head_accepted, link_accepted, group_accepted, channel_accepted, fault_set_accepted, start_accepted, later_accepted, message_accepted, broadcast_accepted, reading_holds}
use Rattle.frames.proofs.Rising.{Rises, Free, rises_next, free_next}

-- what is known from the start on
pub record First (p : Progress) (later : List ℕ) : Type 0 where
  pub sound : start_sound (layout_of p.notice) p.rounds ≡ true
  pub some : edition_of p.notice ≡ 0 → ⊥
  pub within : p.issued ≤ p.rounds
  pub rises : Rises (edition_of p.notice) later p.issued p.edition
  pub free : Free later p.issued
  pub old : p.form ≡ Old → (edition_of p.notice ≡ 1) × (later ≡ no_later)

-- the lists have their places, and before the start no notice is in them; the default layout has two bytes
pub record Issued (p : Progress) (said : Lists) : Type 0 where
  pub places : length said.words ≡ most_words
  pub entries : length said.later ≡ most_rounds
  pub before : stage_of p.stage ≤ 4 → said.later ≡ no_later
  pub first : 5 ≤ stage_of p.stage → First p said.later
  pub small : p.default < 65536

silence : (n j : ℕ) → ◌≡◌ {A = ℕ} (get_or (replicate n 0) j 0) 0
silence n j =
    ⊎_elim (λ h. get_or-replicate {A = ℕ} n j 0 0 h) (λ h. get_or-eq_default (replicate n 0) 0 (omega (arith, length-replicate {A = ℕ} n 0)))
    (below_or_not j n)

module _ (p : Progress) (said : Lists) (i : Issued p said) where
  -- a frame before the start
  early : (q : Progress) → stage_of p.stage ≤ 4 → stage_of q.stage ≤ 4 → q.default < 65536 → Issued q said
  early q s t d = record { places = i.places; entries = i.entries; before = λ h. i.before s; first = λ h. absurd (omega arith); small = d }

  -- the start
  module _ (form : Form) (edition layout : ℕ) (rounds : Option ℕ) (f : paired form edition layout ≡ true)
      (h : cause_in p said (Start form edition layout rounds) ≡ 0) where
    start_first : First (after p (Start form edition layout rounds)) said.later
    unfolding after
    start_first =
        let a = start_accepted p said form edition layout rounds h in
        let b = paired_parts form edition layout f in
        let e = edition_notice edition layout b.1 in
        let none = i.before (omega (arith, a.0)) in
        record {
          sound = ap (λ (x : ℕ). start_sound x (rounds_of p.plan.n rounds)) (layout_notice edition layout b.1) ∙ a.1;
          some = λ z. a.2 (sym e ∙ z);
          within = omega arith;
          rises = λ l k s. ap (λ (x : ℕ). rising x l) e;
          free = λ j k. ap (λ (l : List ℕ). get_or l j 0) none ∙ silence most_rounds j;
          old = λ o. (e ∙ b.2 o, none);
        }

  -- a later notice
  module _ (round edition layout : ℕ) (f : paired New edition layout ≡ true) (h : cause_in p said (Later round edition layout) ≡ 0) where
    abbrev notice : ℕ
    notice = notice_of edition layout

    later_first : First (after p (Later round edition layout)) (set said.later (round - 1) notice)
    unfolding after
    later_first =
        let a = later_accepted p said round edition layout h in
        let b = paired_parts New edition layout f in
        let e = edition_notice edition layout b.1 in
        let g = i.first (omega (arith, a.0)) in
        let room : round ≤ length said.later = omega (arith, a.2, i.entries, (start_parts _ _ g.sound).1) in
        let heard : silent notice ≡ false =
        said_i notice (λ z. omega (arith, a.4, e)) (λ z. a.3 (sym (layout_notice edition layout b.1) ∙ z)) in
        record {
          sound = g.sound;
          some = g.some;
          within = a.2;
          rises =
              subst (Rises (edition_of p.notice) (set said.later (round - 1) notice) round) e
              (rises_next _ said.later p.issued p.edition g.rises g.free round notice a.1 room heard (omega (arith, a.4, e)));
          free = free_next _ said.later p.issued p.edition g.rises g.free round notice a.1 room;
          old = λ o. absurd (a.5 o);
        }

  frame_issued : (frame : Frame) → fits frame ≡ true → cause_in p said frame ≡ 0 → Issued (after p frame) (said_after p said frame)
  unfolding cause_in after said_after
  frame_issued Foreign f h = absurd (omega arith)
  frame_issued Unknown f h = absurd (omega arith)
  frame_issued (Head n source b) f h = early _ (omega (arith, (head_accepted p said n source b h).0)) (omega arith) (omega arith)
  frame_issued (Link from to) f h = early _ (omega (arith, (link_accepted p said from to h).0)) (omega arith) (omega arith)
  frame_issued (Group s) f h = early _ (omega (arith, (group_accepted p said s h).1)) (omega arith) (omega arith)
  frame_issued (Channel layout) f h = early _ (omega (arith, (channel_accepted p said layout h).1)) (omega arith) (ltb-true layout 65536 f)
  frame_issued (FaultSet s) f h = early _ (omega (arith, (fault_set_accepted p said s h).1)) (omega arith) i.small
  frame_issued (Start form edition layout rounds) f h = record {
    places = i.places;
    entries = i.entries;
    before = λ s. absurd (omega arith);
    first = λ s. start_first form edition layout rounds f h;
    small = i.small;
  }
  frame_issued (Later round edition layout) f h = record {
    places = i.places;
    entries = length-set said.later (round - 1) (notice_of edition layout) ∙ i.entries;
    before = λ s. absurd (omega arith);
    first = λ s. later_first round edition layout f h;
    small = i.small;
  }
  frame_issued (Message form round from to edition layout) f h =
      let g = i.first (message_accepted p said form round from to edition layout h) in
      record {
        places = length-set said.words (place_of p.plan.n round from to) (notice_of edition layout) ∙ i.places;
        entries = i.entries;
        before = λ s. absurd (omega arith);
        first = λ s. record { sound = g.sound; some = g.some; within = g.within; rises = g.rises; free = g.free; old = g.old };
        small = i.small;
      }
  frame_issued (Broadcast round from layout) f h =
      let g = i.first (broadcast_accepted p said round from layout h) in
      record {
        places = length-set said.words (shared_place_of p.plan.n round from) (notice_of 1 layout) ∙ i.places;
        entries = i.entries;
        before = λ s. absurd (omega arith);
        first = λ s. record { sound = g.sound; some = g.some; within = g.within; rises = g.rises; free = g.free; old = g.old };
        small = i.small;
      }

nothing_issued : Issued nothing_read nothing_said
nothing_issued = record {
  places = length-replicate {A = ℕ} most_words 0;
  entries = length-replicate {A = ℕ} most_rounds 0;
  before = λ h. refl;
  first = λ h. absurd (omega arith);
  small = omega arith;
}

pub reading_issued : (reader : Reader) (text : List ℕ) → (reading reader text).number ≡ 0
    → Issued (reading reader text).progress (reading reader text).said
reading_issued reader text = reading_holds Issued (λ p said frame f i c. frame_issued p said i frame f c) reader text nothing_issued
