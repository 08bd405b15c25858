-- The lines of a text as the one pass over its bytes meets them, and what the file is by then. Assumes nothing.
use Prim.Native.Nat.{ℕ, suc, ◌+◌, ◌-◌, ◌≤◌, ◌<◌}
use mathlib.Core.Path.{◌≡◌, refl, sym, ap, ap₂, ◌∙◌}
use mathlib.Core.List.{List, [], ◌∷◌, ◌++◌}
use native.Mathlib.Nat.{sub_self}
use native.Mathlib.Numerals.{add-one}
use native.Mathlib.Omega.{arith}
use lib.Dec.{eqb}
use lib.ListN.{length, get_or, take, drop, length-take, length-drop, length-replicate, drop_of_length-le}
use lib.Seq.{drop-cons, take-suc, get_or-drop}
use borrow.Author.Tests.{eq-eqb, ne_eqb, le-leb}
use Rattle.sets.specs.Tests.{pick}
use Rattle.sets.proofs.Bools.{and_i, pick_yes, pick_no}
use Rattle.quorum.specs.Quorum.{most_terminals}
use Rattle.quorum.specs.Words.{most_rounds, most_words}
use Rattle.lines.specs.declared.Frame.{Frame}
use Rattle.lines.specs.Frames.{frame_of}
use Rattle.frames.specs.declared.cause.Cause.{Cause}
use Rattle.frames.specs.declared.cause.Cause.TheVariants.{Foreign, Unknown, OutOfPlace, WrongRange, WrongLink, LinkTwice, WrongMember, OverBound, WrongNotice, WrongWord, WordTwice, WrongRoom, TooMany, Deaf, WrongEdition, WrongGroups}
use Rattle.frames.specs.declared.Progress.{Progress}
use Rattle.frames.specs.declared.Reader.{Reader}
use Rattle.frames.specs.declared.Cursor.{Cursor}
use Rattle.frames.specs.Lines.{ended, last_line, lines_from}
use Rattle.frames.specs.Reading.{most_bytes, nothing_read, Lists, nothing_said, line_cause, links_cause, end_cause, after, said_after, Reading, refusal, unless, told, reading}
use Rattle.frames.specs.Causes.{number}
use Rattle.frames.specs.Pass.{current, ahead, Going}
use Rattle.frames.proofs.Unless.{unless_none, unless_some}
use Rattle.frames.proofs.TellLaws.{kept_next}

-- every cause has a number
pub numbered : (cause : Cause) → number cause ≡ 0 → ⊥
numbered Foreign z = absurd (omega arith)
numbered Unknown z = absurd (omega arith)
numbered OutOfPlace z = absurd (omega arith)
numbered WrongRange z = absurd (omega arith)
numbered WrongLink z = absurd (omega arith)
numbered LinkTwice z = absurd (omega arith)
numbered WrongMember z = absurd (omega arith)
numbered OverBound z = absurd (omega arith)
numbered WrongNotice z = absurd (omega arith)
numbered WrongWord z = absurd (omega arith)
numbered WordTwice z = absurd (omega arith)
numbered WrongRoom z = absurd (omega arith)
numbered TooMany z = absurd (omega arith)
numbered Deaf z = absurd (omega arith)
numbered WrongEdition z = absurd (omega arith)
numbered WrongGroups z = absurd (omega arith)

-- ---- the line that the pass is in

-- byte 10 ends the line
lines_end : (text line : List ℕ) (i : ℕ) → i < length text → get_or text i 0 ≡ 10
    → lines_from line (drop i text) ≡ ended line ∷ lines_from [] (drop (i + 1) text)
unfolding lines_from
lines_end text line i k h = rw (add-one, drop-cons text i 0) (pick_yes _ _ _ (eq-eqb (get_or text i 0) 10 h))

-- any other byte is the line's next
current_grows : (text : List ℕ) (from i : ℕ) → from ≤ i → i < length text → current text from (i + 1) ≡ current text from i ++ (get_or text i 0 ∷ [])
current_grows text from i f k =
    let one : i + 1 - from ≡ suc (i - from) = omega arith in
    let back : from + (i - from) ≡ i = omega arith in
    let room : i - from < length (drop from text) = simp length-drop (omega arith) in
    ap (λ (j : ℕ). take j (drop from text)) one
    ∙ take-suc (drop from text) (i - from) 0 room
    ∙ ap (λ (b : ℕ). current text from i ++ (b ∷ [])) (get_or-drop from text (i - from) 0 ∙ ap (λ (j : ℕ). get_or text j 0) back)

pub lines_grow : (text : List ℕ) (from i : ℕ) → from ≤ i → i < length text → (get_or text i 0 ≡ 10 → ⊥)
    → lines_from (current text from i) (drop i text) ≡ lines_from (current text from (i + 1)) (drop (i + 1) text)
unfolding lines_from
lines_grow text from i f k h =
    ap (lines_from (current text from i)) (drop-cons text i 0 k)
    ∙ pick_no _ _ _ (ne_eqb (get_or text i 0) 10 h)
    ∙ ap₂ lines_from (sym (current_grows text from i f k)) (ap (λ (j : ℕ). drop j text) (sym (add-one i)))

module _ (reader : Reader) (text : List ℕ) (p : Progress) (said : Lists) (line from i : ℕ) where
  -- a line ends
  module _ (k : i < length text) (h : get_or text i 0 ≡ 10) (frame : Frame) (f : frame ≡ frame_of reader.kinds (current text from i)) (end : ℕ)
      (d : end ≡ end_cause reader p frame) where
    -- what is told from the next line on
    abbrev rest : Reading
    rest = told reader (after p frame) (said_after p said frame) (line + 1) (lines_from [] (drop (i + 1) text))

    line_is : ahead reader text p said line from i ≡ unless end 0 (unless (line_cause reader.heads p said frame) line rest)
    unfolding told
    line_is =
        ap (told reader p said line) (lines_end text (current text from i) i k h)
        ∙ ap
        (λ (x : Frame).
        unless (end_cause reader p x) 0
        (unless (line_cause reader.heads p said x) line (told reader (after p x) (said_after p said x) (line + 1) (lines_from [] (drop (i + 1) text)))))
        (sym f)
        ∙ ap (λ (c : ℕ). unless c 0 (unless (line_cause reader.heads p said frame) line rest)) (sym d)

    -- the links end with it and are refused
    pub line_ends_lem : (end ≡ 0 → ⊥) → ahead reader text p said line from i ≡ refusal end 0
    line_ends_lem n = line_is ∙ unless_some end 0 _ n

    -- or its frame is refused or accepted
    module _ (o : end ≡ 0) (cause : ℕ) (e : cause ≡ line_cause reader.heads p said frame) where
      line_goes : ahead reader text p said line from i ≡ unless cause line rest
      line_goes = line_is ∙ unless_none end 0 _ o ∙ ap (λ (c : ℕ). unless c line rest) (sym e)

      pub line_refused : (cause ≡ 0 → ⊥) → ahead reader text p said line from i ≡ refusal cause line
      line_refused n = line_goes ∙ unless_some cause line rest n

      pub line_told : (next : Progress) (last : Lists) → cause ≡ 0 → next ≡ after p frame
          → last ≡ pick (eqb cause 0) (said_after p said frame) said
          → ahead reader text p said line from i ≡ ahead reader text next last (line + 1) (i + 1) (i + 1)
      line_told next last z q w =
          let there : said_after p said frame ≡ last = sym (w ∙ pick_yes _ _ _ (eq-eqb cause 0 z)) in
          let none : [] ≡ current text (i + 1) (i + 1) = ap (λ (j : ℕ). take j (drop (i + 1) text)) (sym (sub_self (i + 1))) in
          line_goes
          ∙ unless_none cause line rest z
          ∙ ap₂ (λ (x : Progress) (y : Lists). told reader x y (line + 1) (lines_from [] (drop (i + 1) text))) (sym q) there
          ∙ ap (λ (l : List ℕ). told reader next last (line + 1) (lines_from l (drop (i + 1) text))) none

  -- the text ends, within a line or with one
  cut_refused : (l : List ℕ) → 0 < length l → told reader p said line (lines_from l []) ≡ refusal 1 line
  unfolding told lines_from last_line
  cut_refused [] h = absurd (omega arith)
  cut_refused (b ∷ l) h = refl

  module _ (t : length text ≤ i) where
    pub ends_cut : i ≤ length text → from < i → ahead reader text p said line from i ≡ refusal 1 line
    ends_cut u h =
        ap (λ (l : List ℕ). told reader p said line (lines_from (current text from i) l)) (drop_of_length-le text t)
        ∙ cut_refused (current text from i) (simp (length-take, length-drop) (omega arith))

    module _ (h : i ≤ from) (end : ℕ) (d : end ≡ links_cause reader p) where
      ends_is : ahead reader text p said line from i ≡ unless end 0 (record { number = 0; line = 0; progress = p; said = said })
      unfolding told lines_from last_line
      ends_is =
          let none : i - from ≡ 0 = omega arith in
          ap (λ (l : List ℕ). told reader p said line (lines_from (current text from i) l)) (drop_of_length-le text t)
          ∙ ap (λ (j : ℕ). told reader p said line (lines_from (take j (drop from text)) [])) none
          ∙ ap (λ (c : ℕ). unless c 0 (record { number = 0; line = 0; progress = p; said = said })) (sym d)

      pub ends_refused : (end ≡ 0 → ⊥) → ahead reader text p said line from i ≡ refusal end 0
      ends_refused n = ends_is ∙ unless_some end 0 _ n

      pub ends_told : end ≡ 0 → ahead reader text p said line from i ≡ record { number = 0; line = 0; progress = p; said = said }
      ends_told z = ends_is ∙ unless_none end 0 _ z

-- ---- the file

pub no_words_lem : (said : Lists) → said ≡ nothing_said → length said.words ≡ most_words
no_words_lem said e = ap (λ (s : Lists). length s.words) e ∙ length-replicate {A = ℕ} most_words 0

pub no_later_lem : (said : Lists) → said ≡ nothing_said → length said.later ≡ most_rounds
no_later_lem said e = ap (λ (s : Lists). length s.later) e ∙ length-replicate {A = ℕ} most_rounds 0

pub starts_small : (p : Progress) → p ≡ nothing_read → (p.plan.n ≤ most_terminals) × (p.rounds ≤ most_rounds)
starts_small p e = rw e (omega arith)

pub starts : (reader : Reader) (text : List ℕ) (p : Progress) (said : Lists) → (1 ≤ length text) × (length text ≤ most_bytes) × (said ≡ nothing_said) → p ≡ nothing_read
    → ahead reader text p said 1 0 0 ≡ reading reader text
unfolding reading
starts reader text p said h e =
    ap₂ (λ (x : Progress) (y : Lists). told reader x y 1 (lines_from [] text)) e h.2
    ∙ sym (pick_yes _ _ _ (and_i _ _ (le-leb 1 (length text) h.0) (le-leb (length text) most_bytes h.1)))

pub going_starts : (reader : Reader) (text : List ℕ) (p : Progress) (said : Lists) → (1 ≤ length text) × (length text ≤ most_bytes) × (said ≡ nothing_said)
    → p ≡ nothing_read → Going reader text said (record { progress = p; line = 1; from = 0 }) 0
going_starts reader text p said h e =
    let s = starts_small p e in
    record {
      begun = omega arith;
      within = omega arith;
      counted = omega arith;
      twenty = s.0;
      forty = s.1;
      places = no_words_lem said h.2;
      entries = no_later_lem said h.2;
      same = starts reader text p said h e;
    }

-- ---- the byte at i

module _ (reader : Reader) (text : List ℕ) (said : Lists) (at : Cursor) (i : ℕ) (g : Going reader text said at i) (k : i < length text) where
  -- it is one more of the line
  pub pass_grows : (get_or text i 0 ≡ 10 → ⊥) → Going reader text said at (i + 1)
  pass_grows h = record {
    begun = omega (arith, g.begun);
    within = omega arith;
    counted = g.counted;
    twenty = g.twenty;
    forty = g.forty;
    places = g.places;
    entries = g.entries;
    same = ap (told reader at.progress said at.line) (sym (lines_grow text at.from i g.begun k h)) ∙ g.same;
  }

  -- it ends the line, and the links are refused there, or the line's frame is refused or accepted
  module _ (h : get_or text i 0 ≡ 10) (frame : Frame) (f : frame ≡ frame_of reader.kinds (current text at.from i)) (end : ℕ)
      (d : end ≡ end_cause reader at.progress frame) where
    pub pass_ends : (end ≡ 0 → ⊥) → reading reader text ≡ refusal end 0
    pass_ends n = sym g.same ∙ line_ends_lem reader text at.progress said at.line at.from i k h frame f end d n

    module _ (o : end ≡ 0) (cause : ℕ) (e : cause ≡ line_cause reader.heads at.progress said frame) where
      pub pass_refused : (cause ≡ 0 → ⊥) → reading reader text ≡ refusal cause at.line
      pass_refused n = sym g.same ∙ line_refused reader text at.progress said at.line at.from i k h frame f end d o cause e n

      pub pass_told : (next : Progress) (last : Lists) → cause ≡ 0 → next ≡ after at.progress frame
          → last ≡ pick (eqb cause 0) (said_after at.progress said frame) said
          → length last.words ≡ length said.words → length last.later ≡ length said.later
          → Going reader text last (record { progress = next; line = at.line + 1; from = i + 1 }) (i + 1)
      pass_told next last z q w l m =
          let small = kept_next reader.heads at.progress said g.twenty g.forty frame cause next e z q in
          record {
            begun = omega arith;
            within = omega arith;
            counted = omega (arith, g.counted, g.begun);
            twenty = small.0;
            forty = small.1;
            places = l ∙ g.places;
            entries = m ∙ g.entries;
            same =
                sym (line_told reader text at.progress said at.line at.from i k h frame f end d o cause e next last z q w)
                ∙ g.same;
          }
