-- The terminals' lines one after the other, and what `run` prints on a file that is accepted: the run that it asks for is never refused. Assumes nothing.
use Prim.Native.Nat.{ℕ, zero, suc, ◌+◌, ◌*◌, ◌≤◌, ◌<◌}
use mathlib.Core.Path.{◌≡◌, refl, sym, ap, ◌∙◌, subst}
use mathlib.Core.Bool.{Bool, true, false}
use mathlib.Core.List.{List, map}
use native.Mathlib.Nat.{mul-le-mul}
use native.Mathlib.Numerals.{add-one}
use native.Mathlib.Omega.{arith}
use lib.ListN.{length, get_or, take, length-append, length-replicate, get_or-map}
use lib.Seq.{length-take-le}
use Rattle.std.specs.Prelude.{Ok, Err}
use Rattle.sets.specs.Sets.{mem}
use lib.Dec.{eqb}
use borrow.Author.Tests.{ne_eqb, eqb-false}
use Rattle.sets.proofs.Bools.{and_i, not_i, not_e, pick_yes, pick_no, pick_case}
use Rattle.terminal.specs.declared.State.{State}
use Rattle.terminal.specs.declared.State.TheVariants.{Waiting, Taken}
use Rattle.terminal.specs.declared.Record.{Record}
use Rattle.terminal.proofs.Shown.{shown_state}
use Rattle.plan.proofs.Laws.{sound}
use Rattle.propagation.specs.Run.{office_of, site, script_of}
use Rattle.simulation.specs.Answer.{office_sound, run_cause, array_after, state_of}
use Rattle.quorum.specs.Notice.{edition_of}
use Rattle.simulation.proofs.Causes.{fits, given_played, cause_given}
use Rattle.simulation.proofs.Promise.{array_at}
use Rattle.lines.specs.declared.Form.{Form}
use Rattle.lines.specs.declared.Form.TheVariants.{Old, New}
use Rattle.frames.specs.declared.Progress.{Progress}
use Rattle.frames.specs.declared.Refusal.{Refusal}
use Rattle.frames.specs.Reading.{FileRead, is_shared, Lists, both, Reading, no_words, no_later, run_reading, run_file, file_read, words_read, later_read}
use Rattle.frames.specs.Causes.{number, answer}
use Rattle.frames.proofs.Accepted.{run_accepted}
use Rattle.frames.proofs.FileLaws.{run_file_lem, words_read_lem, later_read_lem}
use Rattle.text.specs.Digits.{hex_byte, hex_pair}
use Rattle.text.specs.Texts.{joined, written_of, put_into}
use Rattle.text.proofs.Laws.{room_for}
use Rattle.output.specs.declared.Written.{Written}
use Rattle.output.specs.OnFile.{refusal_line, on_line, answer_on}
use Rattle.output.proofs.Laws.{put_accepted, put_refused}
use Rattle.run_output.specs.Site.{notice_text, terminal_line, good_line, state_line, site_lines, script_read, office_read, state_shared, state_linked, state_ran, ran_text, ran_on, run_text, SharedPlayable, Playable}

-- ---- each line has 13 bytes, 17 in the new form

unfoldable pub line_length : Form → ℕ
line_length Old = 13
line_length New = 17

terminal_length : (form : Form) (b state round notice : ℕ) → length (terminal_line form b state round notice) ≡ line_length form
unfolding terminal_line notice_text hex_pair hex_byte line_length
terminal_length Old b state round notice = refl
terminal_length New b state round notice = refl

good_length : (form : Form) (b : ℕ) (state : State) → length (good_line form b state) ≡ line_length form
unfolding good_line
good_length form b Waiting = terminal_length form b 0 0 0
good_length form b (Taken round notice) = terminal_length form b 1 round notice

state_length : (form : Form) (b : ℕ) (bad : Bool) (state : State) → length (state_line form b bad state) ≡ line_length form
unfolding state_line
state_length form b bad state =
    pick_case (λ (t : List ℕ). length t ≡ line_length form) bad (terminal_line form b 2 0 0) (good_line form b state) (λ h. terminal_length form b 2 0 0) (λ h. good_length form b state)

pub line_seventeen : (form : Form) → line_length form ≤ 17
unfolding line_length
line_seventeen Old = omega arith
line_seventeen New = omega arith

-- no more than 17 for each
pub site_length : (form : Form) (k faulty : ℕ) (state : ℕ → State) → length (site_lines form k faulty state) ≤ 17 * k
unfolding site_lines
site_length form zero faulty state = omega arith
site_length form (suc k) faulty state =
    omega (
      arith,
      length-append (site_lines form k faulty state) (state_line form k (mem k faulty) (state k)),
      site_length form k faulty state,
      state_length form k (mem k faulty) (state k),
      line_seventeen form,
    )

pub old_length : (k faulty : ℕ) (state : ℕ → State) → length (site_lines Old k faulty state) ≡ 13 * k
unfolding site_lines line_length
old_length zero faulty state = refl
old_length (suc k) faulty state =
    length-append (site_lines Old k faulty state) (state_line Old k (mem k faulty) (state k))
    ∙ omega (arith, old_length k faulty state, state_length Old k (mem k faulty) (state k))

-- ---- one terminal's line

module _ (form : Form) (b : ℕ) (bad : Bool) (state : State) (bytes : List ℕ) {last : List ℕ} where
  pub says_bad : bad ≡ true → last ≡ joined bytes (terminal_line form b 2 0 0) → last ≡ joined bytes (state_line form b bad state)
  unfolding state_line
  says_bad e a = a ∙ ap (joined bytes) (sym (pick_yes _ _ _ e))

  pub says_good : bad ≡ false → last ≡ joined bytes (good_line form b state) → last ≡ joined bytes (state_line form b bad state)
  unfolding state_line
  says_good e a = a ∙ ap (joined bytes) (sym (pick_no _ _ _ e))

-- ---- all lines

-- one line more of at most 20
pub next_line : (form : Form) (k faulty : ℕ) (state : ℕ → State) (t last : List ℕ) (bad : Bool) (own : State) → k < 20 → bad ≡ mem k faulty → own ≡ state k
    → t ≡ site_lines form k faulty state → last ≡ joined t (state_line form k bad own) → last ≡ site_lines form (k + 1) faulty state
unfolding site_lines
next_line form k faulty state t last bad own h e s a b =
    let fits : length (site_lines form k faulty state) + length (state_line form k bad own) ≤ 344 =
    omega (arith, site_length form k faulty state, state_length form k bad own, line_seventeen form) in
    rw (add-one k, ← e, ← s) (b ∙ ap (λ (l : List ℕ). joined l (state_line form k bad own)) a ∙ room_for (site_lines form k faulty state) (state_line form k bad own) fits)

-- terminals with the same states have the same lines
pub same_lines : (form : Form) (k faulty : ℕ) (f g : ℕ → State) → ((b : ℕ) → b < k → f b ≡ g b) → site_lines form k faulty f ≡ site_lines form k faulty g
unfolding site_lines
same_lines form zero faulty f g e = refl
same_lines form (suc k) faulty f g e = rw (same_lines form k faulty f g (λ b h. e b (omega arith)), e k (omega arith))

-- a record that is not in the list may be any, as far as its state is the same
pub same_state : (records : List Record) (b : ℕ) (d e : Record) → d.state ≡ e.state → (get_or records b d).state ≡ (get_or records b e).state
same_state records b d e h =
    sym (get_or-map (λ (r : Record). r.state) records b d)
    ∙ ap (get_or (map (λ (r : Record). r.state) records) b) h
    ∙ get_or-map (λ (r : Record). r.state) records b e

-- ---- which of the two runs was asked for

module _ (p : Progress) (said : Lists) (t : List ℕ) where
  pub told_shared : is_shared p ≡ true → t ≡ site_lines p.form p.plan.n p.faulty (state_shared p said.words) → t ≡ ran_text p said
  unfolding ran_text state_ran
  told_shared h e = e ∙ same_lines p.form p.plan.n p.faulty (state_shared p said.words) (state_ran p said) (λ b l. sym (pick_yes _ _ _ h))

  pub told_linked : is_shared p ≡ false → t ≡ site_lines p.form p.plan.n p.faulty (state_linked p said) → t ≡ ran_text p said
  unfolding ran_text state_ran
  told_linked h e = e ∙ same_lines p.form p.plan.n p.faulty (state_linked p said) (state_ran p said) (λ b l. sym (pick_no _ _ _ h))

-- ---- the run that an accepted file asks for is not refused

module _ (p : Progress) (words later : List ℕ) (play : Playable p later) (room : length words ≡ 16000) (forty : length later ≡ 40) where
  -- the words that are played
  abbrev pub end : ℕ
  end = p.rounds * (p.plan.n * p.plan.n)

  pub square_small : p.plan.n * p.plan.n ≤ 400
  square_small = mul-le-mul {n₂ = 20} {m₂ = 20} play.twenty play.twenty

  pub end_within : end ≤ length words
  end_within = omega (arith, room, mul-le-mul {n₂ = 40} {m₂ = 400} play.forty square_small)

  pub rounds_within : p.rounds ≤ length later
  rounds_within = omega (arith, forty, play.forty)

  not_refused : run_cause p.plan p.faulty p.notice (take p.rounds later) p.rounds (length (take end words)) p.plan.n ≡ 0
  not_refused =
      sym (cause_given p.plan p.faulty p.notice (take p.rounds later) p.rounds _ _ play.bad_set)
      ∙ sym
      (given_played p.plan p.notice (take p.rounds later) p.rounds _ _ play.in_range play.rises
      (fits p.plan p.rounds _ _ _ (length-take-le end words end_within) (length-take-le p.rounds later rounds_within) refl))

  -- the records show those of the rules, and the lines are theirs
  pub ran_lines : (records : List Record) → records ≡ array_after p.plan p.faulty p.notice (take p.rounds later) p.rounds (take end words)
      → site_lines p.form p.plan.n p.faulty (state_of records) ≡ site_lines p.form p.plan.n p.faulty (state_linked p (both words later))
  unfolding state_linked script_read office_read
  ran_lines records e =
      same_lines p.form p.plan.n p.faulty (state_of records) (state_linked p (both words later))
      (λ b h. ap (λ (r : Record). r.state) (array_at p.plan p.faulty p.notice (take p.rounds later) p.rounds (take end words) not_refused records e b h)
      ∙ shown_state (site p.plan p.faulty (office_of p.notice (take p.rounds later)) (script_of p.plan.n (take end words)) p.rounds b))

-- ---- the lines on a run file

pub run_playable : (file : List ℕ) → (run_reading file).number ≡ 0 → is_shared (run_reading file).progress ≡ false → Playable (run_reading file).progress (run_reading file).said.later
unfolding office_sound
run_playable file h apart =
    let a = run_accepted file h in
    record {
      twenty = (sound (run_reading file).progress.plan a.plan_sound).twenty;
      forty = a.rounds_within;
      bad_set = a.bad_set apart;
      in_range = a.starts_sound;
      rises = and_i _ _ (not_i (ne_eqb (edition_of (run_reading file).progress.notice) 0 a.some_edition)) a.rises_played;
    }

-- a default that is there is not 0
some_default : (p : Progress) → is_shared p ≡ true → p.default ≡ 0 → ⊥
unfolding is_shared
some_default p h = eqb-false p.default 0 (not_e (eqb p.default 0) h)

pub run_shared_playable : (file : List ℕ) → (run_reading file).number ≡ 0 → is_shared (run_reading file).progress ≡ true → SharedPlayable (run_reading file).progress
run_shared_playable file h shared =
    let a = run_accepted file h in
    record {
      twenty = (sound (run_reading file).progress.plan a.plan_sound).twenty;
      forty = a.rounds_within;
      bad_set = a.shared_bad_set shared;
      in_range = a.starts_sound;
      some_default = some_default (run_reading file).progress shared;
      default_small = a.default_small;
    }

-- the lists that are lent to the reader have a place for each word and for each round
pub words_room : length no_words ≡ 16000
words_room = length-replicate {A = ℕ} 16000 0

pub later_room : length no_later ≡ 40
later_room = length-replicate {A = ℕ} 40 0

module _ (file : List ℕ) (read : FileRead) (words later : List ℕ) (e : read ≡ file_read (run_file file (length no_words) (length no_later)))
    (w : words ≡ words_read (run_file file (length no_words) (length no_later)) no_words) (l : later ≡ later_read (run_file file (length no_words) (length no_later)) no_later) where
  same_file : run_file file (length no_words) (length no_later) ≡ run_reading file
  same_file = run_file_lem file (length no_words) (length no_later) words_room later_room

  pub read_is : read ≡ file_read (run_reading file)
  read_is = e ∙ ap file_read same_file

  module _ (z : read.number ≡ 0) where
    read_number : (run_reading file).number ≡ 0
    read_number = sym (ap (λ (r : FileRead). r.number) read_is) ∙ z

    words_are : words ≡ (run_reading file).said.words
    words_are = w ∙ ap (λ (r : Reading). words_read r no_words) same_file ∙ sym (words_read_lem (run_reading file) no_words read_number)

    later_are : later ≡ (run_reading file).said.later
    later_are = l ∙ ap (λ (r : Reading). later_read r no_later) same_file ∙ sym (later_read_lem (run_reading file) no_later read_number)

    pub said_is : both words later ≡ (run_reading file).said
    said_is = (λ i. both (words_are i) (later_are i))

    pub read_playable : is_shared read.progress ≡ false → Playable read.progress later
    read_playable =
        subst (λ (r : FileRead). is_shared r.progress ≡ false → Playable r.progress later) (sym read_is)
        (λ apart. subst (Playable (run_reading file).progress) (sym later_are) (run_playable file read_number apart))

    pub read_shared_playable : is_shared read.progress ≡ true → SharedPlayable read.progress
    read_shared_playable = subst (λ (r : FileRead). is_shared r.progress ≡ true → SharedPlayable r.progress) (sym read_is) (run_shared_playable file read_number)

-- ---- what is put of a run file, where it is accepted and where it is refused: a refused file's lists are not looked at

module _ (file : List ℕ) {w : Written} {last : List ℕ} (out : List ℕ) where
  pub put_ran : (p : Progress) (said : Lists) (t : List ℕ) → answer (Ok p) ≡ file_read (run_reading file) → said ≡ (run_reading file).said → t ≡ ran_text p said
      → w ≡ on_line 0 (written_of 0 (length t) (length out)) → last ≡ put_into t out → (w ≡ answer_on (file_read (run_reading file)) (run_text file) (length out)) × (last ≡ put_into (run_text file) out)
  unfolding run_text ran_on
  put_ran p said t e s a = put_accepted w last out (file_read (run_reading file)) (λ (x : Progress). ran_text x (run_reading file).said) p t e (a ∙ ap (ran_text p) s)

  pub put_refusal : (e : Refusal) → answer (Err e) ≡ file_read (run_reading file) → w ≡ answer_on (answer (Err e)) (refusal_line (number e.cause) e.line) (length out)
      → last ≡ put_into (refusal_line (number e.cause) e.line) out → (w ≡ answer_on (file_read (run_reading file)) (run_text file) (length out)) × (last ≡ put_into (run_text file) out)
  unfolding run_text ran_on
  put_refusal = put_refused w last out (file_read (run_reading file)) (λ (x : Progress). ran_text x (run_reading file).said)
