-- In a passed plan a run whose start has no rounds byte prints no line that says waiting: demand 3 of its records, line by line. Assumes nothing.
use Prim.Native.Nat.{ℕ, zero, suc, ◌*◌, ◌/◌, ◌%◌, ◌-◌, ◌≤◌, ◌<◌}
use mathlib.Core.Path.{◌≡◌, refl, sym, ap, ◌∙◌, subst}
use mathlib.Core.Logic.{⊎_elim}
use mathlib.Core.Bool.{Bool, true, false}
use mathlib.Core.List.{List, [], ◌∷◌, ◌++◌, append-nil, append_assoc}
use native.Mathlib.Omega.{arith}
use lib.ListN.{length, get_or, take, length-take, get_or-eq_default}
use lib.Seq.{get_or-take}
use borrow.Author.Tests.{ne_eqb}
use Rattle.std.specs.Prelude.{None}
use Rattle.sets.specs.Tests.{pick}
use Rattle.sets.specs.Sets.{mem}
use Rattle.sets.proofs.Bools.{decide, and_i, not_i, pick_no, pick_case, every}
use Rattle.sets.proofs.Laws.{below_or_not}
use Rattle.quorum.specs.Notice.{edition_of, layout_of, silent}
use Rattle.quorum.proofs.Notices.{said_i, silent_zero}
use Rattle.quorum.proofs.Words.{start_parts}
use Rattle.terminal.specs.declared.State.{State}
use Rattle.terminal.specs.declared.State.TheVariants.{Waiting, Taken}
use Rattle.closure.specs.Verdict.{verdict}
use Rattle.faults.proofs.Laws.{fault_sound}
use Rattle.propagation.specs.Run.{office_of, Rising, Quiet, script_of}
use Rattle.propagation.proofs.Offices.{list_rises}
use Rattle.propagation.proofs.Safety.{not_both}
use Rattle.propagation.proofs.Demand3.{demand3}
use Rattle.simulation.proofs.Promise.{zeros}
use Rattle.digits.specs.Digits.{sixteen, by_case, digit_of, character_of}
use Rattle.text.specs.Digits.{hex_byte, hex_pair}
use Rattle.text.specs.Texts.{put_into}
use Rattle.text.proofs.Laws.{no_end, byte_no_end, put_back}
use Rattle.lines.specs.declared.Form.{Form}
use Rattle.lines.specs.declared.Form.TheVariants.{Old, New}
use Rattle.lines.specs.Bytes.{digit_at, byte_at}
use Rattle.frames.specs.declared.Progress.{Progress}
use Rattle.frames.specs.Lines.{ended, last_line, lines_from}
use Rattle.frames.specs.Reading.{is_shared, no_later, run_reading, file_read}
use Rattle.frames.proofs.Accepted.{run_accepted}
use Rattle.frames.proofs.Starts.{Started, run_starts, run_no_later}
use Rattle.frames.proofs.TextLines.{line_of}
use Rattle.output.specs.declared.Written.{Written}
use Rattle.output.specs.OnFile.{answer_on}
use Rattle.output.proofs.Laws.{answered_is}
use Rattle.run_output.specs.Site.{notice_text, terminal_line, good_line, state_line, site_lines, script_read, office_read, state_linked, state_ran, ran_text, ran_on, run_text}
use Rattle.run_output.proofs.SharedLaws.{agreed}
use Rattle.run_output.specs.RoundsLeftOut.{LeavesRoundsOut, state_said, none_waits, RoundsLeftOut}

-- ---- one terminal's line

-- its bytes, without the line end
abbrev notice_bytes : Form → ℕ → List ℕ
notice_bytes Old notice = hex_byte (layout_of notice / 256) ++ (hex_byte (layout_of notice % 256) ++ [])
notice_bytes New notice =
    hex_byte (edition_of notice / 256) ++ (hex_byte (edition_of notice % 256) ++ (hex_byte (layout_of notice / 256) ++ (hex_byte (layout_of notice % 256) ++ [])))

abbrev line_bytes : Form → (b state round notice : ℕ) → List ℕ
line_bytes form b state round notice = hex_byte 130 ++ (hex_byte b ++ (hex_byte state ++ (hex_byte round ++ notice_bytes form notice)))

notice_no_end : (form : Form) (notice : ℕ) → no_end (notice_bytes form notice) ≡ true
unfolding every
notice_no_end Old notice = byte_no_end (layout_of notice / 256) _ (byte_no_end (layout_of notice % 256) [] refl)
notice_no_end New notice =
    byte_no_end (edition_of notice / 256) _ (byte_no_end (edition_of notice % 256) _ (byte_no_end (layout_of notice / 256) _ (byte_no_end (layout_of notice % 256) [] refl)))

line_no_end : (form : Form) (b state round notice : ℕ) → no_end (line_bytes form b state round notice) ≡ true
line_no_end form b state round notice =
    byte_no_end 130 _ (byte_no_end b _ (byte_no_end state _ (byte_no_end round _ (notice_no_end form notice))))

terminal_line_lem : (form : Form) (b state round notice : ℕ) (rest : List ℕ)
    → lines_from [] (terminal_line form b state round notice ++ rest) ≡ ended (line_bytes form b state round notice) ∷ lines_from [] rest
unfolding terminal_line notice_text hex_pair hex_byte
terminal_line_lem Old b state round notice rest = line_of [] (line_bytes Old b state round notice) rest (line_no_end Old b state round notice)
terminal_line_lem New b state round notice rest = line_of [] (line_bytes New b state round notice) rest (line_no_end New b state round notice)

-- it says its state
one_more : (form : Form) (b state round notice : ℕ) (rest : List ℕ) → state_said (ended (line_bytes form b state round notice)) ≡ state → (state ≡ 0 → ⊥)
    → none_waits (lines_from [] rest) ≡ true → none_waits (lines_from [] (terminal_line form b state round notice ++ rest)) ≡ true
unfolding none_waits
one_more form b state round notice rest e n h =
    ap none_waits (terminal_line_lem form b state round notice rest)
    ∙ and_i _ _ (not_i (ne_eqb (state_said (ended (line_bytes form b state round notice))) 0 (λ z. n (sym e ∙ z)))) h

taken_said : (form : Form) (b round notice : ℕ) → state_said (ended (line_bytes form b 1 round notice)) ≡ 1
unfolding state_said byte_at digit_at hex_byte digit_of character_of by_case sixteen pick
taken_said form b round notice = refl

bad_said : (form : Form) (b round notice : ℕ) → state_said (ended (line_bytes form b 2 round notice)) ≡ 2
unfolding state_said byte_at digit_at hex_byte digit_of character_of by_case sixteen pick
bad_said form b round notice = refl

good_line_lem : (form : Form) (b : ℕ) (state : State) (rest : List ℕ) → (state ≡ Waiting → ⊥) → none_waits (lines_from [] rest) ≡ true
    → none_waits (lines_from [] (good_line form b state ++ rest)) ≡ true
unfolding good_line
good_line_lem form b Waiting rest n h = absurd (n refl)
good_line_lem form b (Taken round notice) rest n h = one_more form b 1 round notice rest (taken_said form b round notice) (λ z. omega arith) h

state_line_lem : (form : Form) (b : ℕ) (bad : Bool) (state : State) (rest : List ℕ) → (bad ≡ false → state ≡ Waiting → ⊥) → none_waits (lines_from [] rest) ≡ true
    → none_waits (lines_from [] (state_line form b bad state ++ rest)) ≡ true
unfolding state_line
state_line_lem form b bad state rest n h =
    pick_case (λ (line : List ℕ). none_waits (lines_from [] (line ++ rest)) ≡ true) bad (terminal_line form b 2 0 0) (good_line form b state)
    (λ e. one_more form b 2 0 0 rest (bad_said form b 0 0) (λ z. omega arith) h) (λ e. good_line_lem form b state rest (n e) h)

-- ---- all lines

site_lines_lem : (form : Form) (k faulty : ℕ) (state : ℕ → State) (rest : List ℕ) → ((b : ℕ) → b < k → mem b faulty ≡ false → state b ≡ Waiting → ⊥)
    → none_waits (lines_from [] rest) ≡ true → none_waits (lines_from [] (site_lines form k faulty state ++ rest)) ≡ true
unfolding site_lines
site_lines_lem form zero faulty state rest n h = h
site_lines_lem form (suc k) faulty state rest n h =
    ap (λ (t : List ℕ). none_waits (lines_from [] t)) (append_assoc (site_lines form k faulty state) (state_line form k (mem k faulty) (state k)) rest)
    ∙ site_lines_lem form k faulty state (state_line form k (mem k faulty) (state k) ++ rest) (λ b l. n b (omega arith))
    (state_line_lem form k (mem k faulty) (state k) rest (n k (omega arith)) h)

-- ---- an office without later notices

-- every entry is silence
pub none_later : (rounds j : ℕ) → get_or (take rounds no_later) j 0 ≡ 0
none_later rounds j =
    ⊎_elim (λ l. get_or-take rounds no_later j 0 l ∙ zeros 40 j)
    (λ l. get_or-eq_default (take rounds no_later) 0 (omega (arith, l, length-take rounds no_later)))
    (below_or_not j rounds)

pub later_quiet : (first rounds : ℕ) (later : List ℕ) → later ≡ no_later → (q r : ℕ) → Quiet (office_of first (take rounds later)) q r
unfolding office_of
later_quiet first rounds later e q r k l m =
    ap (λ (list : List ℕ). silent (get_or (take rounds list) (k - 1) 0)) e ∙ ap silent (none_later rounds (k - 1)) ∙ silent_zero

-- ---- the run of an accepted file

module _ (file : List ℕ) (h : (run_reading file).number ≡ 0) where
  abbrev p : Progress
  p = (run_reading file).progress

  abbrev played : List ℕ
  played = take (p.rounds * (p.plan.n * p.plan.n)) (run_reading file).said.words

  abbrev issued : List ℕ
  issued = take p.rounds (run_reading file).said.later

  -- its office's editions rise
  pub office_rises : Rising (office_of p.notice issued)
  office_rises =
      let a = run_accepted file h in
      list_rises p.notice issued (said_i p.notice a.some_edition (λ z. omega (arith, (start_parts (layout_of p.notice) p.rounds a.starts_sound).0, z))) a.rises_played

  -- n - 1 rounds are enough, with a word for each hearer
  none_here : is_shared p ≡ false → (verdict p.plan).passed ≡ true → p.plan.n - 1 ≤ p.rounds → (run_reading file).said.later ≡ no_later
      → (b : ℕ) → b < p.plan.n → mem b p.faulty ≡ false → state_ran p (run_reading file).said b ≡ Waiting → ⊥
  unfolding state_ran state_linked script_read office_read
  none_here apart passed l none b k g w =
      let a = run_accepted file h in
      (demand3 p.plan a.plan_sound).passes passed (office_of p.notice issued) office_rises p.faulty (fault_sound p.plan p.faulty (a.bad_set apart)).1
      (script_of p.plan.n played) p.rounds b l (later_quiet p.notice p.rounds (run_reading file).said.later none 0 p.rounds) (k, g)
      (sym (pick_no _ _ _ apart) ∙ w)

  -- and on a shared channel
  enough_rounds : (verdict p.plan).passed ≡ true → p.plan.n - 1 ≤ p.rounds → (run_reading file).said.later ≡ no_later → none_waits (lines_from [] (run_text file)) ≡ true
  unfolding run_text ran_on ran_text none_waits lines_from last_line
  enough_rounds passed l none =
      ap (λ (t : List ℕ). none_waits (lines_from [] t)) (answered_is (file_read (run_reading file)) (ran_text p (run_reading file).said) h ∙ sym (append-nil _))
      ∙ site_lines_lem p.form p.plan.n p.faulty _ []
      (λ b k g.
      ⊎_elim (λ shared w. not_both w (agreed file h shared passed l b (k, g)).1) (λ apart. none_here apart passed l none b k g) (decide (is_shared p)))
      refl

pub rounds_left_out : (file : List ℕ) → RoundsLeftOut file (run_text file)
rounds_left_out file = record {
  rounds = λ l. (started l).1;
  none_waits = λ l n passed. enough_rounds file l.0 passed (omega (arith, (started l).1)) (run_no_later file l.0 n);
}
  where
    started : (l : LeavesRoundsOut file) → Started l.1.0 l.1.1 l.1.2 None (run_reading file).progress
    started l = run_starts file l.0 l.1.0 l.1.1 l.1.2 None l.1.3

-- of what a call leaves in the list that it was lent
pub put_left_out : (file out : List ℕ) (w : Written) (last : List ℕ) → w ≡ answer_on (file_read (run_reading file)) (run_text file) (length out)
    → last ≡ put_into (run_text file) out → w.number ≡ 0 → RoundsLeftOut file (take w.len last)
unfolding answer_on
put_left_out file out w last e q z =
    let back = put_back (run_reading file).number (run_text file) out (sym (ap (λ (x : Written). x.number) e) ∙ z) in
    subst (RoundsLeftOut file) (sym ((λ i. take (e i).len (q i)) ∙ back.1)) (rounds_left_out file)
