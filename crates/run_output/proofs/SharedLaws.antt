-- The run on a shared channel that an accepted file asks for is not refused, and what `run` prints of it. Assumes nothing.
use Prim.Native.Nat.{ℕ, ◌*◌, ◌-◌, ◌≤◌, ◌<◌}
use mathlib.Core.Path.{◌≡◌, refl, sym, ap, ◌∙◌, fun_ext}
use mathlib.Core.Logic.{⊎_elim}
use mathlib.Core.Bool.{true}
use mathlib.Core.List.{List}
use native.Mathlib.Nat.{mul-le-mul}
use native.Mathlib.Omega.{arith}
use lib.ListN.{length, get_or, take, get_or-eq_default}
use lib.Seq.{get_or-take, length-take-le}
use borrow.Author.Tests.{eq-eqb, ne_eqb}
use Rattle.sets.specs.Tables.{table}
use Rattle.sets.proofs.Bools.{and_i, not_i, pick_yes}
use Rattle.sets.proofs.Laws.{below_or_not}
use Rattle.sets.proofs.Tables.{table_length, table_at}
use Rattle.quorum.specs.Notice.{notice_of, layout_of}
use Rattle.quorum.proofs.Notices.{layout_small}
use Rattle.quorum.proofs.Words.{start_parts}
use Rattle.terminal.specs.declared.State.TheVariants.{Taken}
use Rattle.terminal.specs.declared.Record.{Record}
use Rattle.terminal.proofs.Shown.{shown_state}
use Rattle.closure.specs.Verdict.{verdict}
use Rattle.faults.proofs.Laws.{shared_sound}
use Rattle.propagation.specs.Demand3.{Good}
use Rattle.propagation.specs.Channel.{SharedScript, shared_script_of, shared_site, Layouts}
use Rattle.propagation.proofs.Agreement.{agreement}
use Rattle.simulation.specs.Answer.{state_of}
use Rattle.simulation.specs.Channel.{shared_start_sound, shared_lists_fit, shared_run_cause, shared_array_after}
use Rattle.simulation.proofs.SharedCauses.{shared_played}
use Rattle.simulation.proofs.SharedPromise.{shared_array_at, script_small}
use Rattle.lines.specs.declared.Form.{Form}
use Rattle.lines.specs.declared.Form.TheVariants.{Old}
use Rattle.frames.specs.declared.Progress.{Progress}
use Rattle.frames.specs.Reading.{is_shared, run_reading, file_read}
use Rattle.frames.proofs.Accepted.{run_accepted}
use Rattle.output.proofs.Laws.{answered_is}
use Rattle.run_output.specs.Site.{site_lines, shared_read, state_shared, state_ran, ran_text, ran_on, run_text, SharedPlayable}
use Rattle.run_output.specs.SharedRuns.{carried_in, SharedRuns}
use Rattle.run_output.proofs.SiteLaws.{same_lines, run_shared_playable}

-- the layout of a layout is itself
layout_again : (x : ℕ) → layout_of (layout_of x) ≡ layout_of x
unfolding layout_of
layout_again x = omega arith

module _ (p : Progress) (words : List ℕ) (play : SharedPlayable p) (room : length words ≡ 16000) where
  -- the words that are played
  abbrev pub shared_end : ℕ
  shared_end = p.rounds * p.plan.n

  pub shared_end_small : shared_end ≤ 800
  shared_end_small = mul-le-mul {n₂ = 40} {m₂ = 20} play.forty play.twenty

  -- the layouts that the run is given
  abbrev given : List ℕ
  given = table 800 (λ i. layout_of (get_or words i 0))

  pub given_fits : shared_end ≤ length given
  given_fits = omega (arith, shared_end_small, table_length 800 (λ i. layout_of (get_or words i 0)))

  -- they are the script of the words
  same_word : (k : ℕ) → layout_of (get_or (take shared_end given) k 0) ≡ layout_of (get_or (take shared_end words) k 0)
  same_word k =
      ⊎_elim
      (λ l.
      ap layout_of (get_or-take shared_end given k 0 l ∙ table_at 800 (λ i. layout_of (get_or words i 0)) 0 k (omega (arith, l, shared_end_small))) ∙ layout_again (get_or words k 0)
      ∙ sym (ap layout_of (get_or-take shared_end words k 0 l)))
      (λ l.
      ap layout_of (get_or-eq_default (take shared_end given) 0 (omega (arith, l, length-take-le shared_end given given_fits)))
      ∙ sym (ap layout_of (get_or-eq_default (take shared_end words) 0 (omega (arith, l, length-take-le shared_end words (omega (arith, room, shared_end_small)))))))
      (below_or_not k shared_end)

  same_script : shared_script_of p.plan.n (take shared_end given) ≡ shared_read p words
  unfolding shared_read shared_script_of
  same_script = fun_ext (λ round. fun_ext (λ sender. same_word _))

  shared_not_refused : shared_run_cause p.plan p.faulty (layout_of p.notice) p.default p.rounds (length (take shared_end given)) p.plan.n ≡ 0
  unfolding shared_start_sound shared_lists_fit
  shared_not_refused =
      sym
      (shared_played p.plan p.faulty (layout_of p.notice) p.default p.rounds (length (take shared_end given)) p.plan.n play.bad_set
      (and_i _ _ play.in_range (not_i (ne_eqb p.default 0 play.some_default)))
      (and_i _ _ (eq-eqb (length (take shared_end given)) shared_end (length-take-le shared_end given given_fits)) (eq-eqb p.plan.n p.plan.n refl)))

  -- the records show those of the rules, and the lines are theirs
  pub shared_lines : (records : List Record)
      → records ≡ shared_array_after p.plan p.faulty (layout_of p.notice) p.default p.rounds (take shared_end given)
      → site_lines p.form p.plan.n p.faulty (state_of records) ≡ site_lines p.form p.plan.n p.faulty (state_shared p words)
  unfolding state_shared
  shared_lines records e =
      same_lines p.form p.plan.n p.faulty (state_of records) (state_shared p words)
      (λ b h.
      ap (λ (r : Record). r.state)
      (shared_array_at p.plan p.faulty (layout_of p.notice) p.default p.rounds (take shared_end given) (layout_small p.notice) play.default_small shared_not_refused records e b h)
      ∙ shown_state (shared_site p.plan p.faulty (layout_of p.notice) p.default (shared_script_of p.plan.n (take shared_end given)) p.rounds b)
      ∙ ap (λ (s : SharedScript). (shared_site p.plan p.faulty (layout_of p.notice) p.default s p.rounds b).state) same_script)

-- ---- what is printed

module _ (file : List ℕ) (h : (run_reading file).number ≡ 0) (shared : is_shared (run_reading file).progress ≡ true) where
  abbrev p : Progress
  p = (run_reading file).progress

  abbrev words : List ℕ
  words = (run_reading file).said.words

  read_small : (round sender : ℕ) → shared_read p words round sender < 65536
  unfolding shared_read
  read_small = script_small p.plan.n (take (p.rounds * p.plan.n) words)

  layouts : Layouts (layout_of p.notice) p.default (shared_read p words)
  layouts =
      let a = run_accepted file h in
      record {
        some_value = λ z. omega (arith, (start_parts (layout_of p.notice) p.rounds a.starts_sound).0, z);
        some_default = (run_shared_playable file h shared).some_default;
        value_small = layout_small p.notice;
        default_small = a.default_small;
        words_small = read_small;
      }

  -- every good terminal has taken what was carried
  pub agreed : (verdict p.plan).passed ≡ true → p.plan.n - 1 ≤ p.rounds → (b : ℕ) → Good p.plan p.faulty b
      → (at : ℕ) × (state_ran p (run_reading file).said b ≡ Taken at (notice_of 1 (carried_in p words)))
  unfolding state_ran state_shared carried_in
  agreed passed l b g =
      let a = run_accepted file h in
      let f = shared_sound p.plan p.faulty (a.shared_bad_set shared) in
      let w = (agreement p.plan f.0).agree passed p.faulty f.1 (layout_of p.notice) p.default (shared_read p words) layouts p.rounds b l g in
      (w.0, pick_yes _ _ _ shared ∙ w.1)

  printed : run_text file ≡ site_lines Old p.plan.n p.faulty (state_ran p (run_reading file).said)
  unfolding run_text ran_on ran_text
  printed =
      answered_is (file_read (run_reading file)) (ran_text p (run_reading file).said) h
      ∙ ap (λ (f : Form). site_lines f p.plan.n p.faulty (state_ran p (run_reading file).said)) ((run_accepted file h).shared_form shared)

pub shared_runs : (file : List ℕ) → SharedRuns file
shared_runs file = record { lines = printed file; agree = agreed file }
