-- A run in the old frames is that of an office which issues one notice, in edition 1. Assumes nothing.
use Prim.Native.Nat.{ℕ, ◌-◌}
use mathlib.Core.Path.{◌≡◌, sym, ap, ◌∙◌}
use mathlib.Core.Bool.{false}
use mathlib.Core.List.{List}
use lib.ListN.{length, get_or, take}
use Rattle.quorum.specs.Notice.{notice_of, layout_of}
use Rattle.quorum.proofs.Notices.{notice_is}
use Rattle.sets.proofs.Bools.{pick_no}
use Rattle.terminal.specs.Rule.{View, start}
use Rattle.propagation.specs.Run.{one_notice, office_of, site}
use Rattle.propagation.proofs.Rounds.{office_same}
use Rattle.lines.specs.declared.Form.{Form}
use Rattle.lines.specs.declared.Form.TheVariants.{Old}
use Rattle.frames.specs.declared.Progress.{Progress}
use Rattle.frames.specs.Reading.{is_shared, run_reading, file_read}
use Rattle.frames.proofs.Accepted.{run_accepted}
use Rattle.frames.proofs.Starts.{run_no_channel}
use Rattle.output.proofs.Laws.{answered_is}
use Rattle.run_output.specs.Site.{site_lines, script_read, office_read, state_linked, state_ran, ran_text, ran_on, run_text}
use Rattle.run_output.specs.OldRuns.{OldRuns}
use Rattle.run_output.proofs.SiteLaws.{same_lines, old_length}
use Rattle.run_output.proofs.RoundsLeftOut.{none_later}

-- its lines have no edition
in_old_form : (file : List ℕ) → (run_reading file).number ≡ 0 → (run_reading file).progress.form ≡ Old
    → run_text file ≡ site_lines Old (run_reading file).progress.plan.n (run_reading file).progress.faulty (state_ran (run_reading file).progress (run_reading file).said)
unfolding run_text ran_on ran_text
in_old_form file h old =
    answered_is (file_read (run_reading file)) (ran_text (run_reading file).progress (run_reading file).said) h
    ∙ ap
    (λ (f : Form).
    site_lines f (run_reading file).progress.plan.n (run_reading file).progress.faulty (state_ran (run_reading file).progress (run_reading file).said)) old

module _ (file : List ℕ) (h : (run_reading file).number ≡ 0) (old : (run_reading file).progress.form ≡ Old) (apart : is_shared (run_reading file).progress ≡ false) where
  abbrev p : Progress
  p = (run_reading file).progress

  first_is : p.notice ≡ notice_of 1 (layout_of p.notice)
  first_is = sym (notice_is p.notice) ∙ ap (λ (e : ℕ). notice_of e (layout_of p.notice)) ((run_accepted file h).old_edition old)

  same_site : (b : ℕ)
      → site p.plan p.faulty (office_read p (run_reading file).said.later) (script_read p (run_reading file).said.words) p.rounds b
      ≡ site p.plan p.faulty (one_notice (notice_of 1 (layout_of p.notice))) (script_read p (run_reading file).said.words) p.rounds b
  unfolding site office_read office_of
  same_site b =
      ap (λ (records : List View). get_or records b start)
      (office_same p.plan p.faulty (office_read p (run_reading file).said.later) (one_notice (notice_of 1 (layout_of p.notice))) (script_read p (run_reading file).said.words) p.rounds first_is
      (λ round one last. ap (λ (l : List ℕ). get_or (take p.rounds l) (round - 1) 0) ((run_accepted file h).old_later old) ∙ none_later p.rounds (round - 1)))

  one_edition : run_text file
      ≡ site_lines Old p.plan.n p.faulty
      (λ b. (site p.plan p.faulty (one_notice (notice_of 1 (layout_of p.notice))) (script_read p (run_reading file).said.words) p.rounds b).state)
  unfolding state_ran state_linked
  one_edition =
      in_old_form file h old
      ∙ same_lines Old p.plan.n p.faulty _ _ (λ b l. pick_no _ _ _ apart ∙ ap (λ (x : View). x.state) (same_site b))

pub old_runs : (file : List ℕ) → OldRuns file
old_runs file = record {
  one_edition = λ h old n. one_edition file h old (run_no_channel file h n);
  thirteen = λ h old. ap length (in_old_form file h old) ∙ old_length (run_reading file).progress.plan.n (run_reading file).progress.faulty _;
}
