-- Demand 3, silent: what the witness check accepts is kept waiting for ever by silence alone, whatever the office issues. Assumes nothing.
use Prim.Native.Nat.{ℕ, zero, suc, ◌<◌}
use mathlib.Core.Path.{◌≡◌, refl, sym, ◌∙◌, subst}
use mathlib.Core.Logic.{⊎_elim}
use mathlib.Core.Bool.{true, false}
use Rattle.sets.specs.Tests.{◌and◌}
use Rattle.sets.specs.Sets.{mem}
use Rattle.sets.proofs.Bools.{clash, decide, and_l, and_r}
use Rattle.terminal.specs.declared.State.TheVariants.{Waiting}
use Rattle.terminal.specs.Rule.{View, holds}
use Rattle.terminal.specs.Regular.{Regular}
use Rattle.terminal.proofs.Newest.{holds_said}
use Rattle.terminal.proofs.Laws.{start_empty, start_regular}
use Rattle.plan.specs.declared.Plan.{Plan}
use Rattle.plan.specs.Plan.{hears}
use Rattle.plan.proofs.Laws.{Sound}
use Rattle.propagation.specs.Run.{Office, silence, site}
use Rattle.closure.proofs.Faults.{hears_enough_lem}
use Rattle.closure.proofs.Witness.{Accepted}
use Rattle.propagation.proofs.Offices.{said_some}
use Rattle.propagation.proofs.Steps.{step_regular, takes_why, step_state, note_said}
use Rattle.propagation.proofs.Rounds.{word, stepped, other_at_start, at_other, word_good, word_faulty, says_why}
use Rattle.propagation.proofs.Safety.{not_both}

module _ (p : Plan) (sound : Sound p) (f l r : ℕ) (accepted : Accepted p f l r) (office : Office) where
  -- a cut-off terminal waits, and has notes from reached terminals only
  record Kept (b : ℕ) (x : View) : Type 0 where
    waiting : x.state ≡ Waiting
    regular : Regular x
    notes : (j y : ℕ) → hears p b j ≡ true → holds x y j ≡ true → mem j l ≡ true

  -- it is not the source
  other : (b : ℕ) → b < p.n → mem b r ≡ true → b ≡ p.source → ⊥
  other b k m e = clash accepted.source_in (subst (λ (x : ℕ). mem x l ≡ false) e (accepted.r_out b k m))

  start_kept : (b : ℕ) → b < p.n → mem b r ≡ true → Kept b (site p f office silence 0 b)
  start_kept b k m =
      subst (Kept b) (sym (other_at_start p f office silence b k (other b k m)))
      (record { waiting = refl; regular = start_regular; notes = λ j y h n. clash n (start_empty y j) })

  module _ (k : ℕ) (ih : (b : ℕ) → b < p.n → mem b r ≡ true → Kept b (site p f office silence k b)) where
    next_notes : (b : ℕ) → b < p.n → mem b r ≡ true → (j y : ℕ) → hears p b j ≡ true → holds (stepped p f office silence k b) y j ≡ true → mem j l ≡ true
    next_notes b lb m j y h n =
        let z = said_some y (holds_said (stepped p f office silence k b) y j n) in
        ⊎_elim ((ih b lb m).notes j y h)
        (λ s.
        ⊎_elim (λ bad. absurd (z (sym s.1 ∙ word_faulty p f office silence k b j h bad)))
        (λ good.
        let w = says_why (suc k) (site p f office silence k j).state y (sym (word_good p f office silence k b j h good) ∙ s.1) z in
        let lj = sound.heard_below b j lb h in
        ⊎_elim (λ e. e) (λ e. not_both (ih j lj (accepted.r_rest j lj good e)).waiting w.1) (decide (mem j l)))
        (decide (mem j f)))
        (note_said p b (word p f office silence k b) (site p f office silence k b) y j n)

    next_kept : (b : ℕ) → b < p.n → mem b r ≡ true → Kept b (stepped p f office silence k b)
    unfolding hears
    next_kept b lb m = record {
      waiting =
          ⊎_elim (λ same. same ∙ (ih b lb m).waiting)
          (λ t.
          ⊎_elim (λ s. clash s.0 (accepted.no_source b lb m))
          (λ s.
          clash
          (hears_enough_lem p b l (λ j. hears p b j and holds (stepped p f office silence k b) t.0 j)
          (λ j lj e. (and_l _ _ e, next_notes b lb m j t.0 (and_l _ _ e) (and_r _ _ e))) s)
          (accepted.no_enough b lb m))
          (takes_why p b (word p f office silence k b) (site p f office silence k b) t.0 t.1))
          (step_state p b (word p f office silence k b) (site p f office silence k b) (ih b lb m).regular);
      regular = step_regular p b (word p f office silence k b) (site p f office silence k b) (ih b lb m).regular;
      notes = next_notes b lb m;
    }

  kept : (k b : ℕ) → b < p.n → mem b r ≡ true → Kept b (site p f office silence k b)
  kept zero b lb m = start_kept b lb m
  kept (suc k) b lb m = subst (Kept b) (sym (at_other p f office silence k b lb (accepted.r_good b lb m) (other b lb m))) (next_kept k (kept k) b lb m)

  -- every member of R waits after any number of rounds
  pub waits : (k b : ℕ) → b < p.n → mem b r ≡ true → (site p f office silence k b).state ≡ Waiting
  waits k b lb m = (kept k b lb m).waiting
