-- A terminal's record from round to round, read off the lists of the run by the rules; and what a good terminal says. Assumes nothing.
use Prim.Native.Nat.{ℕ, zero, suc, ◌+◌, ◌≤◌, ◌<◌}
use mathlib.Core.Path.{◌≡◌, refl, sym, ap, ◌∙◌, subst, fun_ext}
use mathlib.Core.Logic.{⊎_elim}
use mathlib.Core.Bool.{true, false, not}
use mathlib.Core.List.{List}
use native.Mathlib.Omega.{arith}
use lib.Dec.{eqb}
use lib.ListN.{length, get_or}
use borrow.Author.Tests.{eq-eqb, ne_eqb}
use Rattle.sets.specs.Tests.{◌and◌, pick}
use Rattle.sets.specs.Tables.{table}
use Rattle.sets.specs.Sets.{mem}
use Rattle.sets.proofs.Bools.{decide, pick_yes, pick_no, pick_case}
use Rattle.sets.proofs.Tables.{table_length, table_at, table_same}
use Rattle.quorum.specs.Notice.{silent}
use Rattle.terminal.specs.declared.State.{State}
use Rattle.terminal.specs.declared.State.TheVariants.{Waiting, Taken}
use Rattle.terminal.specs.Rule.{View, start, source_start, holds, issue, says_in}
use Rattle.terminal.specs.Regular.{Regular}
use Rattle.terminal.proofs.Laws.{noted_edition}
use Rattle.plan.specs.declared.Plan.{Plan}
use Rattle.plan.specs.Plan.{hears}
use Rattle.propagation.specs.Run.{Script, Office, step_in, start_record, heard_from, issued, record_in, played, sites, site, SameWords}
use Rattle.propagation.proofs.Steps.{step_round, step_regular, issued_other, issued_quiet, issued_source, issued_round, issued_regular, issued_holds, issued_edition}

-- what a good terminal says is the notice that it has taken, in the round after
pub says_why : (round : ℕ) (s : State) (v : ℕ) → says_in round s ≡ v → (v ≡ 0 → ⊥) → (at : ℕ) × (s ≡ Taken at v)
unfolding says_in
says_why round Waiting v e z = absurd (z (sym e))
says_why round (Taken at w) v e z = (at, ap (Taken at) (value e))
  where
    value : pick (eqb (at + 1) round) w 0 ≡ v → w ≡ v
    value =
        pick_case (λ (x : ℕ). x ≡ v → w ≡ v) (eqb (at + 1) round) w 0 (λ t q. q) (λ t q. absurd (z (sym q)))

says_then : (at v : ℕ) → says_in (suc at) (Taken at v) ≡ v
unfolding says_in
says_then at v = pick_yes (eqb (at + 1) (suc at)) v 0 (eq-eqb (at + 1) (suc at) (omega arith))

pub says_then_at : (r at v : ℕ) (s : State) → s ≡ Taken at v → at ≡ r → says_in (suc r) s ≡ v
says_then_at r at v s e q = ap (says_in (suc r)) e ∙ ap (λ (x : ℕ). says_in (suc x) (Taken at v)) (sym q) ∙ says_then at v

module _ (p : Plan) (faulty : ℕ) (office : Office) (script : Script) where
  -- what terminal b hears from terminal j in round r + 1
  abbrev pub word : ℕ → ℕ → ℕ → ℕ
  word r b j = heard_from p faulty script (suc r) (sites p faulty office script r) b j

  pub at_start : (b : ℕ) → b < p.n → site p faulty office script 0 b ≡ start_record p office.first b
  unfolding site sites
  at_start b k = table_at p.n (start_record p office.first) start b k

  pub source_at_start : p.source < p.n → site p faulty office script 0 p.source ≡ source_start office.first
  unfolding start_record
  source_at_start k = at_start p.source k ∙ pick_yes _ _ _ (eq-eqb p.source p.source refl)

  pub other_at_start : (b : ℕ) → b < p.n → (b ≡ p.source → ⊥) → site p faulty office script 0 b ≡ start
  unfolding start_record
  other_at_start b k z = at_start b k ∙ pick_no _ _ _ (ne_eqb b p.source z)

  -- a good terminal's step in round r + 1
  abbrev pub stepped : ℕ → ℕ → View
  stepped r b = step_in p b (word r b) (site p faulty office script r b)

  pub at_next : (r b : ℕ) → b < p.n → mem b faulty ≡ false → site p faulty office script (suc r) b ≡ issued p office (suc r) b (stepped r b)
  unfolding site sites played record_in
  at_next r b k g = table_at p.n (record_in p faulty office script (suc r) (sites p faulty office script r)) start b k ∙ pick_no _ _ _ g

  -- for all but the source it is the step itself; for the source the office's notice is written into it, where there is one
  pub at_other : (r b : ℕ) → b < p.n → mem b faulty ≡ false → (b ≡ p.source → ⊥) → site p faulty office script (suc r) b ≡ stepped r b
  at_other r b k g z = at_next r b k g ∙ issued_other p office (suc r) b (stepped r b) z

  pub at_quiet : (r b : ℕ) → b < p.n → mem b faulty ≡ false → silent (office.later (suc r)) ≡ true → site p faulty office script (suc r) b ≡ stepped r b
  at_quiet r b k g h = at_next r b k g ∙ issued_quiet p office (suc r) b (stepped r b) h

  pub at_source_issued : (r b : ℕ) → b < p.n → mem b faulty ≡ false → b ≡ p.source → silent (office.later (suc r)) ≡ false
      → site p faulty office script (suc r) b ≡ issue (office.later (suc r)) (stepped r b)
  at_source_issued r b k g e h = at_next r b k g ∙ issued_source p office (suc r) b (stepped r b) e h

  -- round and notes are the step's for all
  module _ (r b : ℕ) (k : b < p.n) (g : mem b faulty ≡ false) where
    pub next_round : (site p faulty office script (suc r) b).round ≡ (site p faulty office script r b).round + 1
    next_round =
        ap (λ (x : View). x.round) (at_next r b k g) ∙ issued_round p office (suc r) b (stepped r b)
        ∙ step_round p b (word r b) (site p faulty office script r b)

    pub next_regular : Regular (site p faulty office script r b) → Regular (site p faulty office script (suc r) b)
    next_regular s =
        subst Regular (sym (at_next r b k g))
        (issued_regular p office (suc r) b (stepped r b) (step_regular p b (word r b) (site p faulty office script r b) s))

    pub next_holds : (y j : ℕ) → holds (site p faulty office script (suc r) b) y j ≡ holds (stepped r b) y j
    next_holds y j = ap (λ (x : View). holds x y j) (at_next r b k g) ∙ issued_holds p office (suc r) b (stepped r b) y j

    pub next_edition : (j : ℕ) → noted_edition (site p faulty office script (suc r) b) j ≡ noted_edition (stepped r b) j
    next_edition j = ap (λ (x : View). noted_edition x j) (at_next r b k g) ∙ issued_edition p office (suc r) b (stepped r b) j

  -- a terminal of the fault set stays waiting, round 0, nothing heard
  pub at_faulty : (r b : ℕ) → b < p.n → mem b faulty ≡ true → site p faulty office script (suc r) b ≡ start
  unfolding site sites played record_in
  at_faulty r b k g = table_at p.n (record_in p faulty office script (suc r) (sites p faulty office script r)) start b k ∙ pick_yes _ _ _ g

  pub sites_length : (r : ℕ) → length (sites p faulty office script r) ≡ p.n
  unfolding sites played
  sites_length zero = table_length p.n (start_record p office.first)
  sites_length (suc r) = table_length p.n (record_in p faulty office script (suc r) (sites p faulty office script r))

  pub word_good : (r b j : ℕ) → hears p b j ≡ true → mem j faulty ≡ false → word r b j ≡ says_in (suc r) (site p faulty office script r j).state
  unfolding heard_from site
  word_good r b j h g = pick_yes _ _ _ h ∙ pick_no _ _ _ g

  pub word_faulty : (r b j : ℕ) → hears p b j ≡ true → mem j faulty ≡ true → word r b j ≡ script (suc r) j b
  unfolding heard_from
  word_faulty r b j h g = pick_yes _ _ _ h ∙ pick_yes _ _ _ g

-- ---- entries of good senders and of missing links are not looked at: scripts that agree on all others give the same sites

module _ (p : Plan) (faulty : ℕ) (office : Office) (script other : Script) where
  heard_same : (r round : ℕ) → SameWords p faulty r script other → 1 ≤ round → round ≤ r → (before : List View) (b : ℕ) → b < p.n → (j : ℕ)
      → heard_from p faulty script round before b j ≡ heard_from p faulty other round before b j
  unfolding heard_from
  heard_same r round same first last before b k j =
      ⊎_elim
      (λ h.
      pick_yes _ _ _ h
      ∙ ⊎_elim (λ m. pick_yes _ _ _ m ∙ same round j b first last k h m ∙ sym (pick_yes _ _ _ m)) (λ m. pick_no _ _ _ m ∙ sym (pick_no _ _ _ m)) (decide (mem j faulty))
      ∙ sym (pick_yes _ _ _ h))
      (λ h. pick_no _ _ _ h ∙ sym (pick_no _ _ _ h))
      (decide (hears p b j))

  record_same : (r round : ℕ) → SameWords p faulty r script other → 1 ≤ round → round ≤ r → (before : List View) (b : ℕ) → b < p.n
      → record_in p faulty office script round before b ≡ record_in p faulty office other round before b
  unfolding record_in
  record_same r round same first last before b k =
      ap (λ (said : ℕ → ℕ). pick (mem b faulty) start (issued p office round b (step_in p b said (get_or before b start))))
      (fun_ext (heard_same r round same first last before b k))

  pub sites_same : (r : ℕ) → SameWords p faulty r script other → sites p faulty office script r ≡ sites p faulty office other r
  unfolding sites played
  sites_same zero same = refl
  sites_same (suc r) same =
      table_same p.n (record_in p faulty office script (suc r) (sites p faulty office script r)) (record_in p faulty office other (suc r) (sites p faulty office script r))
      (record_same (suc r) (suc r) same (omega arith) (omega arith) (sites p faulty office script r))
      ∙ ap (played p faulty office other (suc r)) (sites_same r (λ round sender hearer first last k h m. same round sender hearer first (omega arith) k h m))

-- ---- nor is what an office issues after the last round: those that agree up to it give the same sites

pub office_same : (p : Plan) (faulty : ℕ) (office other : Office) (script : Script) (r : ℕ)
    → office.first ≡ other.first → ((round : ℕ) → 1 ≤ round → round ≤ r → office.later round ≡ other.later round)
    → sites p faulty office script r ≡ sites p faulty other script r
unfolding sites played record_in issued
office_same p faulty office other script zero first later = ap (λ (x : ℕ). table p.n (start_record p x)) first
office_same p faulty office other script (suc r) first later =
    let e : office.later (suc r) ≡ other.later (suc r) = later (suc r) (omega arith) (omega arith) in
    let before : sites p faulty office script r ≡ sites p faulty other script r =
    office_same p faulty office other script r first (λ round a b. later round a (omega arith)) in
    (λ i.
    table p.n
    (λ b.
    pick (mem b faulty) start
    (pick (eqb b p.source and not (silent (e i))) (issue (e i) (step_in p b (heard_from p faulty script (suc r) (before i) b) (get_or (before i) b start)))
    (step_in p b (heard_from p faulty script (suc r) (before i) b) (get_or (before i) b start)))))
