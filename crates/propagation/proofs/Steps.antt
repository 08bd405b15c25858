-- The laws of one terminal's step (crates/terminal/proofs/Laws.antt), of a terminal of a plan; and what the office's write leaves as it was. Assumes nothing.
use Prim.Native.Nat.{ℕ, ◌+◌, ◌≤◌, ◌<◌}
use mathlib.Core.Path.{◌≡◌, refl}
use mathlib.Core.Logic.{◌⊎◌}
use mathlib.Core.Bool.{true, false, not}
use lib.Dec.{eqb}
use lib.ListN.{length}
use borrow.Author.Tests.{eq-eqb, ne_eqb}
use Rattle.sets.specs.Tests.{◌and◌}
use Rattle.sets.proofs.Bools.{and_i, and_no_l, and_no_r, not_i, not_yes, pick_yes, pick_no, pick_case}
use Rattle.quorum.specs.Notice.{edition_of, silent}
use Rattle.terminal.specs.Rule.{View, holds, held_by, issue}
use Rattle.terminal.specs.Regular.{Regular}
use Rattle.terminal.proofs.Laws as laws
use Rattle.terminal.proofs.Laws.{noted_edition}
use Rattle.plan.specs.declared.Plan.{Plan}
use Rattle.closure.specs.FaultSet.{enough_in}
use Rattle.plan.specs.Plan.{heard_by, hears}
use Rattle.propagation.specs.Run.{Office, step_in, issued}

-- why a terminal took x
abbrev pub Why : Plan → ℕ → View → ℕ → Type 0
Why p b r x =
    ((hears p b p.source ≡ true) × (holds r x p.source ≡ true)) ⊎ (enough_in p (λ j. hears p b j and holds r x j) ≡ true)

module _ (p : Plan) (b : ℕ) (said : ℕ → ℕ) (r : View) where
  abbrev after : View
  after = step_in p b said r

  pub step_round : after.round ≡ r.round + 1
  step_round = laws.step_round p.n p.source p.bound b (heard_by p b) said r

  pub step_regular : Regular r → Regular after
  step_regular = laws.step_regular p.n p.source p.bound b (heard_by p b) said r

  pub source_stays : b ≡ p.source → after.state ≡ r.state
  source_stays = laws.source_stays p.n p.source p.bound b (heard_by p b) said r

  -- it has taken x
  abbrev pub Takes : ℕ → Type 0
  Takes x = laws.Takes p.n p.source p.bound b (heard_by p b) said r x

  pub takes_why : (x : ℕ) → Takes x → Why p b after x
  unfolding laws.Why hears
  takes_why x t = t.reason

  pub step_state : Regular r → (after.state ≡ r.state) ⊎ ((x : ℕ) × Takes x)
  step_state = laws.step_state p.n p.source p.bound b (heard_by p b) said r

  pub holds_source : Regular r → (b ≡ p.source → ⊥) → p.source < p.n → hears p b p.source ≡ true → (x : ℕ) → holds after x p.source ≡ true
      → edition_of x ≤ held_by after.state
  unfolding hears
  holds_source = laws.holds_source p.n p.source p.bound b (heard_by p b) said r

  pub holds_votes : Regular r → (b ≡ p.source → ⊥) → (x : ℕ) → enough_in p (λ j. hears p b j and holds after x j) ≡ true
      → edition_of x ≤ held_by after.state
  unfolding hears
  holds_votes = laws.holds_votes p.n p.source p.bound b (heard_by p b) said r

  pub note_said : (x j : ℕ) → holds after x j ≡ true → (holds r x j ≡ true) ⊎ ((hears p b j ≡ true) × (said j ≡ x))
  unfolding hears
  note_said = laws.note_said p.n p.source p.bound b (heard_by p b) said r

  pub note_stays : (x j : ℕ) → (silent (said j) ≡ false → edition_of (said j) ≤ edition_of x) → holds r x j ≡ true → holds after x j ≡ true
  note_stays = laws.note_stays p.n p.source p.bound b (heard_by p b) said r

  pub spoken_noted : (j : ℕ) → j < p.n → j < length r.notes → hears p b j ≡ true → silent (said j) ≡ false → noted_edition r j ≤ edition_of (said j)
      → holds after (said j) j ≡ true
  unfolding hears
  spoken_noted = laws.spoken_noted p.n p.source p.bound b (heard_by p b) said r

  pub edition_why : (j : ℕ)
      → (noted_edition after j ≡ noted_edition r j) ⊎ ((hears p b j ≡ true) × (silent (said j) ≡ false) × (noted_edition after j ≡ edition_of (said j)))
  unfolding hears
  edition_why = laws.edition_why p.n p.source p.bound b (heard_by p b) said r

-- ---- what the office issues in a round: it is written into the source's record, and only its state changes

module _ (p : Plan) (office : Office) (round b : ℕ) (r : View) where
  pub issued_other : (b ≡ p.source → ⊥) → issued p office round b r ≡ r
  unfolding issued
  issued_other z = pick_no _ _ _ (and_no_l _ _ (ne_eqb b p.source z))

  pub issued_quiet : silent (office.later round) ≡ true → issued p office round b r ≡ r
  unfolding issued
  issued_quiet h = pick_no _ _ _ (and_no_r (eqb b p.source) _ (not_yes h))

  pub issued_source : b ≡ p.source → silent (office.later round) ≡ false → issued p office round b r ≡ issue (office.later round) r
  unfolding issued
  issued_source e h = pick_yes _ _ _ (and_i _ _ (eq-eqb b p.source e) (not_i h))

  issued_by {ℓ} : (Q : View → Type ℓ) → Q (issue (office.later round) r) → Q r → Q (issued p office round b r)
  unfolding issued
  issued_by Q i q = pick_case Q (eqb b p.source and not (silent (office.later round))) (issue (office.later round) r) r (λ t. i) (λ t. q)

  pub issued_round : (issued p office round b r).round ≡ r.round
  issued_round = issued_by (λ (x : View). x.round ≡ r.round) (laws.issue_round (office.later round) r) refl

  pub issued_regular : Regular r → Regular (issued p office round b r)
  issued_regular g = issued_by Regular (laws.issue_regular (office.later round) r g) g

  pub issued_holds : (y j : ℕ) → holds (issued p office round b r) y j ≡ holds r y j
  issued_holds y j = issued_by (λ (x : View). holds x y j ≡ holds r y j) (laws.issue_holds (office.later round) r y j) refl

  pub issued_edition : (j : ℕ) → noted_edition (issued p office round b r) j ≡ noted_edition r j
  issued_edition j = issued_by (λ (x : View). noted_edition x j ≡ noted_edition r j) (laws.issue_edition (office.later round) r j) refl
