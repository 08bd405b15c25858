-- Each fold of the rule taken one turn further, as the loops take it; and what the step's answer says of its parts. Assumes nothing.
use Prim.Native.Nat.{ℕ, zero, suc, ◌+◌, ◌^◌, ◌≤◌, ◌<◌, min}
use mathlib.Core.Path.{◌≡◌, refl, sym, ap, ◌∙◌}
use mathlib.Core.Bool.{Bool, true, false, ◌||◌}
use mathlib.Core.List.{List, [], ◌∷◌, ◌++◌}
use mathlib.Core.Logic.{⊎_elim}
use native.Mathlib.Nat.{not-suc-le-zero, eq-or-lt_of_le, le_of_suc-le-suc}
use native.Mathlib.Numerals.{add-one}
use native.Mathlib.Omega.{arith}
use lib.Dec.{eqb, leb}
use lib.ListN.{length, get_or, take}
use lib.Seq.{take-suc}
use borrow.Author.Tests.{ltb-true, leb-true, eqb-true, eq-eqb}
use Rattle.sets.specs.Tests.{◌implies◌}
use Rattle.sets.specs.Sets.{mem, within}
use Rattle.sets.proofs.Bools.{and_l, and_r, implies_e, not_no, or_code, pick_yes, pick_no}
use Rattle.sets.proofs.Laws.{all_at, mem_below}
use Rattle.sets.proofs.Causes.{cause_none}
use Rattle.quorum.specs.declared.Bound.{Bound}
use Rattle.quorum.specs.Quorum.{in_range, others}
use Rattle.terminal.specs.declared.State.TheVariants.{Taken}
use Rattle.terminal.specs.declared.Record.{Record}
use Rattle.terminal.specs.Rule.{among, lesser, least, least_of, step}
use Rattle.terminal.specs.Shown.{note_of, view_of, shown_over}
use Rattle.terminal.specs.Answer.{counts_sound, record_sound, cause_of, record_after, issue_cause, record_issued}
use Rattle.terminal.proofs.Values.{among_last}

-- ---- a value among the first i

pub among_turn : (v i : ℕ) (found : Bool) (values : List ℕ) → i < length values → found ≡ among v (take i values)
    → (found || eqb (get_or values i 0) v) ≡ among v (take (i + 1) values)
among_turn v i found values k e =
    ap (λ (b : Bool). b || eqb (get_or values i 0) v) e ∙ or_code (among v (take i values)) (eqb (get_or values i 0) v)
    ∙ sym (among_last v (get_or values i 0) (take i values))
    ∙ ap (among v) (sym (take-suc values i 0 k) ∙ ap (λ (m : ℕ). take m values) (sym (add-one i)))

-- ---- the lesser of two values, where 0 is none

pub lesser_none : (a : ℕ) → lesser a 0 ≡ a
unfolding lesser
lesser_none zero = refl
lesser_none (suc a) = refl

pub lesser_some : (a b : ℕ) → 0 < a → 0 < b → lesser a b ≡ min a b
unfolding lesser
lesser_some zero b h k = absurd (not-suc-le-zero h)
lesser_some (suc a) zero h k = absurd (not-suc-le-zero k)
lesser_some (suc a) (suc b) h k = refl

lesser_assoc : (a b d : ℕ) → lesser a (lesser b d) ≡ lesser (lesser a b) d
unfolding lesser
lesser_assoc zero b d = refl
lesser_assoc (suc a) zero d = refl
lesser_assoc (suc a) (suc b) zero = sym (lesser_none (min (suc a) (suc b)))
lesser_assoc (suc a) (suc b) (suc d) =
    lesser_some (suc a) (min (suc b) (suc d)) (omega arith) (omega arith)
    ∙ regroup (suc a) (suc b) (suc d)
    ∙ sym (lesser_some (min (suc a) (suc b)) (suc d) (omega arith) (omega arith))
  where
    regroup : (x y z : ℕ) → min x (min y z) ≡ min (min x y) z
    regroup x y z = omega arith

-- a value that is in reach already changes nothing
lesser_again : (a b : ℕ) → lesser (lesser a b) b ≡ lesser a b
unfolding lesser
lesser_again zero zero = refl
lesser_again zero (suc b) = omega arith
lesser_again (suc a) zero = refl
lesser_again (suc a) (suc b) = lesser_some (min (suc a) (suc b)) (suc b) (omega arith) (omega arith) ∙ omega arith

lesser_swap : (a b : ℕ) → lesser a b ≡ lesser b a
unfolding lesser
lesser_swap zero zero = refl
lesser_swap zero (suc b) = refl
lesser_swap (suc a) zero = refl
lesser_swap (suc a) (suc b) = omega arith

pub least_next : (i : ℕ) (value : ℕ → ℕ) → least (suc i) value ≡ lesser (least i value) (value i)
unfolding least lesser
least_next zero value = lesser_none (value 0)
least_next (suc i) value =
    ap (lesser (value 0)) (least_next i (λ j. value (suc j))) ∙ lesser_assoc (value 0) (least i (λ j. value (suc j))) (value (suc i))

-- a value that one below i has
pub least_again : (i : ℕ) (value : ℕ → ℕ) (j : ℕ) → j < i → lesser (least i value) (value j) ≡ least i value
least_again zero value j k = absurd (not-suc-le-zero k)
least_again (suc i) value j k =
    ap (λ (x : ℕ). lesser x (value j)) (least_next i value)
    ∙ ⊎_elim
    (λ e. ap (λ (m : ℕ). lesser (lesser (least i value) (value i)) (value m)) e ∙ lesser_again (least i value) (value i))
    (λ l.
    sym (lesser_assoc (least i value) (value i) (value j)) ∙ ap (lesser (least i value)) (lesser_swap (value i) (value j))
    ∙ lesser_assoc (least i value) (value j) (value i) ∙ ap (λ (x : ℕ). lesser x (value i)) (least_again i value j l))
    (eq-or-lt_of_le (le_of_suc-le-suc k))
    ∙ sym (least_next i value)

least_of_last : (value : ℕ → ℕ) (values : List ℕ) (v : ℕ) → least_of value (values ++ (v ∷ [])) ≡ lesser (least_of value values) (value v)
unfolding least_of lesser
least_of_last value [] v = lesser_none (value v)
least_of_last value (x ∷ values) v =
    ap (lesser (value x)) (least_of_last value values v) ∙ lesser_assoc (value x) (least_of value values) (value v)

-- ---- a turn of each loop: what it had of those below i it has of those below i + 1

pub least_turn : (i best next : ℕ) (value : ℕ → ℕ) → best ≡ least i value → next ≡ value i → lesser best next ≡ least (i + 1) value
least_turn i best next value p q = rw (p, q, add-one, least_next)

pub least_of_turn : (i best next : ℕ) (value : ℕ → ℕ) (values : List ℕ) → i < length values → best ≡ least_of value (take i values)
    → next ≡ value (get_or values i 0) → lesser best next ≡ least_of value (take (i + 1) values)
least_of_turn i best next value values k p q =
    (λ m. lesser (p m) (q m)) ∙ sym (least_of_last value (take i values) (get_or values i 0))
    ∙ ap (least_of value) (sym (take-suc values i 0 k) ∙ ap (λ (m : ℕ). take m values) (sym (add-one i)))

-- ---- where no cause of refusal applies, whoever is heard is of the site, and the round can be played

pub accepted_hears : (n source : ℕ) (bound : Bound) (own heard : ℕ) (r : Record) (words : ℕ) → cause_of n source bound own heard r words ≡ 0 → (j : ℕ) → mem j heard ≡ true → j < n
unfolding cause_of others within
accepted_hears n source bound own heard r words h j m =
    let a = cause_none _ 4 _ (λ z. omega arith) h in
    let b = cause_none _ 5 _ (λ z. omega arith) a.1 in
    mem_below n j heard (ltb-true heard (2 ^ n) (and_l _ _ (not_no (others n own heard) b.0))) m

pub accepted_plays : (n source : ℕ) (bound : Bound) (own heard : ℕ) (r : Record) (words : ℕ) → cause_of n source bound own heard r words ≡ 0
    → (n ≤ 20) × (source < n) × (n ≤ words) × (r.round < 40) × ((j : ℕ) → mem j heard ≡ true → (note_of r.notes j).count < 40)
unfolding cause_of in_range record_sound counts_sound
accepted_plays n source bound own heard r words h =
    let a = cause_none _ 4 _ (λ z. omega arith) h in
    let b = cause_none _ 5 _ (λ z. omega arith) a.1 in
    let g = cause_none _ 17 _ (λ z. omega arith) b.1 in
    let d = cause_none _ 13 _ (λ z. omega arith) g.1 in
    let e : words ≡ n = eqb-true words n (not_no _ (cause_none _ 12 _ (λ z. omega arith) d.1).0) in
    let range = not_no (in_range n source bound.kind) a.0 in
    let s = and_r _ _ (and_r _ _ range) in
    let n20 : n ≤ 20 = leb-true n 20 (and_l _ _ (and_r _ _ range)) in
    let good = not_no (record_sound n source own heard r) d.0 in
    let early : r.round < 40 = ltb-true r.round 40 (and_l _ _ good) in
    let counts = and_r _ _ (and_r _ _ (and_r _ _ good)) in (
      n20,
      ltb-true source n (and_l _ _ s),
      omega arith,
      early,
      λ j m.
          let l : j < n = accepted_hears n source bound own heard r words h j m in
          let c : (note_of r.notes j).count ≤ r.round =
          leb-true (note_of r.notes j).count r.round
          (implies_e _ _ (all_at 20 (λ j. mem j heard implies leb (note_of r.notes j).count r.round) counts j (omega arith)) m) in
          omega arith,
    )

-- ---- the record that comes back, by the number of the cause

module _ (n source : ℕ) (bound : Bound) (own heard : ℕ) (r : Record) (said : List ℕ) where
  pub after_accepted : 0 ≡ cause_of n source bound own heard r (length said)
      → shown_over (λ j. mem j heard) r (step n source bound own heard (λ j. get_or said j 0) (view_of r)) ≡ record_after n source bound own heard r said
  unfolding record_after
  after_accepted h = sym (pick_yes _ _ _ (eq-eqb _ _ (sym h)))

  pub after_refused : (k : ℕ) → k ≡ cause_of n source bound own heard r (length said) → eqb k 0 ≡ false → r ≡ record_after n source bound own heard r said
  unfolding record_after
  after_refused k h t = sym (pick_no _ _ _ (ap (λ (x : ℕ). eqb x 0) (sym h) ∙ t))

-- ---- the office's notice likewise

module _ (r : Record) (x : ℕ) where
  pub issue_accepted : 0 ≡ issue_cause r x → record { state = Taken r.round x; round = r.round; notes = r.notes } ≡ record_issued r x
  unfolding record_issued
  issue_accepted h = sym (pick_yes _ _ _ (eq-eqb _ _ (sym h)))

  pub issue_refused : (k : ℕ) → k ≡ issue_cause r x → eqb k 0 ≡ false → r ≡ record_issued r x
  unfolding record_issued
  issue_refused k h t = sym (pick_no _ _ _ (ap (λ (m : ℕ). eqb m 0) (sym h) ∙ t))
