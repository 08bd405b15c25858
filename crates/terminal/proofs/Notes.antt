-- What is noted after a round, and which layout is chosen in an edition. Assumes nothing.
use Prim.Native.Nat.{ℕ, zero, suc, ◌≤◌, ◌<◌, min}
use mathlib.Core.Path.{◌≡◌, refl, sym, ap, ◌∙◌, subst}
use mathlib.Core.Logic.{◌⊎◌, inl, inr, ⊎_elim}
use mathlib.Core.Bool.{Bool, true, false, not}
use mathlib.Core.List.{List, [], ◌∷◌}
use native.Mathlib.Nat.{le_of_suc-le-suc, not-suc-le-zero, zero-lt-suc}
use native.Mathlib.Omega.{arith}
use lib.Dec.{eqb}
use lib.ListN.{length, replicate}
use borrow.Author.Tests.{eq-eqb, ne_eqb, eqb-true}
use Rattle.sets.specs.Tests.{◌and◌}
use Rattle.sets.specs.Sets.{mem, all}
use Rattle.sets.proofs.Bools.{clash, decide, no_by, and_l, and_r, and_i, or_l, or_r, or_e, not_i, not_e, pick_yes, pick_no, pick_case}
use Rattle.sets.proofs.Laws.{equal_or_not, all_at, all_not}
use Rattle.quorum.specs.declared.Bound.{Bound}
use Rattle.quorum.specs.Quorum.{enough}
use Rattle.quorum.proofs.Laws.{enough_none}
use Rattle.terminal.specs.Rule.{Spoken, nothing_said, spoken_by, among, with_word, noted, values_of, has_noted, certified, first_of, lesser, least, least_of, candidate, least_from, choice}
use Rattle.terminal.proofs.Values.{first_among, unheard_word}

-- ---- what a neighbour has said

pub noted_length : (n : ℕ) (hears : ℕ → Bool) (said : ℕ → ℕ) (notes : List Spoken) → length (noted n hears said notes) ≡ length notes
unfolding noted
noted_length zero hears said notes = refl
noted_length (suc n) hears said [] = refl
noted_length (suc n) hears said (x ∷ notes) = ap suc (noted_length n (λ j. hears (suc j)) (λ j. said (suc j)) notes)

pub noted_at : (n : ℕ) (hears : ℕ → Bool) (said : ℕ → ℕ) (notes : List Spoken) (j : ℕ) → j < n → j < length notes
    → spoken_by (noted n hears said notes) j ≡ with_word (hears j) (spoken_by notes j) (said j)
unfolding noted spoken_by
noted_at zero hears said notes j k l = absurd (not-suc-le-zero k)
noted_at (suc n) hears said [] j k l = absurd (not-suc-le-zero l)
noted_at (suc n) hears said (x ∷ notes) zero k l = refl
noted_at (suc n) hears said (x ∷ notes) (suc j) k l =
    noted_at n (λ j. hears (suc j)) (λ j. said (suc j)) notes j (le_of_suc-le-suc k) (le_of_suc-le-suc l)

-- what holds of what was noted, and of that after the neighbour's word, holds of what is noted then
pub noted_by {ℓ} : (Q : Spoken → Type ℓ) (n : ℕ) (hears : ℕ → Bool) (said : ℕ → ℕ) (notes : List Spoken) (j : ℕ)
    → Q (spoken_by notes j) → Q (with_word (hears j) (spoken_by notes j) (said j)) → Q (spoken_by (noted n hears said notes) j)
unfolding noted spoken_by
noted_by Q zero hears said notes j p q = p
noted_by Q (suc n) hears said [] j p q = p
noted_by Q (suc n) hears said (x ∷ notes) zero p q = q
noted_by Q (suc n) hears said (x ∷ notes) (suc j) p q = noted_by Q n (λ j. hears (suc j)) (λ j. said (suc j)) notes j p q

pub noted_above : (n : ℕ) (hears : ℕ → Bool) (said : ℕ → ℕ) (notes : List Spoken) (j : ℕ) → n ≤ j
    → spoken_by (noted n hears said notes) j ≡ spoken_by notes j
unfolding noted spoken_by
noted_above zero hears said notes j k = refl
noted_above (suc n) hears said [] j k = refl
noted_above (suc n) hears said (x ∷ notes) zero k = absurd (not-suc-le-zero k)
noted_above (suc n) hears said (x ∷ notes) (suc j) k = noted_above n (λ j. hears (suc j)) (λ j. said (suc j)) notes j (le_of_suc-le-suc k)

-- of one who is not heard it stays
pub noted_unheard : (n : ℕ) (hears : ℕ → Bool) (said : ℕ → ℕ) (notes : List Spoken) (j : ℕ) → hears j ≡ false
    → spoken_by (noted n hears said notes) j ≡ spoken_by notes j
noted_unheard n hears said notes j h =
    noted_by (λ (spoken : Spoken). spoken ≡ spoken_by notes j) n hears said notes j refl
    (ap (λ (b : Bool). with_word b (spoken_by notes j) (said j)) h ∙ unheard_word (spoken_by notes j) (said j))

-- what is noted of one terminal, in two lists that have the same of it
pub noted_agree : (n : ℕ) (hears : ℕ → Bool) (said other : ℕ → ℕ) (a b : List Spoken) → length a ≡ length b → (j : ℕ) → spoken_by a j ≡ spoken_by b j
    → (hears j ≡ true → said j ≡ other j) → spoken_by (noted n hears said a) j ≡ spoken_by (noted n hears other b) j
unfolding noted spoken_by
noted_agree zero hears said other a b l j e s = e
noted_agree (suc n) hears said other [] [] l j e s = refl
noted_agree (suc n) hears said other [] (y ∷ b) l j e s = absurd (omega arith)
noted_agree (suc n) hears said other (x ∷ a) [] l j e s = absurd (omega arith)
noted_agree (suc n) hears said other (x ∷ a) (y ∷ b) l zero e s =
    ⊎_elim (λ h. (λ i. with_word (hears 0) (e i) (s h i)))
    (λ h.
    ap (λ (t : Bool). with_word t x (said 0)) h ∙ unheard_word x (said 0) ∙ e
    ∙ sym (ap (λ (t : Bool). with_word t y (other 0)) h ∙ unheard_word y (other 0)))
    (decide (hears 0))
noted_agree (suc n) hears said other (x ∷ a) (y ∷ b) l (suc j) e s =
    noted_agree n (λ j. hears (suc j)) (λ j. said (suc j)) (λ j. other (suc j)) a b (omega arith) j e s

pub nothing_noted : (k j : ℕ) → spoken_by (replicate k nothing_said) j ≡ nothing_said
unfolding spoken_by
nothing_noted zero j = refl
nothing_noted (suc k) zero = refl
nothing_noted (suc k) (suc j) = nothing_noted k j

-- ---- what has been said in an edition

pub has_i : (notes : List (List ℕ)) (v j : ℕ) → (v ≡ 0 → ⊥) → among v (values_of notes j) ≡ true → has_noted notes v j ≡ true
unfolding has_noted
has_i notes v j z e = and_i _ _ (not_i (ne_eqb v 0 z)) e

pub has_layout : (notes : List (List ℕ)) (v j : ℕ) → has_noted notes v j ≡ true → v ≡ 0 → ⊥
unfolding has_noted
has_layout notes v j h z = clash (eq-eqb v 0 z) (not_e (eqb v 0) (and_l _ _ h))

pub has_among : (notes : List (List ℕ)) (v j : ℕ) → has_noted notes v j ≡ true → among v (values_of notes j) ≡ true
unfolding has_noted
has_among notes v j h = and_r _ _ h

-- a value is certified by different neighbours, however often it stands in their notes
certified_is : (n : ℕ) (bound : Bound) (heard : ℕ) (notes : List (List ℕ)) (v : ℕ) → certified n bound heard notes v ≡ enough n bound (λ j. mem j heard and has_noted notes v j)
unfolding certified
certified_is n bound heard notes v = refl

-- a value that is certified is noted from some neighbour
pub certified_by : (n : ℕ) (bound : Bound) (heard : ℕ) (notes : List (List ℕ)) (v : ℕ) → certified n bound heard notes v ≡ true
    → (j : ℕ) × (j < n) × (mem j heard ≡ true) × (has_noted notes v j ≡ true)
certified_by n bound heard notes v h = go (decide (all n (λ j. not (voter j))))
  where
    voter : ℕ → Bool
    voter j = mem j heard and has_noted notes v j

    go : (all n (λ j. not (voter j)) ≡ true) ⊎ (all n (λ j. not (voter j)) ≡ false)
        → (j : ℕ) × (j < n) × (mem j heard ≡ true) × (has_noted notes v j ≡ true)
    go (inl e) = clash (sym (certified_is n bound heard notes v) ∙ h) (enough_none n bound voter (λ j k. not_e (voter j) (all_at n (λ j. not (voter j)) e j k)))
    go (inr e) =
        let w = all_not n (λ j. not (voter j)) e in
        let y : voter w.0 ≡ true = ⊎_elim (λ t. t) (λ t. clash (not_i t) w.2) (decide (voter w.0)) in
        (w.0, w.1, and_l _ _ y, and_r _ _ y)

-- ---- the least value

lesser_zero : (a b : ℕ) → lesser a b ≡ 0 → (a ≡ 0) × (b ≡ 0)
unfolding lesser
lesser_zero zero b e = (refl, e)
lesser_zero (suc a) zero e = absurd (omega arith)
lesser_zero (suc a) (suc b) e = absurd (omega arith)

lesser_one : (a b : ℕ) → (lesser a b ≡ a) ⊎ (lesser a b ≡ b)
unfolding lesser
lesser_one zero b = inr refl
lesser_one (suc a) zero = inl refl
lesser_one (suc a) (suc b) = go (native.Mathlib.Decide.dec_le a b)
  where
    go : Dec (a ≤ b) → (min (suc a) (suc b) ≡ suc a) ⊎ (min (suc a) (suc b) ≡ suc b)
    go (yes p) = inl (omega arith)
    go (no p) = inr (omega arith)

lesser_l : (a b : ℕ) → (a ≡ 0 → ⊥) → lesser a b ≤ a
unfolding lesser
lesser_l zero b z = absurd (z refl)
lesser_l (suc a) zero z = omega arith
lesser_l (suc a) (suc b) z = omega arith

lesser_r : (a b : ℕ) → (b ≡ 0 → ⊥) → lesser a b ≤ b
unfolding lesser
lesser_r zero b z = omega arith
lesser_r (suc a) zero z = absurd (z refl)
lesser_r (suc a) (suc b) z = omega arith

pub least_none : (n : ℕ) (value : ℕ → ℕ) → least n value ≡ 0 → (j : ℕ) → j < n → value j ≡ 0
unfolding least
least_none zero value e j k = absurd (not-suc-le-zero k)
least_none (suc n) value e zero k = (lesser_zero (value 0) (least n (λ j. value (suc j))) e).0
least_none (suc n) value e (suc j) k =
    least_none n (λ j. value (suc j)) (lesser_zero (value 0) (least n (λ j. value (suc j))) e).1 j (le_of_suc-le-suc k)

pub least_le : (n : ℕ) (value : ℕ → ℕ) (j : ℕ) → j < n → (value j ≡ 0 → ⊥) → least n value ≤ value j
unfolding least
least_le zero value j k z = absurd (not-suc-le-zero k)
least_le (suc n) value zero k z = lesser_l (value 0) (least n (λ j. value (suc j))) z
least_le (suc n) value (suc j) k z =
    let t : least n (λ j. value (suc j)) ≤ value (suc j) = least_le n (λ j. value (suc j)) j (le_of_suc-le-suc k) z in
    let nz : least n (λ j. value (suc j)) ≡ 0 → ⊥ = λ e. z (least_none n (λ j. value (suc j)) e j (le_of_suc-le-suc k)) in
    let u : lesser (value 0) (least n (λ j. value (suc j))) ≤ least n (λ j. value (suc j)) = lesser_r (value 0) (least n (λ j. value (suc j))) nz in
    omega arith

pub least_from_lem : (n : ℕ) (value : ℕ → ℕ) → (least n value ≡ 0 → ⊥) → (j : ℕ) × (j < n) × (value j ≡ least n value)
unfolding least
least_from_lem zero value z = absurd (z refl)
least_from_lem (suc n) value z =
    ⊎_elim (λ e. (0, zero-lt-suc n, sym e))
    (λ e. let r = least_from_lem n (λ j. value (suc j)) (λ y. z (e ∙ y)) in (suc r.0, Prim.Native.Nat.suc-le-suc r.1, r.2 ∙ sym e))
    (lesser_one (value 0) (least n (λ j. value (suc j))))

-- two functions of which each takes only values of the other, and 0, have the same least
pub least_same : (n : ℕ) (g h : ℕ → ℕ)
    → ((j : ℕ) → j < n → (g j ≡ 0 → ⊥) → (i : ℕ) × (i < n) × (h i ≡ g j))
    → ((j : ℕ) → j < n → (h j ≡ 0 → ⊥) → (i : ℕ) × (i < n) × (g i ≡ h j))
    → least n g ≡ least n h
least_same n g h there back =
    ⊎_elim
    (λ z. ⊎_elim (λ y. z ∙ sym y) (λ y. absurd (below g h back y (least_none n g z))) (equal_or_not (least n h) 0))
    (λ z. ⊎_elim (λ y. absurd (below h g there z (least_none n h y))) (λ y. antisym (bound g h back z y) (bound h g there y z)) (equal_or_not (least n h) 0))
    (equal_or_not (least n g) 0)
  where
    antisym : {a b : ℕ} → a ≤ b → b ≤ a → a ≡ b
    antisym p q = omega arith

    -- a function whose least is not 0 has a value that is not 0, and so has the other
    below : (a b : ℕ → ℕ) → ((j : ℕ) → j < n → (b j ≡ 0 → ⊥) → (i : ℕ) × (i < n) × (a i ≡ b j)) → (least n b ≡ 0 → ⊥) → ((j : ℕ) → j < n → a j ≡ 0) → ⊥
    below a b to z none =
        let w = least_from_lem n b z in
        let i = to w.0 w.1 (λ e. z (sym w.2 ∙ e)) in
        z (sym w.2 ∙ sym i.2 ∙ none i.0 i.1)

    bound : (a b : ℕ → ℕ) → ((j : ℕ) → j < n → (b j ≡ 0 → ⊥) → (i : ℕ) × (i < n) × (a i ≡ b j)) → (least n a ≡ 0 → ⊥) → (least n b ≡ 0 → ⊥) → least n a ≤ least n b
    bound a b to y z =
        let w = least_from_lem n b z in
        let i = to w.0 w.1 (λ e. z (sym w.2 ∙ e)) in
        subst (λ (x : ℕ). least n a ≤ x) (i.2 ∙ w.2) (least_le n a i.0 i.1 (λ e. z (sym w.2 ∙ sym i.2 ∙ e)))

-- the same of a list of values
pub least_of_none : (value : ℕ → ℕ) (values : List ℕ) → least_of value values ≡ 0 → (v : ℕ) → among v values ≡ true → value v ≡ 0
unfolding least_of among
least_of_none value [] e v h = clash h refl
least_of_none value (x ∷ values) e v h =
    let z = lesser_zero (value x) (least_of value values) e in
    ⊎_elim (λ q. ap value (sym (eqb-true x v q)) ∙ z.0) (λ q. least_of_none value values z.1 v q) (or_e (eqb x v) (among v values) h)

pub least_of_le : (value : ℕ → ℕ) (values : List ℕ) (v : ℕ) → among v values ≡ true → (value v ≡ 0 → ⊥) → least_of value values ≤ value v
unfolding least_of among
least_of_le value [] v h z = clash h refl
least_of_le value (x ∷ values) v h z =
    ⊎_elim
    (λ q. subst (λ (y : ℕ). lesser (value x) (least_of value values) ≤ value y) (eqb-true x v q) (lesser_l (value x) (least_of value values) (λ e. z (ap value (sym (eqb-true x v q)) ∙ e))))
    (λ q.
    let t : least_of value values ≤ value v = least_of_le value values v q z in
    let u : lesser (value x) (least_of value values) ≤ least_of value values =
    lesser_r (value x) (least_of value values) (λ e. z (least_of_none value values e v q)) in
    omega arith)
    (or_e (eqb x v) (among v values) h)

pub least_of_from : (value : ℕ → ℕ) (values : List ℕ) → (least_of value values ≡ 0 → ⊥) → (v : ℕ) × (among v values ≡ true) × (value v ≡ least_of value values)
unfolding least_of among
least_of_from value [] z = absurd (z refl)
least_of_from value (x ∷ values) z =
    ⊎_elim (λ e. (x, or_l _ _ (eq-eqb x x refl), sym e))
    (λ e. let r = least_of_from value values (λ y. z (e ∙ y)) in (r.0, or_r _ _ r.1, r.2 ∙ sym e))
    (lesser_one (value x) (least_of value values))

-- ---- the choice

module _ (n : ℕ) (bound : Bound) (heard : ℕ) (notes : List (List ℕ)) where
  pub candidate_yes : (v : ℕ) → certified n bound heard notes v ≡ true → candidate n bound heard notes v ≡ v
  unfolding candidate
  candidate_yes v h = pick_yes _ _ _ h

  -- a candidate that is not 0 is the value, and certified
  pub candidate_why : (v : ℕ) → (candidate n bound heard notes v ≡ 0 → ⊥) → (candidate n bound heard notes v ≡ v) × (certified n bound heard notes v ≡ true)
  unfolding candidate
  candidate_why v =
      pick_case (λ (x : ℕ). (x ≡ 0 → ⊥) → (x ≡ v) × (certified n bound heard notes v ≡ true)) (certified n bound heard notes v) v 0
      (λ h z. (refl, h)) (λ h z. absurd (z refl))

  -- what is found from a neighbour is certified, and it is heard and has said it
  pub from_why : (j : ℕ) → (least_from n bound heard notes j ≡ 0 → ⊥)
      → (mem j heard ≡ true) × (among (least_from n bound heard notes j) (values_of notes j) ≡ true) × (certified n bound heard notes (least_from n bound heard notes j) ≡ true)
  unfolding least_from
  from_why j =
      pick_case
      (λ (x : ℕ). (x ≡ 0 → ⊥) → (mem j heard ≡ true) × (among x (values_of notes j) ≡ true) × (certified n bound heard notes x ≡ true))
      (mem j heard) (least_of (candidate n bound heard notes) (values_of notes j)) 0
      (λ m z.
      let w = least_of_from (candidate n bound heard notes) (values_of notes j) z in
      let y = candidate_why w.0 (λ e. z (sym w.2 ∙ e)) in
      let e : w.0 ≡ least_of (candidate n bound heard notes) (values_of notes j) = sym y.0 ∙ w.2 in
      (m, subst (λ (x : ℕ). among x (values_of notes j) ≡ true) e w.1, subst (λ (x : ℕ). certified n bound heard notes x ≡ true) e y.1))
      (λ m z. absurd (z refl))

  -- a certified value is found from whoever has said it: that one or a smaller
  pub from_voter : (v j : ℕ) → certified n bound heard notes v ≡ true → mem j heard ≡ true → has_noted notes v j ≡ true
      → (least_from n bound heard notes j ≡ 0 → ⊥) × (least_from n bound heard notes j ≤ v)
  unfolding least_from
  from_voter v j h m s =
      let e = candidate_yes v h in
      let some : candidate n bound heard notes v ≡ 0 → ⊥ = λ z. has_layout notes v j s (sym e ∙ z) in
      let a = has_among notes v j s in
      let q = pick_yes (mem j heard) (least_of (candidate n bound heard notes) (values_of notes j)) 0 m in (
        λ z. some (least_of_none (candidate n bound heard notes) (values_of notes j) (sym q ∙ z) v a),
        subst (λ (x : ℕ). x ≤ v) (sym q) (subst (λ (x : ℕ). least_of (candidate n bound heard notes) (values_of notes j) ≤ x) e (least_of_le (candidate n bound heard notes) (values_of notes j) v a some)),
      )

  least_certified : (least n (least_from n bound heard notes) ≡ 0 → ⊥) → certified n bound heard notes (least n (least_from n bound heard notes)) ≡ true
  least_certified z =
      let w = least_from_lem n (least_from n bound heard notes) z in
      subst (λ (x : ℕ). certified n bound heard notes x ≡ true) w.2 (from_why w.0 (λ e. z (sym w.2 ∙ e))).2

  least_below : (v : ℕ) → certified n bound heard notes v ≡ true → (least n (least_from n bound heard notes) ≡ 0 → ⊥) × (least n (least_from n bound heard notes) ≤ v)
  least_below v h =
      let w = certified_by n bound heard notes v h in
      let x = from_voter v w.0 h w.2 w.3 in
      let l : least n (least_from n bound heard notes) ≤ least_from n bound heard notes w.0 = least_le n (least_from n bound heard notes) w.0 w.1 x.0 in
      let u : least_from n bound heard notes w.0 ≤ v = x.1 in
      (λ z. x.0 (least_none n (least_from n bound heard notes) z w.0 w.1), omega arith)

module _ (n source : ℕ) (bound : Bound) (heard : ℕ) (notes : List (List ℕ)) where
  abbrev direct : Bool
  direct = mem source heard and not (eqb (first_of (values_of notes source)) 0)

  -- the source's first value, or a certified one
  pub choice_why : (choice n source bound heard notes ≡ 0 → ⊥)
      → ((mem source heard ≡ true) × (has_noted notes (choice n source bound heard notes) source ≡ true))
      ⊎ (certified n bound heard notes (choice n source bound heard notes) ≡ true)
  unfolding choice
  choice_why =
      pick_case
      (λ (x : ℕ).
      (x ≡ 0 → ⊥) → ((mem source heard ≡ true) × (has_noted notes x source ≡ true)) ⊎ (certified n bound heard notes x ≡ true))
      direct (first_of (values_of notes source)) (least n (least_from n bound heard notes))
      (λ e z. inl (and_l _ _ e, has_i notes (first_of (values_of notes source)) source z (first_among (values_of notes source) z)))
      (λ e z. inr (least_certified n bound heard notes z))

  -- nothing is chosen only where the source has said nothing and no value is certified
  pub choice_none_source : choice n source bound heard notes ≡ 0 → mem source heard ≡ true → first_of (values_of notes source) ≡ 0
  unfolding choice
  choice_none_source =
      pick_case (λ (x : ℕ). x ≡ 0 → mem source heard ≡ true → first_of (values_of notes source) ≡ 0)
      direct (first_of (values_of notes source)) (least n (least_from n bound heard notes))
      (λ e z h. z)
      (λ e z h. ⊎_elim (λ t. eqb-true (first_of (values_of notes source)) 0 t) (λ t. clash (and_i _ _ h (not_i t)) e) (decide (eqb (first_of (values_of notes source)) 0)))

  pub choice_none_certified : choice n source bound heard notes ≡ 0 → (v : ℕ) → certified n bound heard notes v ≡ false
  unfolding choice
  choice_none_certified =
      pick_case (λ (x : ℕ). x ≡ 0 → (v : ℕ) → certified n bound heard notes v ≡ false)
      direct (first_of (values_of notes source)) (least n (least_from n bound heard notes))
      (λ e z v. clash (eq-eqb (first_of (values_of notes source)) 0 z) (not_e (eqb (first_of (values_of notes source)) 0) (and_r _ _ e)))
      (λ e z v. no_by (λ h. (least_below n bound heard notes v h).0 z))

  -- where the source has no first value, no certified value is smaller than the chosen one
  pub choice_least : direct ≡ false → (v : ℕ) → certified n bound heard notes v ≡ true → choice n source bound heard notes ≤ v
  unfolding choice
  choice_least s v h = subst (λ (x : ℕ). x ≤ v) (sym (pick_no _ _ _ s)) (least_below n bound heard notes v h).1
