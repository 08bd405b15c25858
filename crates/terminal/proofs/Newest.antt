-- Which notice is chosen: the highest edition above the one held in which something qualifies, and there the layout of the old rules. Assumes nothing.
use Prim.Native.Nat.{ℕ, zero, suc, ◌≤◌, ◌<◌, max}
use mathlib.Core.Path.{◌≡◌, refl, sym, ap, ◌∙◌, subst}
use mathlib.Core.Logic.{◌⊎◌, inl, inr, ⊎_elim}
use mathlib.Core.Bool.{true, false, not}
use mathlib.Core.List.{List, [], map}
use native.Mathlib.Nat.{le_of_suc-le-suc, not-suc-le-zero, zero-lt-suc}
use native.Mathlib.Omega.{arith}
use lib.Dec.{eqb, ltb}
use lib.ListN.{get_or, get_or-map}
use borrow.Author.Tests.{eq-eqb, ne_eqb, eqb-false, lt-ltb, ltb-true}
use Rattle.sets.specs.Tests.{◌and◌}
use Rattle.sets.specs.Sets.{mem}
use Rattle.sets.proofs.Bools.{clash, and_l, and_r, and_i, not_i, not_e, pick_yes, pick_no, pick_case}
use Rattle.quorum.specs.declared.Bound.{Bound}
use Rattle.quorum.specs.Quorum.{enough}
use Rattle.quorum.specs.Notice.{notice_of, edition_of, layout_of, silent}
use Rattle.quorum.proofs.Notices.{said_edition, said_layout, said_i, edition_notice, layout_notice}
use Rattle.quorum.proofs.Laws.{enough_mono}
use Rattle.terminal.specs.Rule.{Spoken, nothing_said, View, spoken_by, in_edition, among, holds, values_of, has_noted, certified, choice, layout_in, qualifying, highest, newest, chosen}
use Rattle.terminal.proofs.Values.{in_by, in_among, first_some}
use Rattle.terminal.proofs.Notes.{has_i, has_layout, has_among, certified_by, choice_why, choice_none_source, choice_none_certified}

-- ---- what has been said in an edition

pub edition_values : (edition : ℕ) (notes : List Spoken) (j : ℕ) → values_of (map (in_edition edition) notes) j ≡ in_edition edition (spoken_by notes j)
unfolding values_of spoken_by
edition_values edition notes j =
    let none : in_edition edition nothing_said ≡ [] = in_by (λ (l : List ℕ). l ≡ []) edition nothing_said refl refl in
    ap (get_or (map (in_edition edition) notes) j) (sym none) ∙ get_or-map (in_edition edition) notes j nothing_said

module _ (r : View) (x j : ℕ) where
  pub holds_i : silent x ≡ false → among (layout_of x) (in_edition (edition_of x) (spoken_by r.notes j)) ≡ true → holds r x j ≡ true
  unfolding holds
  holds_i z h = and_i _ _ (not_i z) h

  -- what is held is no silence
  pub holds_said : holds r x j ≡ true → silent x ≡ false
  unfolding holds
  holds_said h = not_e (silent x) (and_l _ _ h)

  pub holds_among : holds r x j ≡ true → among (layout_of x) (in_edition (edition_of x) (spoken_by r.notes j)) ≡ true
  unfolding holds
  holds_among h = and_r _ _ h

  -- it is in the edition that is noted
  pub holds_edition : holds r x j ≡ true → (spoken_by r.notes j).edition ≡ edition_of x
  holds_edition h = (in_among (layout_of x) (edition_of x) (spoken_by r.notes j) (holds_among h)).0

  -- as the old rules have it within the edition
  pub holds_has : holds r x j ≡ true → has_noted (map (in_edition (edition_of x)) r.notes) (layout_of x) j ≡ true
  holds_has h =
      has_i (map (in_edition (edition_of x)) r.notes) (layout_of x) j (said_layout x (holds_said h))
      (ap (among (layout_of x)) (edition_values (edition_of x) r.notes j) ∙ holds_among h)

  pub has_holds : (edition_of x ≡ 0 → ⊥) → has_noted (map (in_edition (edition_of x)) r.notes) (layout_of x) j ≡ true → holds r x j ≡ true
  has_holds e h =
      holds_i (said_i x e (has_layout (map (in_edition (edition_of x)) r.notes) (layout_of x) j h))
      (ap (among (layout_of x)) (sym (edition_values (edition_of x) r.notes j)) ∙ has_among (map (in_edition (edition_of x)) r.notes) (layout_of x) j h)

-- ---- the highest

pub highest_ge : (n : ℕ) (e : ℕ → ℕ) (j : ℕ) → j < n → e j ≤ highest n e
unfolding highest
highest_ge zero e j k = absurd (not-suc-le-zero k)
highest_ge (suc n) e zero k = omega arith
highest_ge (suc n) e (suc j) k = omega (arith, highest_ge n (λ j. e (suc j)) j (le_of_suc-le-suc k))

max_one : (a b : ℕ) → (max a b ≡ a) ⊎ (max a b ≡ b)
max_one a b = go (native.Mathlib.Decide.dec_le a b)
  where
    go : Dec (a ≤ b) → (max a b ≡ a) ⊎ (max a b ≡ b)
    go (yes p) = inr (omega arith)
    go (no p) = inl (omega arith)

pub highest_from : (n : ℕ) (e : ℕ → ℕ) → (highest n e ≡ 0 → ⊥) → (j : ℕ) × (j < n) × (e j ≡ highest n e)
unfolding highest
highest_from zero e z = absurd (z refl)
highest_from (suc n) e z =
    ⊎_elim (λ q. (0, zero-lt-suc n, sym q))
    (λ q. let r = highest_from n (λ j. e (suc j)) (λ y. z (q ∙ y)) in (suc r.0, Prim.Native.Nat.suc-le-suc r.1, r.2 ∙ sym q))
    (max_one (e 0) (highest n (λ j. e (suc j))))

-- ---- the choice, from the notes of a record

module _ (n source : ℕ) (bound : Bound) (heard : ℕ) (r : View) (held : ℕ) where
  abbrev q : ℕ → ℕ
  q = qualifying n source bound heard r.notes held

  abbrev best : ℕ
  best = newest n source bound heard r.notes held

  -- an edition that qualifies is above the one held, and a layout is chosen in it
  pub qualifying_why : (j : ℕ) → (q j ≡ 0 → ⊥) → (held < q j) × (layout_in n source bound heard r.notes (q j) ≡ 0 → ⊥)
  unfolding qualifying
  qualifying_why j =
      pick_case (λ (e : ℕ). (e ≡ 0 → ⊥) → (held < e) × (layout_in n source bound heard r.notes e ≡ 0 → ⊥))
      (mem j heard and ltb held (spoken_by r.notes j).edition and not (eqb (layout_in n source bound heard r.notes (spoken_by r.notes j).edition) 0))
      (spoken_by r.notes j).edition 0
      (λ t z. (
        ltb-true held (spoken_by r.notes j).edition (and_l _ _ (and_r _ _ t)),
        eqb-false (layout_in n source bound heard r.notes (spoken_by r.notes j).edition) 0 (not_e (eqb (layout_in n source bound heard r.notes (spoken_by r.notes j).edition) 0) (and_r _ _ (and_r _ _ t))),
      ))
      (λ t z. absurd (z refl))

  newest_why : (best ≡ 0 → ⊥) → (held < best) × (layout_in n source bound heard r.notes best ≡ 0 → ⊥)
  unfolding newest
  newest_why z =
      let w = highest_from n q z in
      subst (λ (e : ℕ). (held < e) × (layout_in n source bound heard r.notes e ≡ 0 → ⊥)) w.2 (qualifying_why w.0 (λ y. z (sym w.2 ∙ y)))

  -- an edition of a heard neighbour above the one held in which a layout is chosen: none that is chosen is lower
  newest_ge : (j e : ℕ) → j < n → mem j heard ≡ true → (spoken_by r.notes j).edition ≡ e → held < e
      → (layout_in n source bound heard r.notes e ≡ 0 → ⊥) → e ≤ best
  unfolding newest qualifying
  newest_ge j e k h s l z =
      let c : q j ≡ (spoken_by r.notes j).edition =
      pick_yes _ _ _ (and_i _ _ h (and_i _ _ (lt-ltb held (spoken_by r.notes j).edition (omega arith))
      (not_i (ne_eqb (layout_in n source bound heard r.notes (spoken_by r.notes j).edition) 0
      (λ y. z (ap (layout_in n source bound heard r.notes) (sym s) ∙ y)))))) in
      omega (arith, highest_ge n q j k, c, s)

  chosen_none : best ≡ 0 → chosen n source bound heard r.notes held ≡ 0
  unfolding chosen
  chosen_none z = pick_yes _ _ _ (eq-eqb best 0 z)

  chosen_some : (best ≡ 0 → ⊥) → chosen n source bound heard r.notes held ≡ notice_of best (layout_in n source bound heard r.notes best)
  unfolding chosen
  chosen_some z = pick_no _ _ _ (ne_eqb best 0 z)

  -- why it is chosen: the source said it, or enough neighbours have
  unfoldable pub Reason : ℕ → Type 0
  Reason x = ((mem source heard ≡ true) × (holds r x source ≡ true)) ⊎ (enough n bound (λ j. mem j heard and holds r x j) ≡ true)

  module _ (small : (e v j : ℕ) → among v (in_edition e (spoken_by r.notes j)) ≡ true → v < 65536) where
    -- a layout that is chosen in an edition has two bytes
    layout_in_small : (e : ℕ) → (layout_in n source bound heard r.notes e ≡ 0 → ⊥) → layout_in n source bound heard r.notes e < 65536
    unfolding layout_in certified
    layout_in_small e z =
        let v = choice n source bound heard (map (in_edition e) r.notes) in
        ⊎_elim
        (λ w. small e v source (ap (among v) (sym (edition_values e r.notes source)) ∙ has_among (map (in_edition e) r.notes) v source w.1))
        (λ w.
        let y = certified_by n bound heard (map (in_edition e) r.notes) v w in
        small e v y.0 (ap (among v) (sym (edition_values e r.notes y.0)) ∙ has_among (map (in_edition e) r.notes) v y.0 y.3))
        (choice_why n source bound heard (map (in_edition e) r.notes) z)

    -- the chosen notice is no silence, its edition is above the one held, and there is a reason for it
    pub chosen_why : (x : ℕ) → chosen n source bound heard r.notes held ≡ x → (x ≡ 0 → ⊥) → (silent x ≡ false) × (held < edition_of x) × (edition_of x ≡ best) × Reason x
    unfolding layout_in Reason certified
    chosen_why x c nz =
        let z : best ≡ 0 → ⊥ = λ y. nz (sym c ∙ chosen_none y) in
        let w = newest_why z in
        let s = layout_in_small best w.1 in
        let e : edition_of x ≡ best = ap edition_of (sym c ∙ chosen_some z) ∙ edition_notice best (layout_in n source bound heard r.notes best) s in
        let l : layout_of x ≡ layout_in n source bound heard r.notes best = ap layout_of (sym c ∙ chosen_some z) ∙ layout_notice best (layout_in n source bound heard r.notes best) s in
        let up : held < best = w.0 in
        let some : edition_of x ≡ 0 → ⊥ = λ y. z (sym e ∙ y) in
        let same : choice n source bound heard (map (in_edition (edition_of x)) r.notes) ≡ layout_of x = ap (λ (m : ℕ). choice n source bound heard (map (in_edition m) r.notes)) e ∙ sym l in (
          said_i x some (λ y. w.1 (sym l ∙ y)),
          omega arith,
          e,
          ⊎_elim
              (λ y. inl (y.0, has_holds r x source some (subst (λ (v : ℕ). has_noted (map (in_edition (edition_of x)) r.notes) v source ≡ true) same y.1)))
              (λ y.
              inr
              (enough_mono n bound (λ j. mem j heard and has_noted (map (in_edition (edition_of x)) r.notes) (layout_of x) j) (λ j. mem j heard and holds r x j)
              (λ j k t. and_i _ _ (and_l _ _ t) (has_holds r x j some (and_r _ _ t)))
              (subst (λ (v : ℕ). enough n bound (λ j. mem j heard and has_noted (map (in_edition (edition_of x)) r.notes) v j) ≡ true) same y)))
              (choice_why n source bound heard (map (in_edition (edition_of x)) r.notes) (λ y. w.1 (sym (same ∙ l) ∙ y))),
        )

    -- no notice with a reason has an edition above both the one held and the chosen one
    from_reason : (x : ℕ) → (edition_of x ≡ 0 → ⊥) → (j : ℕ) → j < n → mem j heard ≡ true → holds r x j ≡ true → held < edition_of x
        → (layout_in n source bound heard r.notes (edition_of x) ≡ 0 → ⊥) → edition_of x ≤ edition_of (chosen n source bound heard r.notes held)
    from_reason x some j k h y l z =
        let g : edition_of x ≤ best = newest_ge j (edition_of x) k h (holds_edition r x j y) l z in
        let nb : best ≡ 0 → ⊥ = λ e. some (omega (arith, g, e)) in
        let s = layout_in_small best (newest_why nb).1 in
        omega (arith, g, ap edition_of (chosen_some nb) ∙ edition_notice best (layout_in n source bound heard r.notes best) s)

    pub chosen_source : (x : ℕ) → source < n → mem source heard ≡ true → among 0 (spoken_by r.notes source).layouts ≡ false → holds r x source ≡ true
        → held < edition_of x → edition_of x ≤ edition_of (chosen n source bound heard r.notes held)
    unfolding layout_in among
    chosen_source x k h clean y l =
        let some = said_edition x (holds_said r x source y) in
        from_reason x some source k h y l
        (λ z.
        first_some (layout_of x) (values_of (map (in_edition (edition_of x)) r.notes) source)
        (ap (among 0) (edition_values (edition_of x) r.notes source) ∙ in_by (λ (v : List ℕ). among 0 v ≡ false) (edition_of x) (spoken_by r.notes source) clean refl)
        (has_among (map (in_edition (edition_of x)) r.notes) (layout_of x) source (holds_has r x source y))
        (choice_none_source n source bound heard (map (in_edition (edition_of x)) r.notes) z h))

    pub chosen_votes : (x : ℕ) → enough n bound (λ j. mem j heard and holds r x j) ≡ true
        → held < edition_of x → edition_of x ≤ edition_of (chosen n source bound heard r.notes held)
    unfolding layout_in certified
    chosen_votes x h l =
        let c = enough_mono n bound (λ j. mem j heard and holds r x j) (λ j. mem j heard and has_noted (map (in_edition (edition_of x)) r.notes) (layout_of x) j)
        (λ j k t. and_i _ _ (and_l _ _ t) (holds_has r x j (and_r (mem j heard) _ t))) h in
        let w = certified_by n bound heard (map (in_edition (edition_of x)) r.notes) (layout_of x) c in
        let some : edition_of x ≡ 0 → ⊥ = λ z. omega arith in
        from_reason x some w.0 w.1 w.2 (has_holds r x w.0 some w.3) l
        (λ z. clash c (choice_none_certified n source bound heard (map (in_edition (edition_of x)) r.notes) z (layout_of x)))
