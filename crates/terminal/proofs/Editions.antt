-- What the search for the highest edition finds is the rule's: in each edition it asks of those who have said something in it, and each edition is looked at
-- once. Assumes nothing.
use Prim.Native.Nat.{ℕ, zero, suc, ◌+◌, ◌-◌, ◌^◌, ◌≤◌, ◌<◌, max}
use mathlib.Core.Path.{◌≡◌, refl, sym, ap, ◌∙◌, subst, fun_ext}
use mathlib.Core.Logic.{◌⊎◌, inl, inr, ⊎_elim}
use mathlib.Core.Bool.{Bool, true, false, not}
use mathlib.Core.List.{List, [], map}
use native.Mathlib.Numerals.{add-one}
use native.Mathlib.Omega.{arith}
use mir.Val.{Fits}
use mir.Syntax.{w32}
use lib.Bits.{bit_and}
use lib.Dec.{eqb, ltb}
use borrow.Author.Tests.{eq-eqb, ne_eqb, eqb-true, lt-ltb, le-ltb, ltb-true}
use Rattle.sets.specs.Tests.{◌and◌, pick}
use Rattle.sets.specs.Sets.{mem}
use Rattle.sets.proofs.Bools.{clash, decide, no_by, and_l, and_r, and_i, and_yes, and_no_l, and_no_r, not_i, not_yes, pick_yes, pick_no, pick_case}
use Rattle.sets.proofs.Laws.{equal_or_not, below_or_not, mem_mask, mask_lt, mem_below}
use Rattle.sets.proofs.Masks.{mem_and, mem_not}
use Rattle.quorum.specs.declared.Bound.{Bound}
use Rattle.quorum.specs.Quorum.{enough}
use Rattle.quorum.proofs.Laws.{enough_mono}
use Rattle.terminal.specs.declared.Note.{Note}
use Rattle.terminal.specs.declared.choosing.Best.{Best}
use Rattle.terminal.specs.Rule.{Spoken, in_edition, among, values_of, has_noted, certified, first_of, lesser, least, least_of, candidate, least_from, choice, layout_in, qualifying, highest}
use Rattle.terminal.specs.Shown.{note_of, values_in, spoken_in}
use Rattle.terminal.specs.Votes.{speakers_in, above_in}
use Rattle.terminal.proofs.Values.{in_own, in_other}
use Rattle.terminal.proofs.Notes.{choice_why}
use Rattle.terminal.proofs.Newest.{edition_values, highest_ge}
use Rattle.terminal.proofs.Shown.{view_values, view_spoken}
use Rattle.terminal.proofs.Search.{below_enough, enough_same}

-- ---- the old rules know of a neighbour only what it says to one who hears it

least_cong : (n : ℕ) (g h : ℕ → ℕ) → ((j : ℕ) → j < n → g j ≡ h j) → least n g ≡ least n h
unfolding least
least_cong zero g h e = refl
least_cong (suc n) g h e = (λ i. lesser (e 0 (omega arith) i) (least_cong n (λ j. g (suc j)) (λ j. h (suc j)) (λ j k. e (suc j) (omega arith)) i))

-- what is heard of terminal j
abbrev pub told : ℕ → List (List ℕ) → ℕ → List ℕ
told heard notes j = pick (mem j heard) (values_of notes j) []

vote_told : (heard : ℕ) (notes : List (List ℕ)) (v j : ℕ) → (mem j heard and has_noted notes v j) ≡ (not (eqb v 0) and among v (told heard notes j))
unfolding has_noted among
vote_told heard notes v j =
    ⊎_elim (λ m. and_yes _ _ m ∙ ap (λ (l : List ℕ). not (eqb v 0) and among v l) (sym (pick_yes _ _ _ m)))
    (λ m. and_no_l _ _ m ∙ sym (and_no_r _ _ (ap (among v) (pick_no _ _ _ m))))
    (decide (mem j heard))

from_told : (value : ℕ → ℕ) (heard : ℕ) (notes : List (List ℕ)) (j : ℕ) → pick (mem j heard) (least_of value (values_of notes j)) 0 ≡ least_of value (told heard notes j)
unfolding least_of
from_told value heard notes j =
    ⊎_elim (λ m. pick_yes _ _ _ m ∙ ap (least_of value) (sym (pick_yes _ _ _ m))) (λ m. pick_no _ _ _ m ∙ ap (least_of value) (sym (pick_no _ _ _ m))) (decide (mem j heard))

-- the source's first word
unfoldable direct : List ℕ → ℕ → ℕ
direct values otherwise = pick (not (eqb (first_of values) 0)) (first_of values) otherwise

source_told : (heard : ℕ) (notes : List (List ℕ)) (source otherwise : ℕ)
    → pick (mem source heard and not (eqb (first_of (values_of notes source)) 0)) (first_of (values_of notes source)) otherwise ≡ direct (told heard notes source) otherwise
unfolding direct first_of
source_told heard notes source otherwise =
    ⊎_elim
    (λ m.
    ap (λ (b : Bool). pick b (first_of (values_of notes source)) otherwise) (and_yes _ _ m)
    ∙ ap (λ (l : List ℕ). pick (not (eqb (first_of l) 0)) (first_of l) otherwise) (sym (pick_yes _ _ _ m)))
    (λ m.
    pick_no _ _ _ (and_no_l _ _ m)
    ∙ sym (ap (λ (l : List ℕ). pick (not (eqb (first_of l) 0)) (first_of l) otherwise) (pick_no _ _ _ m) ∙ pick_no _ _ _ (not_yes (eq-eqb 0 0 refl))))
    (decide (mem source heard))

module _ (n source : ℕ) (bound : Bound) (heard other : ℕ) (a b : List (List ℕ)) (same_source : told heard a source ≡ told other b source)
    (same : (j : ℕ) → j < n → told heard a j ≡ told other b j) where
  candidate_agrees : (v : ℕ) → candidate n bound heard a v ≡ candidate n bound other b v
  unfolding candidate certified
  candidate_agrees v =
      ap (λ (t : Bool). pick t v 0)
      (enough_same n bound (λ j. mem j heard and has_noted a v j) (λ j. mem j other and has_noted b v j)
      (λ j k. vote_told heard a v j ∙ ap (λ (l : List ℕ). not (eqb v 0) and among v l) (same j k) ∙ sym (vote_told other b v j)))

  pub choice_agrees : choice n source bound heard a ≡ choice n source bound other b
  unfolding choice least_from
  choice_agrees =
      source_told heard a source _
      ∙ (λ i. direct (same_source i) (leasts i))
      ∙ sym (source_told other b source _)
    where
      leasts : least n (λ j. pick (mem j heard) (least_of (candidate n bound heard a) (values_of a j)) 0) ≡ least n (λ j. pick (mem j other) (least_of (candidate n bound other b) (values_of b j)) 0)
      leasts =
          least_cong n _ _
          (λ j k.
          from_told (candidate n bound heard a) heard a j
          ∙ (λ i. least_of (fun_ext candidate_agrees i) (same j k i))
          ∙ sym (from_told (candidate n bound other b) other b j))

-- ---- in one edition

module _ (n heard : ℕ) (notes : List Note) (edition : ℕ) where
  speakers_mem : (j : ℕ) → j < n → mem j (speakers_in n notes heard edition) ≡ (eqb (note_of notes j).edition edition and mem j heard)
  unfolding speakers_in
  speakers_mem j k = mem_mask n j (λ j. eqb (note_of notes j).edition edition and mem j heard) k

  pub speakers_heard : (j : ℕ) → mem j (speakers_in n notes heard edition) ≡ true → mem j heard ≡ true
  unfolding speakers_in
  speakers_heard j h = and_r (eqb (note_of notes j).edition edition) _ (sym (speakers_mem j (mem_below n j (speakers_in n notes heard edition) (mask_lt n _) h)) ∙ h)

module _ (n source : ℕ) (bound : Bound) (heard : ℕ) (notes : List Note) (source-below : source < n) (edition : ℕ) where
  -- what is heard in the edition is what those say who have said something in it
  told_speakers : (j : ℕ) → j < n
      → told heard (map (in_edition edition) (map spoken_in notes)) j ≡ told (speakers_in n notes heard edition) (map values_in notes) j
  unfolding spoken_in
  told_speakers j k =
      ap (λ (l : List ℕ). pick (mem j heard) l []) (edition_values edition (map spoken_in notes) j ∙ ap (in_edition edition) (view_spoken notes j))
      ∙ ⊎_elim
      (λ e.
      ap (λ (l : List ℕ). pick (mem j heard) l []) (in_own edition (spoken_in (note_of notes j)) e ∙ sym (view_values notes j))
      ∙ ap (λ (t : Bool). pick t (values_of (map values_in notes) j) []) (sym (speakers_mem n heard notes edition j k ∙ and_yes _ _ (eq-eqb (note_of notes j).edition edition e))))
      (λ z.
      ap (λ (l : List ℕ). pick (mem j heard) l []) (in_other edition (spoken_in (note_of notes j)) z)
      ∙ pick_case (λ (l : List ℕ). l ≡ []) (mem j heard) [] [] (λ t. refl) (λ t. refl)
      ∙ sym (pick_no _ _ _ (speakers_mem n heard notes edition j k ∙ and_no_l _ _ (ne_eqb (note_of notes j).edition edition z))))
      (equal_or_not (note_of notes j).edition edition)

  pub layout_in_is : choice n source bound (speakers_in n notes heard edition) (map values_in notes) ≡ layout_in n source bound heard (map spoken_in notes) edition
  unfolding layout_in
  layout_in_is =
      sym (choice_agrees n source bound heard (speakers_in n notes heard edition) (map (in_edition edition) (map spoken_in notes)) (map values_in notes)
      (told_speakers source source-below) told_speakers)

-- where the source has said nothing and all others together are not enough, nothing is chosen
pub few_choose : (n source : ℕ) (bound : Bound) (who : ℕ) (notes : List (List ℕ)) → n ≤ 20 → who < 2 ^ n → mem source who ≡ false
    → enough 32 bound (λ j. mem j who) ≡ false → choice n source bound who notes ≡ 0
unfolding certified
few_choose n source bound who notes small low s few =
    ⊎_elim (λ e. e)
    (λ z.
    ⊎_elim (λ w. clash w.0 s)
    (λ w.
    clash
    (below_enough n bound who small low
    ∙ enough_mono n bound (λ j. mem j who and has_noted notes (choice n source bound who notes) j) (λ j. mem j who) (λ j k t. and_l _ _ t) w)
    few)
    (choice_why n source bound who notes z))
    (equal_or_not (choice n source bound who notes) 0)

pub speakers_low : (n : ℕ) (notes : List Note) (heard edition : ℕ) → speakers_in n notes heard edition < 2 ^ n
unfolding speakers_in
speakers_low n notes heard edition = mask_lt n _

-- ---- the highest, one terminal further

max_assoc : (a b d : ℕ) → max a (max b d) ≡ max (max a b) d
max_assoc a b d = omega arith

highest_next : (i : ℕ) (e : ℕ → ℕ) → highest (suc i) e ≡ max (highest i e) (e i)
unfolding highest
highest_next zero e = omega arith
highest_next (suc i) e = ap (max (e 0)) (highest_next i (λ j. e (suc j))) ∙ max_assoc (e 0) (highest i (λ j. e (suc j))) (e (suc i))

highest_turn : (i : ℕ) (e : ℕ → ℕ) → highest (i + 1) e ≡ max (highest i e) (e i)
highest_turn i e = ap (λ (k : ℕ). highest k e) (add-one i) ∙ highest_next i e

-- ---- the loop over those above the edition that is held: each edition is looked at once

module _ (n source : ℕ) (bound : Bound) (heard : ℕ) (notes : List Note) (held : ℕ) where
  abbrev q : ℕ → ℕ
  q = qualifying n source bound heard (map spoken_in notes) held

  abbrev layout_at : ℕ → ℕ
  layout_at = layout_in n source bound heard (map spoken_in notes)

  -- the edition that is looked at, where it is above the one held and a layout is chosen in it
  unfoldable judged_as : Bool → ℕ → ℕ
  judged_as hears edition = pick (hears and ltb held edition and not (eqb (layout_at edition) 0)) edition 0

  q_is : (j : ℕ) → q j ≡ judged_as (mem j heard) (note_of notes j).edition
  unfolding qualifying judged_as spoken_in
  q_is j = ap (λ (s : Spoken). judged_as (mem j heard) s.edition) (view_spoken notes j)

  -- those below j, and whoever has left the rest, have been looked at
  pub record Seen (j : ℕ) (best : Best) (rest : ℕ) : Type 0 where
    pub highest_is : best.edition ≡ highest j q
    pub layout_is : (best.edition ≡ 0 → ⊥) → best.layout ≡ layout_at best.edition
    pub inside : (i : ℕ) → i < n → mem i rest ≡ true → (mem i heard ≡ true) × (held < (note_of notes i).edition)
    pub gone : (i : ℕ) → i < n → mem i rest ≡ false → (q i ≡ 0) ⊎ ((k : ℕ) × (k < j) × (q k ≡ q i))

  above_mem : (i : ℕ) → i < n → mem i (above_in n notes heard held) ≡ (ltb held (note_of notes i).edition and mem i heard)
  unfolding above_in
  above_mem i k = mem_mask n i (λ j. ltb held (note_of notes j).edition and mem j heard) k

  pub seen_none : Seen 0 (record { edition = 0; layout = 0 }) (above_in n notes heard held)
  unfolding highest judged_as
  seen_none = record {
    highest_is = refl;
    layout_is = λ z. absurd (z refl);
    inside = λ i k h.
        let t = sym (above_mem i k) ∙ h in
        (and_r (ltb held (note_of notes i).edition) _ t, ltb-true held (note_of notes i).edition (and_l _ _ t));
    gone = λ i k h. inl (q_is i ∙ pick_no _ _ _ (outside (mem i heard) (ltb held (note_of notes i).edition) _ (sym (above_mem i k) ∙ h)));
  }
    where
      outside : (hears above chosen : Bool) → (above and hears) ≡ false → (hears and (above and chosen)) ≡ false
      outside hears above chosen e =
          no_by (λ t. clash (and_i _ _ (and_l _ _ (and_r hears _ t)) (and_l _ _ t)) e)

  module _ (j : ℕ) (best : Best) (rest : ℕ) (so : Seen j best rest) (k : j < n) where
    -- one who is not in the rest adds nothing
    pub seen_past : mem j rest ≡ false → Seen (j + 1) best rest
    seen_past h = record {
      highest_is =
          so.highest_is
          ∙ ⊎_elim (λ z. omega (arith, highest_turn j q, z)) (λ w. omega (arith, highest_turn j q, highest_ge j q w.0 w.1, w.2)) (so.gone j k h);
      layout_is = so.layout_is;
      inside = so.inside;
      gone = λ i l m. ⊎_elim inl (λ w. inr (w.0, (let t : w.0 < j = w.1 in omega arith), w.2)) (so.gone i l m);
    }

    -- one who is in it takes all who have said the same edition out of it
    pub seen_at : n ≤ 20 → (who layout : ℕ) (next : Best) → mem j rest ≡ true → Fits w32 who → who ≡ speakers_in n notes heard (note_of notes j).edition
        → layout ≡ layout_at (note_of notes j).edition
        → next ≡ pick (ltb best.edition (note_of notes j).edition and not (eqb layout 0)) (record { edition = (note_of notes j).edition; layout = layout }) best
        → Seen (j + 1) next (bit_and rest (4294967295 - who))
    unfolding judged_as
    seen_at small who layout next h low w l e = record {
      highest_is = sym (highest_turn j q ∙ turned);
      layout_is = λ z. layouts z;
      inside = λ i b m. so.inside i b (and_l _ _ (sym (mem_and i rest (4294967295 - who)) ∙ m));
      gone = λ i b m.
          ⊎_elim
          (λ r.
          ⊎_elim
          (λ s. inr (j, omega arith, same_edition i b (ap (mem i) (sym w) ∙ s)))
          (λ s. clash (mem_and i rest (4294967295 - who) ∙ and_i _ _ r (mem_not 32 i who low.fits (omega arith) ∙ not_i s)) m)
          (decide (mem i who)))
          (λ r. ⊎_elim inl (λ v. inr (v.0, (let t : v.0 < j = v.1 in omega arith), v.2)) (so.gone i b r))
          (decide (mem i rest));
    }
      where
        here : (mem j heard ≡ true) × (held < (note_of notes j).edition)
        here = so.inside j k h

        same_edition : (i : ℕ) → i < n → mem i (speakers_in n notes heard (note_of notes j).edition) ≡ true → q j ≡ q i
        same_edition i b s =
            let t = sym (speakers_mem n heard notes (note_of notes j).edition i b) ∙ s in
            q_is j ∙ (λ x. judged_as (here.0 x) (sym (eqb-true (note_of notes i).edition (note_of notes j).edition (and_l _ _ t)) x))
            ∙ ap (λ (y : Bool). judged_as y (note_of notes i).edition) (sym (and_r (eqb (note_of notes i).edition (note_of notes j).edition) _ t)) ∙ sym (q_is i)

        q_none : layout_at (note_of notes j).edition ≡ 0 → q j ≡ 0
        q_none z = q_is j ∙ pick_no _ _ _ (and_no_r (mem j heard) _ (and_no_r (ltb held (note_of notes j).edition) _ (not_yes (eq-eqb (layout_at (note_of notes j).edition) 0 z))))

        q_some : (layout_at (note_of notes j).edition ≡ 0 → ⊥) → q j ≡ (note_of notes j).edition
        q_some z =
            q_is j ∙ pick_yes _ _ _ (and_i _ _ here.0 (and_i _ _ (lt-ltb held (note_of notes j).edition here.1) (not_i (ne_eqb (layout_at (note_of notes j).edition) 0 z))))

        stays : (ltb best.edition (note_of notes j).edition and not (eqb layout 0)) ≡ false → next.edition ≡ best.edition
        stays t = ap (λ (x : Best). x.edition) (e ∙ pick_no _ _ _ t)

        turned : max (highest j q) (q j) ≡ next.edition
        turned =
            ⊎_elim
            (λ z. omega (arith, q_none z, so.highest_is, stays (and_no_r _ _ (not_yes (eq-eqb layout 0 (l ∙ z))))))
            (λ z.
            ⊎_elim
            (λ b.
            omega (
              arith,
              q_some z,
              so.highest_is,
              b,
              ap (λ (x : Best). x.edition) (e ∙ pick_yes _ _ _ (and_i _ _ (lt-ltb best.edition (note_of notes j).edition b) (not_i (ne_eqb layout 0 (λ y. z (sym l ∙ y)))))),
            ))
            (λ b. omega (arith, q_some z, so.highest_is, b, stays (and_no_l _ _ (le-ltb best.edition (note_of notes j).edition b))))
            (below_or_not best.edition (note_of notes j).edition))
            (equal_or_not (layout_at (note_of notes j).edition) 0)

        layouts : (next.edition ≡ 0 → ⊥) → next.layout ≡ layout_at next.edition
        layouts =
            subst (λ (x : Best). (x.edition ≡ 0 → ⊥) → x.layout ≡ layout_at x.edition) (sym e)
            (pick_case (λ (x : Best). (x.edition ≡ 0 → ⊥) → x.layout ≡ layout_at x.edition) (ltb best.edition (note_of notes j).edition and not (eqb layout 0))
            (record { edition = (note_of notes j).edition; layout = layout }) best (λ t z. l) (λ t z. so.layout_is z))
