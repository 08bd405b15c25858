-- What the search for a certified value finds is the rule's: it asks of sets of voters, and where those who have said more than one value are not enough the
-- values of the others tell. Assumes nothing.
use Prim.Native.Nat.{ℕ, zero, suc, ◌+◌, ◌-◌, ◌^◌, ◌≤◌, ◌<◌}
use mathlib.Core.Path.{◌≡◌, refl, sym, ap, ◌∙◌, subst}
use mathlib.Core.Logic.{◌⊎◌, inl, inr, ⊎_elim}
use mathlib.Core.Bool.{Bool, true, false}
use mathlib.Core.List.{List, [], ◌∷◌, map}
use native.Mathlib.Numerals.{add-one}
use native.Mathlib.Omega.{arith}
use mir.Val.{Fits}
use mir.Syntax.{w32}
use lib.Bits.{bit_and, bit_or, or_lt}
use lib.Dec.{eqb, ltb}
use lib.ListN.{length, get_or, take}
use lib.Seq.{take-suc, get_or-take}
use borrow.Author.Tests.{eq-eqb, ne_eqb, eqb-true, lt-ltb, le-ltb, ltb-true}
use Rattle.sets.specs.Tests.{◌and◌, ◌or◌, ◌implies◌, pick}
use Rattle.sets.specs.Sets.{mem, all}
use Rattle.sets.proofs.Bools.{clash, decide, no_by, same_test, and_l, and_r, and_i, and_yes, and_no_l, and_no_r, or_l, or_r, or_e, not_i, not_yes, implies_e, implies_no_l, implies_no_r, pick_yes, pick_no}
use Rattle.sets.proofs.Laws.{equal_or_not, mem_above, mem_mask, mask_lt, mem_below, all_at, all_not}
use Rattle.sets.proofs.Masks.{mem_and, mem_or, mem_not}
use Rattle.quorum.specs.declared.Bound.{Bound}
use Rattle.quorum.specs.Quorum.{enough}
use Rattle.quorum.proofs.Laws.{enough_mono, enough_width}
use Rattle.terminal.specs.declared.Note.{Note}
use Rattle.terminal.specs.Rule.{among, values_of, has_noted, certified, first_of, lesser, least, least_of, candidate, least_from, choice}
use Rattle.terminal.specs.Shown.{note_of, values_in, Whole}
use Rattle.terminal.specs.Votes.{voters_in, single_in, fickle_in, first_place, same_in, if_enough, from_first}
use Rattle.terminal.proofs.Values.{among_one}
use Rattle.terminal.proofs.Notes.{has_among, least_same, candidate_yes, from_why}
use Rattle.terminal.proofs.Shown.{view_values}
use Rattle.terminal.proofs.Walks.{lesser_none, least_again, least_next, least_turn}

-- ---- voters as a set, of which the code asks among 32, and as the terminals below n, of which the rule asks

-- a set below n is enough among 32 where it is among n
pub below_enough : (n : ℕ) (bound : Bound) (s : ℕ) → n ≤ 20 → s < 2 ^ n → enough 32 bound (λ i. mem i s) ≡ enough n bound (λ i. mem i s)
below_enough n bound s h k = enough_width n 32 bound (λ i. mem i s) (omega arith) (λ i l. mem_above n i s k l)

-- whether they are enough is said by who they are
pub enough_same : (n : ℕ) (bound : Bound) (P Q : ℕ → Bool) → ((i : ℕ) → i < n → P i ≡ Q i) → enough n bound P ≡ enough n bound Q
enough_same n bound P Q e =
    same_test _ _ (enough_mono n bound P Q (λ i k h. sym (e i k) ∙ h)) (enough_mono n bound Q P (λ i k h. e i k ∙ h))

pub voters_below : (n : ℕ) (notes : List Note) (rows v : ℕ) → voters_in n notes rows v < 2 ^ n
unfolding voters_in
voters_below n notes rows v = mask_lt n _

-- 0 is none, whoever has said it
zero_either : (b : Bool) (v : ℕ) → v ≡ 0 → pick b v 0 ≡ 0
unfolding pick
zero_either true v e = e
zero_either false v e = refl

noted_is : (notes : List Note) (v : ℕ) → (v ≡ 0 → ⊥) → (j : ℕ) → has_noted (map values_in notes) v j ≡ among v (values_in (note_of notes j))
unfolding has_noted
noted_is notes v z j = and_yes _ _ (not_i (ne_eqb v 0 z)) ∙ ap (among v) (view_values notes j)

-- where all who may have said a value are not enough, those of them who have are not
pub few_none : (n : ℕ) (bound : Bound) (notes : List Note) (who fickle v : ℕ) → enough 32 bound (λ i. mem i (bit_or who fickle)) ≡ false
    → if_enough bound (bit_or who (voters_in n notes fickle v)) v ≡ 0
unfolding if_enough voters_in
few_none n bound notes who fickle v h =
    pick_no _ _ _
    (no_by
    (λ e.
    clash
    (enough_mono 32 bound (λ i. mem i (bit_or who (voters_in n notes fickle v))) (λ i. mem i (bit_or who fickle)) (λ i k m. mem_or i who fickle ∙ either i m) e)
    h))
  where
    inside : (i : ℕ) → mem i (voters_in n notes fickle v) ≡ true → mem i fickle ≡ true
    inside i e =
        and_l _ _ (sym (mem_mask n i (λ j. mem j fickle and among v (values_in (note_of notes j))) (mem_below n i (voters_in n notes fickle v) (mask_lt n _) e)) ∙ e)

    either : (i : ℕ) → mem i (bit_or who (voters_in n notes fickle v)) ≡ true → mem i who or mem i fickle ≡ true
    either i e =
        ⊎_elim (λ a. or_l _ _ a) (λ b. or_r (mem i who) _ (inside i b)) (or_e (mem i who) (mem i (voters_in n notes fickle v)) (sym (mem_or i who (voters_in n notes fickle v)) ∙ e))

module _ (n : ℕ) (bound : Bound) (heard : ℕ) (notes : List Note) (small : n ≤ 20) where
  abbrev said : List (List ℕ)
  said = map values_in notes

  -- what a set of voters leads to is the candidate
  pub enough_candidate : (who v : ℕ) → who < 2 ^ n → ((v ≡ 0 → ⊥) → (j : ℕ) → j < n → mem j who ≡ mem j heard and among v (values_in (note_of notes j)))
      → if_enough bound who v ≡ candidate n bound heard said v
  unfolding if_enough candidate certified
  enough_candidate who v low members =
      ⊎_elim
      (λ z. zero_either _ v z ∙ sym (zero_either _ v z))
      (λ z.
      ap (λ (b : Bool). pick b v 0)
      (below_enough n bound who small low
      ∙ enough_same n bound (λ j. mem j who) (λ j. mem j heard and has_noted said v j) (λ j k. members z j k ∙ ap (λ (b : Bool). mem j heard and b) (sym (noted_is notes v z j)))))
      (equal_or_not v 0)

  pub voters_candidate : (v : ℕ) → if_enough bound (voters_in n notes heard v) v ≡ candidate n bound heard said v
  unfolding voters_in
  voters_candidate v =
      enough_candidate (voters_in n notes heard v) v (voters_below n notes heard v) (λ z j k. mem_mask n j (λ j. mem j heard and among v (values_in (note_of notes j))) k)

-- ---- the loop over those who have said one value: each value is looked at once

module _ (n : ℕ) (bound : Bound) (notes : List Note) (firsts : List ℕ) (single fickle : ℕ) where
  abbrev from : ℕ → ℕ
  from = from_first n bound notes firsts single fickle

  -- those below j, and whoever has left the rest, have been looked at
  pub record Looked (j best rest : ℕ) : Type 0 where
    pub least_is : best ≡ least j from
    pub inside : (i : ℕ) → mem i rest ≡ true → mem i single ≡ true
    pub gone : (i : ℕ) → i < n → mem i single ≡ true → mem i rest ≡ false → (k : ℕ) × (k < j) × (from k ≡ from i)

  pub looked_none : Looked 0 0 single
  unfolding least
  looked_none = record { least_is = refl; inside = λ i e. e; gone = λ i k e z. clash e z }

  from_single : (j : ℕ) → mem j single ≡ true
      → from j ≡ if_enough bound (bit_or (same_in n firsts single (get_or firsts j 0)) (voters_in n notes fickle (get_or firsts j 0))) (get_or firsts j 0)
  unfolding from_first
  from_single j h = pick_yes _ _ _ h

  from_other : (j : ℕ) → mem j single ≡ false → from j ≡ 0
  unfolding from_first
  from_other j h = pick_no _ _ _ h

  from_same : (i j : ℕ) → mem i single ≡ true → mem j single ≡ true → get_or firsts i 0 ≡ get_or firsts j 0 → from i ≡ from j
  from_same i j h k e =
      from_single i h ∙ ap (λ (v : ℕ). if_enough bound (bit_or (same_in n firsts single v) (voters_in n notes fickle v)) v) e ∙ sym (from_single j k)

  module _ (j best rest : ℕ) (so : Looked j best rest) (k : j < n) where
    -- one who is not in the rest adds nothing
    pub looked_past : mem j rest ≡ false → Looked (j + 1) best rest
    looked_past h = record {
      least_is =
          ⊎_elim
          (λ m.
          let w = so.gone j k m h in
          so.least_is ∙ sym (least_again j from w.0 w.1) ∙ ap (lesser (least j from)) w.2)
          (λ m. so.least_is ∙ sym (lesser_none (least j from)) ∙ ap (lesser (least j from)) (sym (from_other j m)))
          (decide (mem j single))
          ∙ sym (ap (λ (x : ℕ). least x from) (add-one j) ∙ least_next j from);
      inside = so.inside;
      gone = λ i l m z. let w = so.gone i l m z in (w.0, (let t : w.0 < j = w.1 in omega arith), w.2);
    }

    -- one who is in it takes all who have said the same out of it
    pub looked_at : n ≤ 20 → (who next : ℕ) → mem j rest ≡ true → Fits w32 who → who ≡ same_in n firsts single (get_or firsts j 0)
        → next ≡ if_enough bound (bit_or who (voters_in n notes fickle (get_or firsts j 0))) (get_or firsts j 0)
        → Looked (j + 1) (lesser best next) (bit_and rest (4294967295 - who))
    unfolding same_in
    looked_at small who next h low e q = record {
      least_is = least_turn j best next from so.least_is
          (q ∙ ap (λ (s : ℕ). if_enough bound (bit_or s (voters_in n notes fickle (get_or firsts j 0))) (get_or firsts j 0)) e ∙ sym (from_single j (so.inside j h)));
      inside = λ i m. so.inside i (and_l _ _ (sym (mem_and i rest (4294967295 - who)) ∙ m));
      gone = λ i l m z.
          ⊎_elim
          (λ r.
          ⊎_elim
          (λ w.
          let v = and_l (eqb (get_or firsts i 0) (get_or firsts j 0)) (mem i single) (sym (mem_mask n i _ l) ∙ ap (mem i) (sym e) ∙ w) in
          (j, (omega arith), from_same j i (so.inside j h) m (sym (eqb-true _ _ v))))
          (λ w.
          clash
          (mem_and i rest (4294967295 - who) ∙ and_i _ _ r (mem_not 32 i who low.fits (omega arith) ∙ not_i w)) z)
          (decide (mem i who)))
          (λ r. let w = so.gone i l m r in (w.0, (let t : w.0 < j = w.1 in omega arith), w.2))
          (decide (mem i rest));
    }

-- ---- where those who have said more than one value are not enough, the values of the others tell

values_none : (note : Note) → note.count ≡ 0 → values_in note ≡ []
unfolding values_in
values_none note e = ap (λ (k : ℕ). take k note.values) e

values_one : (note : Note) → length note.values ≡ 40 → note.count ≡ 1 → values_in note ≡ get_or note.values 0 0 ∷ []
unfolding values_in
values_one note l e = ap (λ (k : ℕ). take k note.values) e ∙ take-suc note.values 0 0 (omega arith)

values_first : (note : Note) → 0 < note.count → get_or (values_in note) 0 0 ≡ get_or note.values 0 0
unfolding values_in
values_first note l = get_or-take note.count note.values 0 0 l

-- of a note with one value, with more and with none: who has said v by its first place or by all its values is who has said it
row_said : (one more hears a e : Bool) → (one ≡ false → more ≡ false → a ≡ false) → (one ≡ true → a ≡ e) → (one ≡ true → more ≡ false)
    → ((e and (one and hears)) or ((more and hears) and a)) ≡ (hears and a)
unfolding ◌and◌ ◌or◌
row_said true true hears a e none one apart = clash refl (apart refl)
row_said true false true a true none one apart = sym (one refl)
row_said true false true a false none one apart = sym (one refl)
row_said true false false a true none one apart = refl
row_said true false false a false none one apart = refl
row_said false true true a true none one apart = refl
row_said false true true a false none one apart = refl
row_said false true false a true none one apart = refl
row_said false true false a false none one apart = refl
row_said false false true a true none one apart = sym (none refl refl)
row_said false false true a false none one apart = sym (none refl refl)
row_said false false false a true none one apart = refl
row_said false false false a false none one apart = refl

fickle_low : (n heard : ℕ) (notes : List Note) → fickle_in n notes heard < 2 ^ n
unfolding fickle_in
fickle_low n heard notes = mask_lt n _

few_fickle : (n : ℕ) (bound : Bound) (heard : ℕ) (notes : List Note) → n ≤ 20 → enough 32 bound (λ i. mem i (fickle_in n notes heard)) ≡ false
    → enough n bound (λ i. mem i (fickle_in n notes heard)) ≡ false
few_fickle n bound heard notes small h = sym (below_enough n bound (fickle_in n notes heard) small (fickle_low n heard notes)) ∙ h

single_i : (n heard : ℕ) (notes : List Note) (i : ℕ) → i < n → (note_of notes i).count ≡ 1 → mem i heard ≡ true → mem i (single_in n notes heard) ≡ true
unfolding single_in
single_i n heard notes i k e h = mem_mask n i (λ j. eqb (note_of notes j).count 1 and mem j heard) k ∙ and_i _ _ (eq-eqb (note_of notes i).count 1 e) h

fickle_i : (n heard : ℕ) (notes : List Note) (i : ℕ) → i < n → 1 < (note_of notes i).count → mem i heard ≡ true → mem i (fickle_in n notes heard) ≡ true
unfolding fickle_in
fickle_i n heard notes i k l h = mem_mask n i (λ j. ltb 1 (note_of notes j).count and mem j heard) k ∙ and_i _ _ (lt-ltb 1 (note_of notes i).count l) h

-- one who is heard, has said v, and has not said more than one value has said one
lone_count : (n heard : ℕ) (notes : List Note) (i : ℕ) → i < n → mem i heard ≡ true → mem i (fickle_in n notes heard) ≡ false → (v : ℕ)
    → among v (values_in (note_of notes i)) ≡ true → (note_of notes i).count ≡ 1
unfolding fickle_in among
lone_count n heard notes i k h u v a = go (note_of notes i).count refl
  where
    go : (m : ℕ) → (note_of notes i).count ≡ m → (note_of notes i).count ≡ 1
    go zero e = clash a (ap (among v) (values_none (note_of notes i) e))
    go (suc zero) e = e
    go (suc (suc m)) e =
        clash (mem_mask n i (λ j. ltb 1 (note_of notes j).count and mem j heard) k ∙ and_i _ _ (lt-ltb 1 (note_of notes i).count (omega arith)) h) u

module _ (n : ℕ) (bound : Bound) (heard : ℕ) (notes : List Note) (small : n ≤ 20) (whole : Whole notes) (firsts : List ℕ) (first-is : (j : ℕ) → j < n → get_or firsts j 0 ≡ first_place notes j) where
  abbrev held : List (List ℕ)
  held = map values_in notes

  abbrev one_of : ℕ
  one_of = single_in n notes heard

  abbrev more_of : ℕ
  more_of = fickle_in n notes heard

  -- one of those: its count, and that it is heard
  single_why : (j : ℕ) → j < n → mem j one_of ≡ true → ((note_of notes j).count ≡ 1) × (mem j heard ≡ true)
  unfolding single_in
  single_why j k h =
      let t = sym (mem_mask n j (λ j. eqb (note_of notes j).count 1 and mem j heard) k) ∙ h in
      (eqb-true (note_of notes j).count 1 (and_l _ _ t), and_r (eqb (note_of notes j).count 1) _ t)

  pub fickle_heard : (j : ℕ) → mem j more_of ≡ true → mem j heard ≡ true
  unfolding fickle_in
  fickle_heard j h =
      and_r (ltb 1 (note_of notes j).count) _ (sym (mem_mask n j (λ j. ltb 1 (note_of notes j).count and mem j heard) (mem_below n j more_of (mask_lt n _) h)) ∙ h)

  one_value : (j : ℕ) → j < n → (note_of notes j).count ≡ 1 → values_in (note_of notes j) ≡ get_or firsts j 0 ∷ []
  unfolding first_place
  one_value j k e = values_one (note_of notes j) (whole.forty j (omega arith)) e ∙ ap (λ (v : ℕ). v ∷ []) (sym (first-is j k))

  said_set : ℕ → ℕ
  said_set v = bit_or (same_in n firsts one_of v) (voters_in n notes more_of v)

  said_low : (v : ℕ) → said_set v < 2 ^ n
  unfolding said_set same_in voters_in
  said_low v = or_lt n _ _ (mask_lt n _) (mask_lt n _)

  said_mem : (v j : ℕ) → j < n → mem j (said_set v) ≡ mem j heard and among v (values_in (note_of notes j))
  unfolding said_set same_in voters_in single_in fickle_in among
  said_mem v j k =
      mem_or j (same_in n firsts one_of v) (voters_in n notes more_of v)
      ∙ (λ i. mem_mask n j (λ j. eqb (get_or firsts j 0) v and mem j one_of) k i or mem_mask n j (λ j. mem j more_of and among v (values_in (note_of notes j))) k i)
      ∙ (λ i.
      (eqb (get_or firsts j 0) v and mem_mask n j (λ j. eqb (note_of notes j).count 1 and mem j heard) k i)
      or (mem_mask n j (λ j. ltb 1 (note_of notes j).count and mem j heard) k i and among v (values_in (note_of notes j))))
      ∙ row_said (eqb (note_of notes j).count 1) (ltb 1 (note_of notes j).count) (mem j heard) (among v (values_in (note_of notes j))) (eqb (get_or firsts j 0) v)
      (λ a b. ap (among v) (values_none (note_of notes j) (no_count (note_of notes j).count a b)))
      (λ a. ap (among v) (one_value j k (eqb-true (note_of notes j).count 1 a)) ∙ among_one v (get_or firsts j 0))
      (λ a. le-ltb 1 (note_of notes j).count (let e = eqb-true (note_of notes j).count 1 a in omega arith))
    where
      no_count : (m : ℕ) → eqb m 1 ≡ false → ltb 1 m ≡ false → m ≡ 0
      no_count zero a b = refl
      no_count (suc zero) a b = clash (eq-eqb 1 1 refl) a
      no_count (suc (suc m)) a b = clash (lt-ltb 1 (suc (suc m)) (omega arith)) b

  abbrev led : ℕ → ℕ
  led = from_first n bound notes firsts one_of more_of

  -- what the first place of one who has said one value leads to is what is found from it
  single_candidate : (j : ℕ) → mem j one_of ≡ true → led j ≡ candidate n bound heard held (get_or firsts j 0)
  unfolding from_first said_set
  single_candidate j h =
      pick_yes _ _ _ h
      ∙ enough_candidate n bound heard notes small (said_set (get_or firsts j 0)) (get_or firsts j 0) (said_low (get_or firsts j 0)) (λ z i l. said_mem (get_or firsts j 0) i l)

  single_from : (j : ℕ) → j < n → mem j one_of ≡ true → led j ≡ least_from n bound heard held j
  unfolding least_from least_of
  single_from j k h =
      let w = single_why j k h in
      single_candidate j h
      ∙ sym (lesser_none (candidate n bound heard held (get_or firsts j 0)))
      ∙ ap (least_of (candidate n bound heard held)) (sym (one_value j k w.0) ∙ sym (view_values notes j))
      ∙ sym (pick_yes _ _ _ w.1)

  led_only : (j : ℕ) → (led j ≡ 0 → ⊥) → mem j one_of ≡ true
  unfolding from_first
  led_only j z = ⊎_elim (λ h. h) (λ h. absurd (z (pick_no _ _ _ h))) (decide (mem j one_of))

  -- a certified value has a voter who has said nothing else
  lone_voter : enough n bound (λ i. mem i more_of) ≡ false → (v : ℕ) → certified n bound heard held v ≡ true
      → (i : ℕ) × (i < n) × (mem i one_of ≡ true) × (get_or firsts i 0 ≡ v)
  unfolding certified
  lone_voter few v c = go (decide (all n (λ i. voter i implies mem i more_of)))
    where
      voter : ℕ → Bool
      voter i = mem i heard and has_noted held v i

      found : (i : ℕ) → i < n → voter i ≡ true → mem i more_of ≡ false → (i : ℕ) × (i < n) × (mem i one_of ≡ true) × (get_or firsts i 0 ≡ v)
      found i k t u =
          let h = and_l _ _ t in
          let a : among v (values_in (note_of notes i)) ≡ true = ap (among v) (sym (view_values notes i)) ∙ has_among held v i (and_r _ _ t) in
          let e = lone_count n heard notes i k h u v a in
          (i, k, single_i n heard notes i k e h, eqb-true (get_or firsts i 0) v (sym (among_one v (get_or firsts i 0)) ∙ ap (among v) (sym (one_value i k e)) ∙ a))

      go : (all n (λ i. voter i implies mem i more_of) ≡ true) ⊎ (all n (λ i. voter i implies mem i more_of) ≡ false)
          → (i : ℕ) × (i < n) × (mem i one_of ≡ true) × (get_or firsts i 0 ≡ v)
      go (inl a) =
          clash (enough_mono n bound voter (λ i. mem i more_of) (λ i k t. implies_e _ _ (all_at n (λ i. voter i implies mem i more_of) a i k) t) c) few
      go (inr a) =
          let w = all_not n (λ i. voter i implies mem i more_of) a in
          found w.0 w.1 (implies_no_l (voter w.0) (mem w.0 more_of) w.2) (implies_no_r (voter w.0) (mem w.0 more_of) w.2)

  firsts_enough : enough n bound (λ i. mem i more_of) ≡ false → least n led ≡ least n (least_from n bound heard held)
  firsts_enough few =
      least_same n led (least_from n bound heard held)
      (λ j k z. (j, k, sym (single_from j k (led_only j z))))
      (λ j k z.
      let w = from_why n bound heard held j z in
      let i = lone_voter few (least_from n bound heard held j) w.2 in
      (i.0, i.1, lone i w.2))
    where
      lone : {v : ℕ} → (w : (i : ℕ) × (i < n) × (mem i one_of ≡ true) × (get_or firsts i 0 ≡ v)) → certified n bound heard held v ≡ true → led w.0 ≡ v
      lone {v} w c = single_candidate w.0 w.2 ∙ ap (candidate n bound heard held) w.3 ∙ candidate_yes n bound heard held v c

  pub firsts_found : (single fickle : ℕ) → single ≡ one_of → fickle ≡ more_of → enough 32 bound (λ i. mem i fickle) ≡ false
      → least n (from_first n bound notes firsts single fickle) ≡ least n (least_from n bound heard held)
  firsts_found single fickle e q few =
      (λ i. least n (from_first n bound notes firsts (e i) (q i))) ∙ firsts_enough (few_fickle n bound heard notes small (subst (λ (s : ℕ). enough 32 bound (λ i. mem i s) ≡ false) q few))

  -- ---- the source's first value

  module _ (source : ℕ) (k : source < n) where
    -- one who has said something is heard, and its first value stands at its first place
    spoken_first : mem source (bit_or one_of more_of) ≡ true → (mem source heard ≡ true) × (first_of (values_of held source) ≡ get_or firsts source 0)
    unfolding first_of first_place fickle_in
    spoken_first h =
        ⊎_elim
        (λ a. let w = single_why source k a in (w.1, ap (λ (l : List ℕ). get_or l 0 0) (view_values notes source ∙ one_value source k w.0)))
        (λ b.
        let t = sym (mem_mask n source (λ j. ltb 1 (note_of notes j).count and mem j heard) k) ∙ b in
        let l : 1 < (note_of notes source).count = ltb-true 1 (note_of notes source).count (and_l _ _ t) in
        (and_r (ltb 1 (note_of notes source).count) _ t, ap (λ (l : List ℕ). get_or l 0 0) (view_values notes source) ∙ at_first (omega arith) ∙ sym (first-is source k)))
        (or_e (mem source one_of) (mem source more_of) (sym (mem_or source one_of more_of) ∙ h))
      where
        at_first : 0 < (note_of notes source).count → get_or (values_in (note_of notes source)) 0 0 ≡ get_or (note_of notes source).values 0 0
        at_first l = values_first (note_of notes source) l

    -- one who is heard and has said nothing has no first value
    silent_first : mem source (bit_or one_of more_of) ≡ false → mem source heard ≡ true → first_of (values_of held source) ≡ 0
    unfolding first_of
    silent_first h m = go (note_of notes source).count refl
      where
        go : (c : ℕ) → (note_of notes source).count ≡ c → get_or (values_of held source) 0 0 ≡ 0
        go zero e = ap (λ (l : List ℕ). get_or l 0 0) (view_values notes source ∙ values_none (note_of notes source) e)
        go (suc zero) e = clash (mem_or source one_of more_of ∙ or_l _ _ (single_i n heard notes source k e m)) h
        go (suc (suc c)) e = clash (mem_or source one_of more_of ∙ or_r (mem source one_of) _ (fickle_i n heard notes source k (let q = e in omega arith) m)) h

    pub direct_yes : mem source (bit_or one_of more_of) ≡ true → (get_or firsts source 0 ≡ 0 → ⊥) → get_or firsts source 0 ≡ choice n source bound heard held
    unfolding choice
    direct_yes h z =
        let w = spoken_first h in
        sym w.1 ∙ sym (pick_yes _ _ _ (and_i _ _ w.0 (not_i (ne_eqb (first_of (values_of held source)) 0 (λ e. z (sym w.1 ∙ e))))))

    no_first : ((mem source (bit_or one_of more_of) ≡ true) × (get_or firsts source 0 ≡ 0)) ⊎ (mem source (bit_or one_of more_of) ≡ false)
        → mem source heard ≡ true → first_of (values_of held source) ≡ 0
    no_first (inl p) m = (spoken_first p.0).1 ∙ p.1
    no_first (inr p) m = silent_first p m

    pub direct_no : ((mem source (bit_or one_of more_of) ≡ true) × (get_or firsts source 0 ≡ 0)) ⊎ (mem source (bit_or one_of more_of) ≡ false)
        → least n (least_from n bound heard held) ≡ choice n source bound heard held
    unfolding choice
    direct_no p =
        sym (pick_no _ _ _
        (⊎_elim (λ m. and_no_r _ _ (not_yes (eq-eqb (first_of (values_of held source)) 0 (no_first p m)))) (λ m. and_no_l _ _ m) (decide (mem source heard))))
