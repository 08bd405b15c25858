-- What the code computes from a sound plan's rows is the theory's set of those that hear enough. Assumes nothing.
use Prim.Native.Nat.{ℕ, ◌+◌, ◌-◌, ◌^◌, ◌≤◌, ◌<◌}
use mathlib.Core.List.{List}
use mathlib.Core.Path.{◌≡◌, refl, sym, ap, ◌∙◌, subst}
use mathlib.Core.Logic.{⊎_elim}
use mathlib.Core.Bool.{Bool, true, false, not}
use native.Mathlib.Nat.{le_trans, lt_of_lt_of_le}
use native.Mathlib.Omega.{arith}
use lib.Bits.{bit_and}
use lib.Dec.{ltb, eqb}
use lib.ListN.{length, get_or, set}
use lib.Seq.{get_or-set_same, get_or-set_other}
use borrow.Author.Count.{below_more}
use lib.Pow.{pow_mono, pow_pos}
use borrow.Author.Tests.{le-ltb}
use Rattle.sets.specs.Tests.{◌and◌, ◌implies◌}
use Rattle.sets.specs.Sets.{mem, count, all, some, mask}
use Rattle.quorum.specs.declared.BoundKind.{BoundKind}
use Rattle.quorum.specs.declared.BoundKind.TheVariants.{Most, Groups}
use Rattle.quorum.specs.declared.Bound.{Bound}
use Rattle.quorum.specs.Quorum.{at_most, group_at, fit, enough}
use Rattle.quorum.proofs.Laws.{fit_width, enough_none, enough_most, enough_groups, enough_width}
use Rattle.sets.proofs.Bools.{and_no_l}
use Rattle.sets.proofs.Laws.{below_or_not, mem_zero, mem_above, set_ext, mask_lt, mem_mask, mem_mask_above, mask_of, mask_cong, all_cong, some_cong, count_le}
use Rattle.sets.proofs.Masks.{mem_and, mem_not}
use Rattle.sets.proofs.Operations.{test_inside}
use Rattle.plan.specs.declared.Plan.{Plan}
use Rattle.plan.specs.Plan.{heard_by, hears}
use Rattle.plan.proofs.Laws.{Sound}
use Rattle.closure.specs.FaultSet.{hears_enough, bounded_by, is_bounded}
use Rattle.faults.specs.Rows.{over, hearing}

-- rows at and above n are empty, so a property that the empty row lacks has the same mask over twenty rows as over n
rows_mask : (p : Plan) → Sound p → (P : ℕ → Bool) → P 0 ≡ false → mask 20 (λ b. P (heard_by p b)) ≡ mask p.n (λ b. P (heard_by p b))
rows_mask p s P z =
    set_ext 20 (mask 20 (λ b. P (heard_by p b))) (mask p.n (λ b. P (heard_by p b))) (mask_lt 20 (λ b. P (heard_by p b)))
    (lt_of_lt_of_le (mask_lt p.n (λ b. P (heard_by p b))) (pow_mono s.twenty))
    (λ b k.
    mem_mask 20 b (λ b. P (heard_by p b)) k
    ∙ ⊎_elim (λ l. sym (mem_mask p.n b (λ b. P (heard_by p b)) l))
    (λ l. ap P (s.rows_above b l k) ∙ z ∙ sym (mem_mask_above p.n b (λ b. P (heard_by p b)) l))
    (below_or_not b p.n))

-- those of a row's terminals that are in a, over all 32 bits and over n
row_enough : (p : Plan) → Sound p → (bound : Bound) (a b : ℕ) → b < p.n
    → enough 32 bound (λ i. mem i (heard_by p b) and mem i a) ≡ enough p.n bound (λ i. hears p b i and mem i a)
unfolding hears
row_enough p s bound a b k =
    enough_width p.n 32 bound (λ i. mem i (heard_by p b) and mem i a) (let t = s.twenty in omega arith)
    (λ i l. and_no_l _ _ (mem_above p.n i (heard_by p b) (s.row_below b k) l))

hearing_enough : (p : Plan) → Sound p → (bound : Bound) (a : ℕ)
    → hearing p.rows bound a ≡ mask p.n (λ b. enough p.n bound (λ i. hears p b i and mem i a))
unfolding hearing heard_by
hearing_enough p s bound a =
    rows_mask p s (λ row. enough 32 bound (λ i. mem i row and mem i a))
    (enough_none 32 bound (λ i. mem i 0 and mem i a) (λ i k. and_no_l _ _ (mem_zero i)))
    ∙ mask_cong p.n (λ b. enough 32 bound (λ i. mem i (heard_by p b) and mem i a)) (λ b. enough p.n bound (λ i. hears p b i and mem i a))
    (row_enough p s bound a)

-- a count is the same of a bound that is a number
pub over_hearing : (rows : List ℕ) (bound : Bound) (f a : ℕ) → bound.kind ≡ Most f → over rows f a ≡ hearing rows bound a
unfolding over hearing
over_hearing rows bound f a e =
    mask_cong 20 (λ b. ltb f (count 32 (λ i. mem i (get_or rows b 0) and mem i a))) (λ b. enough 32 bound (λ i. mem i (get_or rows b 0) and mem i a))
    (λ b k. sym (enough_most 32 bound (λ i. mem i (get_or rows b 0) and mem i a) f e))

pub over_enough : (p : Plan) → Sound p → (g a : ℕ) → over p.rows g a ≡ mask p.n (λ b. enough p.n (at_most g) (λ i. hears p b i and mem i a))
over_enough p s g a = over_hearing p.rows (at_most g) g a refl ∙ hearing_enough p s (at_most g) a

-- nobody hears more than there are
pub over_none : (rows : List ℕ) (bound : Bound) (f a : ℕ) → bound.kind ≡ Most f → 32 ≤ f → 0 ≡ hearing rows bound a
unfolding hearing
over_none rows bound f a e k =
    mask_of 20 0 (λ b. enough 32 bound (λ i. mem i (get_or rows b 0) and mem i a)) (pow_pos 20)
    (λ b l.
    mem_zero b
    ∙ sym (enough_most 32 bound (λ i. mem i (get_or rows b 0) and mem i a) f e
    ∙ le-ltb f (count 32 (λ i. mem i (get_or rows b 0) and mem i a)) (le_trans (count_le 32 (λ i. mem i (get_or rows b 0) and mem i a)) k)))

pub over_why : (p : Plan) → Sound p → (g a o b : ℕ) → o ≡ over p.rows g a → b < p.n
    → mem b o ≡ enough p.n (at_most g) (λ i. hears p b i and mem i a)
over_why p s g a o b e k =
    ap (mem b) (e ∙ over_enough p s g a) ∙ mem_mask p.n b (λ b. enough p.n (at_most g) (λ i. hears p b i and mem i a)) k

pub over_low : (p : Plan) → Sound p → (g a o : ℕ) → o ≡ over p.rows g a → o < 2 ^ p.n
over_low p s g a o e =
    subst (λ (x : ℕ). x < 2 ^ p.n) (sym (e ∙ over_enough p s g a)) (mask_lt p.n (λ b. enough p.n (at_most g) (λ i. hears p b i and mem i a)))

-- a row's terminals that are in a, as one word
pub row_hears : (p : Plan) → Sound p → (a b : ℕ) → b < p.n → enough 32 p.bound (λ i. mem i (bit_and (heard_by p b) a)) ≡ hears_enough p b a
unfolding hears_enough
row_hears p s a b k = ap (enough 32 p.bound) (λ j i. mem_and i (heard_by p b) a j) ∙ row_enough p s p.bound a b k

pub hearing_is : (p : Plan) → Sound p → (a : ℕ) → hearing p.rows p.bound a ≡ mask p.n (λ b. hears_enough p b a)
unfolding hears_enough
hearing_is p s a = hearing_enough p s p.bound a

pub hearing_mem : (p : Plan) → Sound p → (a o b : ℕ) → o ≡ hearing p.rows p.bound a → b < p.n → mem b o ≡ hears_enough p b a
hearing_mem p s a o b e k = ap (mem b) (e ∙ hearing_is p s a) ∙ mem_mask p.n b (λ b. hears_enough p b a) k

pub hearing_below : (p : Plan) → Sound p → (a o : ℕ) → o ≡ hearing p.rows p.bound a → o < 2 ^ p.n
hearing_below p s a o e = subst (λ (x : ℕ). x < 2 ^ p.n) (sym (e ∙ hearing_is p s a)) (mask_lt p.n (λ b. hears_enough p b a))

pub word_of : (p : Plan) → Sound p → {x : ℕ} → x < 2 ^ p.n → x < 2 ^ 32
word_of p s h = let t : p.n ≤ 32 = let u = s.twenty in omega arith in lt_of_lt_of_le h (pow_mono t)

-- those who hear enough of s lie inside s exactly if everyone outside s hears at most f of it
pub bounded_test : (p : Plan) → Sound p → (s o f : ℕ) → p.bound.kind ≡ Most f → s < 2 ^ p.n → o ≡ hearing p.rows p.bound s
    → eqb (bit_and o (4294967295 - s)) 0 ≡ is_bounded p s
unfolding ◌implies◌ is_bounded
bounded_test p sound s o f m h e =
    test_inside 32 p.n o s (let t = sound.twenty in omega arith) (hearing_below p sound s o e) (word_of p sound h)
    ∙ all_cong p.n (λ b. mem b o implies mem b s) (λ b. not (mem b s) implies not (hears_enough p b s))
    (λ b k. ap (λ (t : Bool). t implies mem b s) (hearing_mem p sound s o b e k) ∙ turned (hears_enough p b s) (mem b s))
    ∙ sym (ap (λ (k : BoundKind). bounded_by k p s) m)
  where
    turned : (x y : Bool) → (x implies y) ≡ (not y implies not x)
    turned true true = refl
    turned true false = refl
    turned false true = refl
    turned false false = refl

-- and of groups: s is part of one exactly if its members are not enough
pub fitting_test : (p : Plan) → Sound p → (s c : ℕ) → p.bound.kind ≡ Groups c → s < 2 ^ p.n → not (enough 32 p.bound (λ b. mem b s)) ≡ is_bounded p s
unfolding is_bounded
fitting_test p sound s c m h =
    ap not (enough_groups 32 p.bound (λ b. mem b s) c m) ∙ not_not (fit 32 p.bound (λ b. mem b s))
    ∙ fit_width p.n 32 p.bound (λ b. mem b s) (let t = sound.twenty in omega arith) (λ i k. mem_above p.n i s h k)
    ∙ sym (ap (λ (k : BoundKind). bounded_by k p s) m)
  where
    not_not : (x : Bool) → not (not x) ≡ x
    not_not true = refl
    not_not false = refl

-- a row that has one of each set of those outside a group, has who fit in no group
pub row_fits : (row a : ℕ) (outer groups : List ℕ)
    → ((i : ℕ) → i < 16 → (j : ℕ) → j < 32 → mem j (get_or outer i 0) ≡ mem j a and not (mem j (get_or groups i 0)))
    → not (some 16 (λ i. all 32 (λ j. not (mem j row and mem j (get_or outer i 0)))))
    ≡ not (some 16 (λ i. all 32 (λ j. (mem j row and mem j a) implies mem j (get_or groups i 0))))
unfolding ◌and◌ ◌implies◌
row_fits row a outer groups e =
    ap not
    (some_cong 16 (λ i. all 32 (λ j. not (mem j row and mem j (get_or outer i 0)))) (λ i. all 32 (λ j. (mem j row and mem j a) implies mem j (get_or groups i 0)))
    (λ i k.
    all_cong 32 (λ j. not (mem j row and mem j (get_or outer i 0))) (λ j. (mem j row and mem j a) implies mem j (get_or groups i 0))
    (λ j l. ap (λ (t : Bool). not (mem j row and t)) (e i k j l) ∙ regroup (mem j row) (mem j a) (mem j (get_or groups i 0)))))
  where
    regroup : (x y z : Bool) → not (x and (y and not z)) ≡ ((x and y) implies z)
    regroup true true true = refl
    regroup true true false = refl
    regroup true false z = refl
    regroup false y z = refl

-- a loop that fills the sets of those outside each group: one more
pub outside_more : (a : ℕ) (groups outer : List ℕ) (i v : ℕ) → i < length outer
    → ((j : ℕ) → j < 32 → mem j v ≡ mem j a and not (mem j (get_or groups i 0)))
    → ((k : ℕ) → k < i → (j : ℕ) → j < 32 → mem j (get_or outer k 0) ≡ mem j a and not (mem j (get_or groups k 0)))
    → (k : ℕ) → k < i + 1 → (j : ℕ) → j < 32 → mem j (get_or (set outer i v) k 0) ≡ mem j a and not (mem j (get_or groups k 0))
outside_more a groups outer i v l e f =
    below_more (λ (k : ℕ). (j : ℕ) → j < 32 → mem j (get_or (set outer i v) k 0) ≡ mem j a and not (mem j (get_or groups k 0))) i
    (λ k h j m. ap (mem j) (get_or-set_other outer i k v 0 (λ q. omega arith)) ∙ f k h j m)
    (λ j m. ap (mem j) (get_or-set_same outer i v 0 l) ∙ e j m)

pub mem_outside : (a g j : ℕ) → g < 2 ^ 32 → j < 32 → mem j (bit_and a (4294967295 - g)) ≡ mem j a and not (mem j g)
mem_outside a g j h k = mem_and j a (4294967295 - g) ∙ ap (λ (t : Bool). mem j a and t) (mem_not 32 j g h k)

-- and of groups
pub fitting_hearing : (rows : List ℕ) (bound : Bound) (c a : ℕ) → bound.kind ≡ Groups c
    → mask 20 (λ b. not (some 16 (λ i. all 32 (λ j. (mem j (get_or rows b 0) and mem j a) implies mem j (get_or bound.groups i 0))))) ≡ hearing rows bound a
unfolding hearing fit group_at
fitting_hearing rows bound c a e =
    mask_cong 20 (λ b. not (fit 32 bound (λ j. mem j (get_or rows b 0) and mem j a))) (λ b. enough 32 bound (λ i. mem i (get_or rows b 0) and mem i a))
    (λ b k. sym (enough_groups 32 bound (λ j. mem j (get_or rows b 0) and mem j a) c e))
