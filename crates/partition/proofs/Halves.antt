-- A part of the search, cut in two by one of its free terminals: the sets without it, and those with it. Assumes nothing.
use Prim.Native.Nat.{ℕ, ◌^◌, ◌≤◌, ◌<◌}
use mathlib.Core.Path.{◌≡◌, sym, ap, ◌∙◌, subst}
use mathlib.Core.Logic.{◌⊎◌, inl, inr, ⊎_elim}
use mathlib.Core.Bool.{true, false, not}
use Rattle.sets.specs.Tests.{◌and◌}
use Rattle.sets.specs.Sets.{mem, count, with, outside}
use Rattle.sets.proofs.Bools.{clash, decide, and_l, and_r, and_i, and_no_l, and_no_r, not_i, not_e, not_yes, no_by, same_test}
use Rattle.sets.proofs.Laws.{mem_zero, set_ext, count_mono, count_more}
use Rattle.partition.specs.Search.{Inside, Between}
use Rattle.partition.proofs.Members.{outside_mem, outside_i, outside_below, with_below, with_keeps, with_one, with_why}

-- ---- the measure: how many are left to decide

abbrev pub left_to : ℕ → ℕ → ℕ → ℕ
left_to n a b = count n (λ i. not (mem i a) and not (mem i b))

module _ (n a b c d : ℕ) (ac : Inside a c) (bd : Inside b d) where
  fewer : (i : ℕ) → i < n → not (mem i c) and not (mem i d) ≡ true → not (mem i a) and not (mem i b) ≡ true
  fewer i k h =
      and_i _ _ (not_i (no_by (λ m. clash (ac i m) (not_e (mem i c) (and_l _ _ h)))))
      (not_i (no_by (λ m. clash (bd i m) (not_e (mem i d) (and_r _ _ h)))))

  pub left_fewer : left_to n c d ≤ left_to n a b
  left_fewer = count_mono n (λ i. not (mem i c) and not (mem i d)) (λ i. not (mem i a) and not (mem i b)) fewer

  left_less : (x i : ℕ) → x ≡ outside n a b → mem i x ≡ true → not (mem i c) and not (mem i d) ≡ false → left_to n c d < left_to n a b
  left_less x i e m z =
      let k = outside_below n a b x i e m in
      count_more n (λ i. not (mem i c) and not (mem i d)) (λ i. not (mem i a) and not (mem i b)) fewer i k z (sym (outside_mem n a b x i e k) ∙ m)

-- where nobody is left to decide, inn is the only set of the part
pub only_inn : (n inn out free s : ℕ) → free ≡ outside n inn out → free ≡ 0 → inn < 2 ^ n → s < 2 ^ n → Between inn out s → s ≡ inn
only_inn n inn out free s e z a l w =
    set_ext n s inn l a
    (λ i k.
    same_test _ _
    (λ m.
    ⊎_elim (λ y. y)
    (λ y. clash (outside_i n inn out free i e k y (no_by (λ v. clash m (w.lacks i v)))) (ap (mem i) z ∙ mem_zero i))
    (decide (mem i inn)))
    (w.has i))

-- b is free: neither in nor out
pub record Half (n inn out free b : ℕ) : Type 0 where
  pub twenty : n ≤ 20
  pub inn_below : inn < 2 ^ n
  pub out_below : out < 2 ^ n
  pub free_is : free ≡ outside n inn out
  pub is_free : mem b free ≡ true

module _ {n inn out free b : ℕ} (h : Half n inn out free b) where
  pub free_below : b < n
  free_below = outside_below n inn out free b h.free_is h.is_free

  module _ (o : ℕ) (q : o ≡ with 32 out b) where
    pub out_low : o < 2 ^ n
    out_low = with_below n out b o h.twenty h.out_below free_below q

    pub keeps_out : Inside out o
    keeps_out = with_keeps n out b o h.twenty h.out_below free_below q

    pub out_why : (i : ℕ) → mem i o ≡ true → (mem i out ≡ true) ⊎ (i ≡ b)
    out_why = with_why n out b o h.twenty h.out_below free_below q

    pub fewer_without : left_to n inn o < left_to n inn out
    fewer_without =
        left_less n inn out inn o (λ x m. m) keeps_out free b h.free_is h.is_free
        (and_no_r _ _ (not_yes (with_one n out b o h.twenty h.out_below free_below q)))

    lacks_one : (s : ℕ) → Between inn out s → mem b s ≡ false → Between inn o s
    lacks_one s w g = record {
      has = w.has;
      lacks = λ i v. ⊎_elim (w.lacks i) (λ d. subst (λ (j : ℕ). mem j s ≡ false) (sym d) g) (out_why i v);
    }

  module _ (i : ℕ) (q : i ≡ with 32 inn b) where
    pub inn_low : i < 2 ^ n
    inn_low = with_below n inn b i h.twenty h.inn_below free_below q

    pub keeps_inn : Inside inn i
    keeps_inn = with_keeps n inn b i h.twenty h.inn_below free_below q

    pub inn_why : (j : ℕ) → mem j i ≡ true → (mem j inn ≡ true) ⊎ (j ≡ b)
    inn_why = with_why n inn b i h.twenty h.inn_below free_below q

    pub fewer_with : left_to n i out < left_to n inn out
    fewer_with =
        left_less n inn out i out keeps_inn (λ x m. m) free b h.free_is h.is_free
        (and_no_l _ _ (not_yes (with_one n inn b i h.twenty h.inn_below free_below q)))

    has_one : (s : ℕ) → Between inn out s → mem b s ≡ true → Between i out s
    has_one s w g = record {
      has = λ j v. ⊎_elim (w.has j) (λ d. subst (λ (x : ℕ). mem x s ≡ true) (sym d) g) (inn_why j v);
      lacks = w.lacks;
    }

  -- every set of the part is in one half
  pub half_of : (o i : ℕ) → o ≡ with 32 out b → i ≡ with 32 inn b → (s : ℕ) → Between inn out s → Between inn o s ⊎ Between i out s
  half_of o i q t s w = ⊎_elim (λ g. inr (has_one i t s w g)) (λ g. inl (lacks_one o q s w g)) (decide (mem b s))
