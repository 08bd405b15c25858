-- How many of a set a terminal of a drawing hears: with a bound f it hears enough where these are more than f; and what is lost with one link. Assumes nothing.
use Prim.Native.Nat.{ℕ, ◌+◌, ◌≤◌, ◌<◌}
use mathlib.Core.Path.{◌≡◌, refl, sym, ap, ap₂, ◌∙◌, subst}
use mathlib.Core.Logic.{⊎_elim}
use mathlib.Core.Bool.{Bool, true, not}
use lib.Dec.{eqb, ltb}
use lib.ListN.{get_or, set, length, length-set, get_or-eq_default}
use lib.Pow.{pow_pos}
use lib.Seq.{get_or-set_same, get_or-set_other}
use borrow.Author.Tests.{eq-eqb, ne_eqb}
use Rattle.sets.specs.Tests.{◌and◌}
use Rattle.sets.specs.Sets.{mem, count, without}
use Rattle.sets.proofs.Bools.{clash, and_l, and_r, and_i, and_yes, and_no_l, and_no_r, and_swap, not_i, not_e, no_by}
use Rattle.sets.proofs.Laws.{below_or_not, equal_or_not, mem_zero, mem_mask, mask_of, count_apart}
use Rattle.quorum.specs.Quorum.{at_most}
use Rattle.quorum.proofs.Laws.{enough_most}
use Rattle.plan.specs.Plan.{heard_by, hears}
use Rattle.closure.specs.FaultSet.{hears_enough}
use Rattle.tolerance.specs.declared.Drawing.{Drawing}
use Rattle.tolerance.specs.Greatest.{with_bound}
use Rattle.tolerance.specs.Links.{linked, without_link}

-- ---- counted

unfoldable pub heard_of : Drawing → (b s : ℕ) → ℕ
heard_of d b s = count d.n (λ a. linked d a b and mem a s)

pub enough_is : (d : Drawing) (f b s : ℕ) → hears_enough (with_bound d f) b s ≡ ltb f (heard_of d b s)
unfolding hears_enough heard_of hears heard_by
enough_is d f b s = enough_most d.n (at_most f) (λ a. mem a (get_or d.rows b 0) and mem a s) f refl

-- the links do not depend on the bound
pub linked_is : (d : Drawing) (f a b : ℕ) → hears (with_bound d f) b a ≡ linked d a b
unfolding hears heard_by
linked_is d f a b = refl

-- ---- one link less

module _ (d : Drawing) (a b : ℕ) where
  abbrev row : ℕ
  row = get_or d.rows b 0

  -- of a set that has nobody but a, nobody is left without it
  nobody_left : (s : ℕ) → ((x : ℕ) → mem x s ≡ true → x ≡ a) → without d.n s a ≡ 0
  unfolding without
  nobody_left s only =
      sym
      (mask_of d.n 0 _ (pow_pos d.n)
      (λ x l. mem_zero x ∙ sym (no_by (λ h. clash (eq-eqb x a (only x (and_l _ _ h))) (not_e _ (and_r _ _ h))))))

  -- b's row has lost a; past the end of the list there is none
  row_is : get_or (set d.rows b (without d.n row a)) b 0 ≡ without d.n row a
  row_is =
      ⊎_elim (get_or-set_same d.rows b (without d.n row a) 0)
      (λ k.
      get_or-eq_default (set d.rows b (without d.n row a)) 0 (subst (λ (m : ℕ). m ≤ b) (sym (length-set d.rows b _)) k)
      ∙ sym (nobody_left row (λ x h. clash h (ap (mem x) (get_or-eq_default d.rows 0 k) ∙ mem_zero x))))
      (below_or_not b (length d.rows))

  pub row_emptied : ((x : ℕ) → linked d x b ≡ true → x ≡ a) → get_or (without_link d a b).rows b 0 ≡ 0
  unfolding hears heard_by
  row_emptied only = row_is ∙ nobody_left row only

  pub taken_out : (x y : ℕ) → x < d.n → linked (without_link d a b) x y ≡ linked d x y and not (eqb x a and eqb y b)
  unfolding hears heard_by without
  taken_out x y l =
      ⊎_elim
      (λ same.
      ap (λ (i : ℕ). mem x (get_or (set d.rows b (without d.n row a)) i 0)) same ∙ ap (mem x) row_is ∙ mem_mask d.n x _ l
      ∙ ap₂ (λ (i : ℕ) (t : Bool). mem x (get_or d.rows i 0) and not t) (sym same)
      (sym (and_swap (eqb x a) (eqb y b) ∙ and_yes _ _ (eq-eqb y b same))))
      (λ other.
      ap (mem x) (get_or-set_other d.rows b y (without d.n row a) 0 other)
      ∙ sym (and_swap _ _ ∙ and_yes _ _ (not_i (and_no_r _ _ (ne_eqb y b other)))))
      (equal_or_not y b)

  pub link_kept : (x y : ℕ) → x < d.n → (x ≡ a → ⊥) → linked d x y ≡ true → linked (without_link d a b) x y ≡ true
  link_kept x y l e h = taken_out x y l ∙ and_i _ _ h (not_i (and_no_l _ _ (ne_eqb x a e)))

  pub one_fewer : (c s : ℕ) → heard_of d c s ≤ heard_of (without_link d a b) c s + 1
  unfolding heard_of
  one_fewer c s =
      count_apart d.n a (λ x. linked d x c and mem x s) (λ x. linked (without_link d a b) x c and mem x s)
      (λ x l e h. and_i _ _ (link_kept x c l e (and_l _ _ h)) (and_r _ _ h))
