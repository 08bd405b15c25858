-- Why there is no sentence of some sets, by the tests that lead there, and what is known where there is one. Assumes nothing.
use Prim.Native.Nat.{ℕ, ◌^◌, ◌≤◌, ◌<◌}
use mathlib.Core.Path.{◌≡◌, ◌∙◌}
use mathlib.Core.Bool.{true, false}
use mathlib.Core.List.{[]}
use native.Mathlib.Omega.{arith}
use lib.Dec.{eqb}
use borrow.Author.Tests.{eq-eqb, ne_eqb, eqb-false, ltb-true, leb-true, le-leb, lt-leb}
use Rattle.sets.specs.Sets.{within, outside, is_partition}
use Rattle.sets.proofs.Bools.{and_i, and_l, and_r, and_no_l, and_no_r, not_i, not_e, not_no, not_yes, pick_yes, pick_no}
use Rattle.sets.proofs.Causes.{cause_here, cause_later, cause_last, cause_none}
use Rattle.sets.proofs.Partition.{part_rest}
use Rattle.wording.specs.Sentence.{terminals_in_range, composes, sentence_cause, sentence, composed}

pub range_small : (n : ℕ) → n < 2 → terminals_in_range n ≡ false
unfolding terminals_in_range
range_small n h = and_no_l _ _ (lt-leb 2 n h)

pub range_large : (n : ℕ) → 20 < n → terminals_in_range n ≡ false
unfolding terminals_in_range
range_large n h = and_no_r _ _ (lt-leb n 20 h)

pub range_right : (n : ℕ) → 2 ≤ n → n ≤ 20 → terminals_in_range n ≡ true
unfolding terminals_in_range
range_right n h k = and_i _ _ (le-leb 2 n h) (le-leb n 20 k)

pub range_twenty : (n : ℕ) → terminals_in_range n ≡ true → n ≤ 20
unfolding terminals_in_range
range_twenty n h = leb-true n 20 (and_r _ _ h)

module _ (n f l r : ℕ) where
  pub cause_range : terminals_in_range n ≡ false → sentence_cause n f l r ≡ 4
  unfolding sentence_cause
  cause_range h = cause_here _ _ _ (not_i h)

  pub cause_sets : terminals_in_range n ≡ true → composes n f l r ≡ false → sentence_cause n f l r ≡ 2
  unfolding sentence_cause
  cause_sets h k = cause_later _ _ _ (not_yes h) ∙ cause_here _ _ _ (not_i k)

  pub cause_right : terminals_in_range n ≡ true → composes n f l r ≡ true → sentence_cause n f l r ≡ 0
  unfolding sentence_cause
  cause_right h k = cause_later _ _ _ (not_yes h) ∙ cause_last _ _ (not_yes k)

  pub composes_i : is_partition n f l r ≡ true → (l ≡ 0 → ⊥) → (r ≡ 0 → ⊥) → composes n f l r ≡ true
  unfolding composes
  composes_i p y z = and_i _ _ p (and_i _ _ (not_i (ne_eqb l 0 y)) (not_i (ne_eqb r 0 z)))

  pub no_partition : is_partition n f l r ≡ false → composes n f l r ≡ false
  unfolding composes
  no_partition p = and_no_l _ _ p

  pub nobody_reached : l ≡ 0 → composes n f l r ≡ false
  unfolding composes
  nobody_reached z = and_no_r _ _ (and_no_l _ _ (not_yes (eq-eqb l 0 z)))

  pub nobody_waits : r ≡ 0 → composes n f l r ≡ false
  unfolding composes
  nobody_waits z = and_no_r _ _ (and_no_r _ _ (not_yes (eq-eqb r 0 z)))

-- what is known of sets that have a sentence
pub record Sound (n f l r : ℕ) : Type 0 where
  pub range : terminals_in_range n ≡ true
  pub twenty : n ≤ 20
  pub part : is_partition n f l r ≡ true
  pub rest : l ≡ outside n f r
  pub f_below : f < 2 ^ n
  pub l_below : l < 2 ^ n
  pub r_below : r < 2 ^ n
  pub l_some : l ≡ 0 → ⊥
  pub r_some : r ≡ 0 → ⊥

pub sound : (n f l r : ℕ) → sentence_cause n f l r ≡ 0 → Sound n f l r
unfolding sentence_cause composes is_partition within
sound n f l r h =
    let a = cause_none _ 4 _ (λ z. omega arith) h in
    let range = not_no (terminals_in_range n) a.0 in
    let c = not_no (composes n f l r) (cause_none _ 2 _ (λ z. omega arith) a.1).0 in
    let part : is_partition n f l r ≡ true = and_l _ _ c in
    record {
      range = range;
      twenty = range_twenty n range;
      part = part;
      rest = part_rest n f l r part;
      f_below = ltb-true f (2 ^ n) (and_l _ _ part);
      l_below = ltb-true l (2 ^ n) (and_l _ _ (and_r _ _ part));
      r_below = ltb-true r (2 ^ n) (and_l _ _ (and_r _ _ (and_r _ _ part)));
      l_some = eqb-false l 0 (not_e (eqb l 0) (and_l _ _ (and_r _ _ c)));
      r_some = eqb-false r 0 (not_e (eqb r 0) (and_r _ _ (and_r _ _ c)));
    }

pub composed_is : (n f l r : ℕ) → sentence_cause n f l r ≡ 0 → composed n f l r ≡ sentence n f r
unfolding composed
composed_is n f l r h = pick_yes _ _ _ (eq-eqb (sentence_cause n f l r) 0 h)

pub composed_none : (n f l r : ℕ) → (sentence_cause n f l r ≡ 0 → ⊥) → composed n f l r ≡ []
unfolding composed
composed_none n f l r h = pick_no _ _ _ (ne_eqb (sentence_cause n f l r) 0 h)
