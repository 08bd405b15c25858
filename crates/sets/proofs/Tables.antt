-- The laws of a table: its length, its entries, when two are one, and a loop that fills it. Assumes nothing.
use Prim.Native.Nat.{ℕ, zero, suc, ◌+◌, ◌<◌, suc-le-suc}
use mathlib.Core.Path.{◌≡◌, refl, sym, ap, ◌∙◌, subst}
use mathlib.Core.List.{List, ◌∷◌}
use native.Mathlib.Nat.{le_of_suc-le-suc, not-suc-le-zero, zero-lt-suc}
use native.Mathlib.Omega.{arith}
use lib.ListN.{length, get_or, set}
use lib.Seq.{ext_get_or, get_or-set_same, get_or-set_other}
use borrow.Author.Count.{below_more}
use Rattle.sets.specs.Tables.{table}

module _ {A : Type 0} where
  pub table_length : (n : ℕ) (one : ℕ → A) → length (table n one) ≡ n
  unfolding table
  table_length zero one = refl
  table_length (suc n) one = ap suc (table_length n (λ b. one (suc b)))

  pub table_at : (n : ℕ) (one : ℕ → A) (d : A) (b : ℕ) → b < n → get_or (table n one) b d ≡ one b
  unfolding table
  table_at zero one d b k = absurd (not-suc-le-zero k)
  table_at (suc n) one d zero k = refl
  table_at (suc n) one d (suc b) k = table_at n (λ b. one (suc b)) d b (le_of_suc-le-suc k)

  pub table_same : (n : ℕ) (one other : ℕ → A) → ((b : ℕ) → b < n → one b ≡ other b) → table n one ≡ table n other
  unfolding table
  table_same zero one other e = refl
  table_same (suc n) one other e =
      let rest = table_same n (λ b. one (suc b)) (λ b. other (suc b)) (λ b k. e (suc b) (suc-le-suc k)) in (λ i. e 0 (zero-lt-suc n) i ∷ rest i)

  -- a list of n values that agree with the function is its table
  pub table_is : (n : ℕ) (one : ℕ → A) (d : A) (l : List A) → length l ≡ n → ((j : ℕ) → j < n → get_or l j d ≡ one j) → l ≡ table n one
  table_is n one d l e f =
      ext_get_or d l (table n one) (e ∙ sym (table_length n one))
      (λ j k. f j (subst (λ (m : ℕ). j < m) e k) ∙ sym (table_at n one d j (subst (λ (m : ℕ). j < m) e k)))

-- a loop that fills a list with a function's values: one place more
pub filled_more : (g : ℕ → ℕ) (l : List ℕ) (j v : ℕ) → j < length l → v ≡ g j → ((i : ℕ) → i < j → get_or l i 0 ≡ g i)
    → (i : ℕ) → i < j + 1 → get_or (set l j v) i 0 ≡ g i
filled_more g l j v k e f =
    below_more (λ (i : ℕ). get_or (set l j v) i 0 ≡ g i) j (λ i h. get_or-set_other l j i v 0 (λ q. omega arith) ∙ f i h) (get_or-set_same l j v 0 k ∙ e)
