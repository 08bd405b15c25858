-- The closure: it is closed, it is the least closed set, and n - 1 turns reach it. Assumes nothing.
use Prim.Native.Nat.{ℕ, zero, suc, ◌+◌, ◌-◌, ◌^◌, ◌≤◌, ◌<◌}
use mathlib.Core.Path.{◌≡◌, refl, sym, ap, ◌∙◌, subst}
use mathlib.Core.Logic.{◌⊎◌, inl, inr, ⊎_elim}
use mathlib.Core.Bool.{true, false}
use native.Mathlib.Omega.{arith}
use lib.Dec.{eqb}
use borrow.Author.Tests.{eqb-true, eq-eqb}
use Rattle.sets.specs.Tests.{◌or◌}
use Rattle.sets.specs.Sets.{mem, count}
use Rattle.sets.proofs.Bools.{clash, and_l, and_r, and_i, or_l, or_r, or_e, not_i, not_e, no_by}
use Rattle.sets.proofs.Laws.{mask_lt, mem_mask, mem_below, mem_zero, count_le, count_more, subset_fewer}
use Rattle.plan.specs.declared.Plan.{Plan}
use Rattle.plan.specs.Plan.{hears}
use Rattle.closure.specs.FaultSet.{hears_enough}
use Rattle.closure.specs.Closure.{joins, grow, reached_after, reached}
use Rattle.closure.proofs.Faults.{hears_enough_mono}

pub joins_good : (p : Plan) (faulty s b : ℕ) → joins p faulty s b ≡ true → mem b faulty ≡ false
unfolding joins
joins_good p faulty s b h = not_e (mem b faulty) (and_l _ _ h)

pub joins_why : (p : Plan) (faulty s b : ℕ) → joins p faulty s b ≡ true → (hears p b p.source ≡ true) ⊎ (hears_enough p b s ≡ true)
unfolding joins
joins_why p faulty s b h = or_e _ _ (and_r _ _ h)

pub joins_source : (p : Plan) (faulty s b : ℕ) → mem b faulty ≡ false → hears p b p.source ≡ true → joins p faulty s b ≡ true
unfolding joins
joins_source p faulty s b g h = and_i _ _ (not_i g) (or_l _ _ h)

pub joins_enough : (p : Plan) (faulty s b : ℕ) → mem b faulty ≡ false → hears_enough p b s ≡ true → joins p faulty s b ≡ true
unfolding joins
joins_enough p faulty s b g h = and_i _ _ (not_i g) (or_r _ _ h)

pub joins_mono : (p : Plan) (faulty s t b : ℕ) → ((a : ℕ) → a < p.n → mem a s ≡ true → mem a t ≡ true)
    → joins p faulty s b ≡ true → joins p faulty t b ≡ true
joins_mono p faulty s t b i h =
    ⊎_elim (joins_source p faulty t b (joins_good p faulty s b h))
    (λ m. joins_enough p faulty t b (joins_good p faulty s b h) (hears_enough_mono p b s t i m)) (joins_why p faulty s b h)

module _ (p : Plan) (faulty : ℕ) where
  grow_mem : (s b : ℕ) → b < p.n → mem b (grow p faulty s) ≡ mem b s or joins p faulty s b
  unfolding grow
  grow_mem s b k = mem_mask p.n b (λ b. mem b s or joins p faulty s b) k

  pub after_below : (k : ℕ) → reached_after p faulty k < 2 ^ p.n
  unfolding reached_after grow
  after_below zero = mask_lt p.n (λ b. eqb b p.source)
  after_below (suc k) = mask_lt p.n (λ b. mem b (reached_after p faulty k) or joins p faulty (reached_after p faulty k) b)

  -- a member of a turn is in the next, and so is whoever joins; there are no others
  pub after_keeps : (k b : ℕ) → mem b (reached_after p faulty k) ≡ true → mem b (reached_after p faulty (suc k)) ≡ true
  unfolding reached_after
  after_keeps k b h =
      grow_mem (reached_after p faulty k) b (mem_below p.n b (reached_after p faulty k) (after_below k) h) ∙ or_l _ _ h

  pub after_joins : (k b : ℕ) → b < p.n → joins p faulty (reached_after p faulty k) b ≡ true → mem b (reached_after p faulty (suc k)) ≡ true
  unfolding reached_after
  after_joins k b l h = grow_mem (reached_after p faulty k) b l ∙ or_r _ _ h

  pub after_why : (k b : ℕ) → b < p.n → mem b (reached_after p faulty (suc k)) ≡ true
      → (mem b (reached_after p faulty k) ≡ true) ⊎ (joins p faulty (reached_after p faulty k) b ≡ true)
  unfolding reached_after
  after_why k b l h = or_e _ _ (sym (grow_mem (reached_after p faulty k) b l) ∙ h)

  pub first_only : (b : ℕ) → b < p.n → mem b (reached_after p faulty 0) ≡ true → b ≡ p.source
  unfolding reached_after
  first_only b l h = eqb-true b p.source (sym (mem_mask p.n b (λ b. eqb b p.source) l) ∙ h)

  pub after_source : p.source < p.n → (k : ℕ) → mem p.source (reached_after p faulty k) ≡ true
  unfolding reached_after
  after_source l zero = mem_mask p.n p.source (λ b. eqb b p.source) l ∙ eq-eqb p.source p.source refl
  after_source l (suc k) = after_keeps k p.source (after_source l k)

  -- every member is good
  pub after_good : mem p.source faulty ≡ false → (k b : ℕ) → mem b (reached_after p faulty k) ≡ true → mem b faulty ≡ false
  after_good g zero b h =
      subst (λ (x : ℕ). mem x faulty ≡ false) (sym (first_only b (mem_below p.n b (reached_after p faulty 0) (after_below 0) h) h)) g
  after_good g (suc k) b h =
      ⊎_elim (after_good g k b) (joins_good p faulty (reached_after p faulty k) b)
      (after_why k b (mem_below p.n b (reached_after p faulty (suc k)) (after_below (suc k)) h) h)

  -- any set that has the source and whoever joins it has every turn
  pub after_least : (s : ℕ) → mem p.source s ≡ true → ((b : ℕ) → b < p.n → joins p faulty s b ≡ true → mem b s ≡ true)
      → (k b : ℕ) → mem b (reached_after p faulty k) ≡ true → mem b s ≡ true
  after_least s g c zero b h =
      subst (λ (x : ℕ). mem x s ≡ true) (sym (first_only b (mem_below p.n b (reached_after p faulty 0) (after_below 0) h) h)) g
  after_least s g c (suc k) b h =
      let l = mem_below p.n b (reached_after p faulty (suc k)) (after_below (suc k)) h in
      ⊎_elim (after_least s g c k b)
      (λ j. c b l (joins_mono p faulty (reached_after p faulty k) s b (λ a m e. after_least s g c k a e) j)) (after_why k b l h)

  -- ---- the growth stops: each turn is the one before, or has at least k + 2 members

  abbrev pub members : ℕ → ℕ
  members k = count p.n (λ b. mem b (reached_after p faulty k))

  grows : (k : ℕ) → (reached_after p faulty k ≡ reached_after p faulty (suc k)) ⊎ (members k < members (suc k))
  grows k =
      subset_fewer p.n (reached_after p faulty k) (reached_after p faulty (suc k)) (after_below k) (after_below (suc k))
      (λ b l h. after_keeps k b h)

  one_member : p.source < p.n → 0 < members 0
  one_member l =
      let t : count p.n (λ b. mem b 0) < count p.n (λ b. mem b (reached_after p faulty 0)) =
      count_more p.n (λ b. mem b 0) (λ b. mem b (reached_after p faulty 0)) (λ b k h. clash h (mem_zero b)) p.source l
      (mem_zero p.source) (after_source l 0) in
      omega arith

  pub stops : p.source < p.n → (k : ℕ) → (reached_after p faulty k ≡ reached_after p faulty (suc k)) ⊎ (k + 2 ≤ members (suc k))
  unfolding reached_after
  stops l zero = ⊎_elim (λ e. inl e) (λ m. let o = one_member l in inr (omega arith)) (grows zero)
  stops l (suc k) = ⊎_elim (λ e. inl (again e)) (λ m. ⊎_elim (λ e. inl e) (λ g. inr (omega arith)) (grows (suc k))) (stops l k)
    where
      again : reached_after p faulty k ≡ reached_after p faulty (suc k) → reached_after p faulty (suc k) ≡ reached_after p faulty (suc (suc k))
      again e = ap (grow p faulty) e

  -- ---- the closure

  pub closed_turn : p.source < p.n → reached p faulty ≡ reached_after p faulty (suc (p.n - 1))
  unfolding reached
  closed_turn l =
      ⊎_elim (λ e. e)
      (λ m. absurd (omega (arith, count_le p.n (λ b. mem b (reached_after p faulty (suc (p.n - 1)))))))
      (stops l (p.n - 1))

  -- it is closed
  pub reached_closed : p.source < p.n → (b : ℕ) → b < p.n → joins p faulty (reached p faulty) b ≡ true → mem b (reached p faulty) ≡ true
  unfolding reached
  reached_closed l b k h = subst (λ (s : ℕ). mem b s ≡ true) (sym (closed_turn l)) (after_joins (p.n - 1) b k h)

  pub reached_source : p.source < p.n → mem p.source (reached p faulty) ≡ true
  unfolding reached
  reached_source l = after_source l (p.n - 1)

  pub reached_below : reached p faulty < 2 ^ p.n
  unfolding reached
  reached_below = after_below (p.n - 1)

  pub reached_good : mem p.source faulty ≡ false → (b : ℕ) → mem b (reached p faulty) ≡ true → mem b faulty ≡ false
  unfolding reached
  reached_good g b h = after_good g (p.n - 1) b h

  -- it is the least closed set
  pub reached_least : (s : ℕ) → mem p.source s ≡ true → ((b : ℕ) → b < p.n → joins p faulty s b ≡ true → mem b s ≡ true)
      → (b : ℕ) → mem b (reached p faulty) ≡ true → mem b s ≡ true
  unfolding reached
  reached_least s g c b h = after_least s g c (p.n - 1) b h

  -- n - 1 turns reach all that any number of turns reaches
  pub reached_all : p.source < p.n → (k b : ℕ) → mem b (reached_after p faulty k) ≡ true → mem b (reached p faulty) ≡ true
  reached_all l k b h = after_least (reached p faulty) (reached_source l) (reached_closed l) k b h

-- the more are faulty, the fewer does a notice reach
pub reached_shrinks : (p : Plan) → p.source < p.n → (a b : ℕ) → ((i : ℕ) → mem i a ≡ true → mem i b ≡ true)
    → (c : ℕ) → mem c (reached p b) ≡ true → mem c (reached p a) ≡ true
reached_shrinks p k a b sub = reached_least p b (reached p a) (reached_source p a k) joined
  where
    joined : (d : ℕ) → d < p.n → joins p b (reached p a) d ≡ true → mem d (reached p a) ≡ true
    joined d l j =
        let good : mem d a ≡ false = no_by (λ m. clash (sub d m) (joins_good p b (reached p a) d j)) in
        reached_closed p a k d l
        (⊎_elim (joins_source p a (reached p a) d good) (joins_enough p a (reached p a) d good) (joins_why p b (reached p a) d j))
