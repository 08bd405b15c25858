-- The verdict's witness is the least of all, the witness check accepts it, and whatever the check accepts fails the plan. Assumes nothing.
use Prim.Native.Nat.{ℕ, zero, suc, ◌+◌, ◌^◌, ◌≤◌, ◌<◌}
use mathlib.Core.Path.{◌≡◌, refl, sym, ap, ◌∙◌, subst}
use mathlib.Core.Logic.{inl, inr, ⊎_elim}
use mathlib.Core.Bool.{Bool, true, false, not}
use native.Mathlib.Nat.{eq-or-lt_of_le, le_of_suc-le-suc, not-suc-le-zero, le_refl}
use native.Mathlib.Omega.{arith}
use lib.Dec.{eqb, ltb}
use borrow.Author.Tests.{eqb-true, eqb-false, ne_eqb, ltb-true, ltb-false, lt-ltb}
use Rattle.sets.specs.Tests.{◌and◌, ◌implies◌}
use Rattle.sets.specs.Sets.{bit, mem, size, within, outside, is_partition}
use Rattle.sets.proofs.Bools.{clash, decide, and_l, and_r, and_i, not_i, not_e, no_by, implies_i, implies_e, pick_case}
use Rattle.sets.proofs.Laws.{mask_lt, mem_mask, mem_zero, all_at, all_i, some_member}
use Rattle.sets.proofs.Partition.{rest_one}
use Rattle.plan.specs.declared.Plan.{Plan}
use Rattle.plan.specs.Plan.{hears}
use Rattle.closure.specs.FaultSet.{hears_enough, is_fault_set}
use Rattle.closure.specs.Closure.{joins, reached, cut_off}
use Rattle.closure.specs.Verdict.{defeats, Found, none, found, better, best_below, Ahead, verdict_of, verdict, Fails, accepts}
use Rattle.closure.proofs.Faults.{fault_below, fault_source}
use Rattle.closure.proofs.Growth.{joins_good, joins_why, joins_source, joins_enough, reached_closed, reached_source, reached_below, reached_good, reached_least}

-- ---- the cut-off terminals

module _ (p : Plan) (faulty : ℕ) where
  outside_mem : (l b : ℕ) → b < p.n → mem b (outside p.n faulty l) ≡ not (mem b faulty) and not (mem b l)
  outside_mem l b k = mem_mask p.n b (λ b. not (mem b faulty) and not (mem b l)) k

  pub cut_below : cut_off p faulty < 2 ^ p.n
  unfolding cut_off
  cut_below = mask_lt p.n (λ b. not (mem b faulty) and not (mem b (reached p faulty)))

  pub cut_good : (b : ℕ) → b < p.n → mem b (cut_off p faulty) ≡ true → mem b faulty ≡ false
  unfolding cut_off
  cut_good b k h = not_e (mem b faulty) (and_l _ _ (sym (outside_mem (reached p faulty) b k) ∙ h))

  pub cut_unreached : (b : ℕ) → b < p.n → mem b (cut_off p faulty) ≡ true → mem b (reached p faulty) ≡ false
  unfolding cut_off
  cut_unreached b k h = not_e (mem b (reached p faulty)) (and_r _ _ (sym (outside_mem (reached p faulty) b k) ∙ h))

  pub cut_is : (b : ℕ) → b < p.n → mem b faulty ≡ false → mem b (reached p faulty) ≡ false → mem b (cut_off p faulty) ≡ true
  unfolding cut_off
  cut_is b k g u = outside_mem (reached p faulty) b k ∙ and_i _ _ (not_i g) (not_i u)

  -- where nothing is cut off, every good terminal is reached
  pub reached_of_none : cut_off p faulty ≡ 0 → (b : ℕ) → b < p.n → mem b faulty ≡ false → mem b (reached p faulty) ≡ true
  reached_of_none e b k g =
      ⊎_elim (λ r. r) (λ u. clash (cut_is b k g u) (ap (mem b) e ∙ mem_zero b)) (decide (mem b (reached p faulty)))

-- ---- what defeats a plan

pub defeats_fault : (p : Plan) (s : ℕ) → defeats p s ≡ true → is_fault_set p s ≡ true
unfolding defeats
defeats_fault p s h = and_l _ _ h

pub defeats_cuts : (p : Plan) (s : ℕ) → defeats p s ≡ true → cut_off p s ≡ 0 → ⊥
unfolding defeats
defeats_cuts p s h = eqb-false (cut_off p s) 0 (not_e (eqb (cut_off p s) 0) (and_r _ _ h))

pub defeats_i : (p : Plan) (s : ℕ) → is_fault_set p s ≡ true → (cut_off p s ≡ 0 → ⊥) → defeats p s ≡ true
unfolding defeats
defeats_i p s h z = and_i _ _ h (not_i (ne_eqb (cut_off p s) 0 z))

pub undefeated : (p : Plan) (s : ℕ) → is_fault_set p s ≡ true → defeats p s ≡ false → cut_off p s ≡ 0
unfolding defeats
undefeated p s h d =
    ⊎_elim (λ e. eqb-true (cut_off p s) 0 e) (λ e. clash (and_i _ _ h (not_i e)) d) (decide (eqb (cut_off p s) 0))

-- ---- the least

-- of the sets below m: none defeats the plan, or the one found does and is ahead of all that do
unfoldable pub IsBest : Plan → ℕ → Found → Type 0
IsBest p m none = (s : ℕ) → s < m → defeats p s ≡ false
IsBest p m (found b) = (b < m) × (defeats p b ≡ true) × ((s : ℕ) → s < m → defeats p s ≡ true → Ahead p b s)

-- a claim about the sets below m + 1 is one about those below m, and m
up_to_lem : (m : ℕ) (Q : ℕ → Type 0) → ((s : ℕ) → s < m → Q s) → Q m → (s : ℕ) → s < suc m → Q s
up_to_lem m Q f q s k = ⊎_elim (λ e. subst Q (sym e) q) (λ l. f s l) (eq-or-lt_of_le (le_of_suc-le-suc k))

better_best : (p : Plan) (m : ℕ) (best : Found) → IsBest p m best → IsBest p (suc m) (better p best m)
unfolding IsBest better Ahead
better_best p m none h =
    pick_case (IsBest p (suc m)) (defeats p m) (found m) none
    (λ d. (
      omega arith,
      d,
      up_to_lem m (λ s. defeats p s ≡ true → Ahead p m s) (λ s k e. clash e (h s k)) (λ e. inr (refl, le_refl m)),
    ))
    (λ d. up_to_lem m (λ s. defeats p s ≡ false) h d)
better_best p m (found b) h =
    pick_case (IsBest p (suc m)) (defeats p m and ltb (size p.n m) (size p.n b)) (found m) (found b)
    (λ d.
    let l : size p.n m < size p.n b = ltb-true (size p.n m) (size p.n b) (and_r _ _ d) in (
      omega arith,
      and_l _ _ d,
      up_to_lem m (λ s. defeats p s ≡ true → Ahead p m s)
          (λ s k e. ⊎_elim (λ a. inl (omega arith)) (λ a. inl (omega arith)) (h.2 s k e))
          (λ e. inr (refl, le_refl m)),
    ))
    (λ d. (
      (let k : b < m = h.0 in omega arith),
      h.1,
      up_to_lem m (λ s. defeats p s ≡ true → Ahead p b s) h.2 (λ e. last e (no_by (λ t. clash (and_i _ _ e t) d))),
    ))
  where
    last : defeats p m ≡ true → ltb (size p.n m) (size p.n b) ≡ false → Ahead p b m
    last e t =
        let k : b < m = h.0 in
        let l : size p.n b ≤ size p.n m = ltb-false (size p.n m) (size p.n b) t in
        ⊎_elim (λ q. inr (q, omega arith)) (λ q. inl q) (eq-or-lt_of_le l)

pub best_below_lem : (p : Plan) (m : ℕ) → IsBest p m (best_below p m)
unfolding best_below IsBest
best_below_lem p zero = λ s k. absurd (not-suc-le-zero k)
best_below_lem p (suc m) = better_best p m (best_below p m) (best_below_lem p m)

-- ---- the verdict

defeats_below : (p : Plan) (s : ℕ) → defeats p s ≡ true → s < 2 ^ p.n
defeats_below p s h = fault_below p s (defeats_fault p s h)

-- pass: no fault set leaves a terminal cut off
pub verdict_pass : (p : Plan) → (verdict p).passed ≡ true → (s : ℕ) → is_fault_set p s ≡ true → cut_off p s ≡ 0
unfolding verdict verdict_of IsBest
verdict_pass p h s i = undefeated p s i (go (best_below p (2 ^ p.n)) (best_below_lem p (2 ^ p.n)) h)
  where
    go : (best : Found) → IsBest p (2 ^ p.n) best → (verdict_of p best).passed ≡ true → defeats p s ≡ false
    go none b e = b s (fault_below p s i)
    go (found t) b e = clash e refl

pub verdict_fail : (p : Plan) → (verdict p).passed ≡ false → Fails p (verdict p)
unfolding verdict verdict_of IsBest
verdict_fail p h = go (best_below p (2 ^ p.n)) (best_below_lem p (2 ^ p.n)) h
  where
    go : (best : Found) → IsBest p (2 ^ p.n) best → (verdict_of p best).passed ≡ false → Fails p (verdict_of p best)
    go none b e = clash refl e
    go (found t) b e = record { beaten = b.1; l_is = refl; r_is = refl; least = λ s d. b.2 s (defeats_below p s d) d }

-- it passes where no fault set cuts anybody off
pub pass_by : (p : Plan) → ((s b : ℕ) → is_fault_set p s ≡ true → b < p.n → mem b (cut_off p s) ≡ true → ⊥) → (verdict p).passed ≡ true
pass_by p nobody =
    ⊎_elim (λ t. t)
    (λ t.
    let w = (verdict_fail p t).beaten in
    let m = some_member p.n (cut_off p (verdict p).f) (cut_below p (verdict p).f) (defeats_cuts p (verdict p).f w) in
    absurd (nobody (verdict p).f m.0 (defeats_fault p (verdict p).f w) m.1 m.2))
    (decide (verdict p).passed)

-- a passed plan returns three empty sets
pub pass_empty : (p : Plan) → (verdict p).passed ≡ true → ((verdict p).f ≡ 0) × ((verdict p).l ≡ 0) × ((verdict p).r ≡ 0)
unfolding verdict verdict_of
pass_empty p = go (best_below p (2 ^ p.n))
  where
    go : (best : Found) → (verdict_of p best).passed ≡ true → ((verdict_of p best).f ≡ 0) × ((verdict_of p best).l ≡ 0) × ((verdict_of p best).r ≡ 0)
    go none e = (refl, refl, refl)
    go (found t) e = clash e refl

-- ---- the witness check

pub one_of : (a b c : Bool) → eqb (bit a + bit b + bit c) 1 ≡ true
    → (a ≡ false → b ≡ false → c ≡ true) × (c ≡ true → a ≡ false) × (c ≡ true → b ≡ false)
one_of true true true e = clash e refl
one_of true true false e = clash e refl
one_of true false true e = clash e refl
one_of true false false e = (λ x y. clash refl x, λ x. clash x refl, λ x. clash x refl)
one_of false true true e = clash e refl
one_of false true false e = (λ x y. clash refl y, λ x. clash x refl, λ x. clash x refl)
one_of false false true e = (λ x y. refl, λ x. refl, λ x. refl)
one_of false false false e = clash e refl

-- the parts of what the check accepts
pub record Accepted (p : Plan) (f l r : ℕ) : Type 0 where
  pub fault : is_fault_set p f ≡ true
  pub source_in : mem p.source l ≡ true
  pub r_below : r < 2 ^ p.n
  pub r_some : r ≡ 0 → ⊥
  pub r_rest : (b : ℕ) → b < p.n → mem b f ≡ false → mem b l ≡ false → mem b r ≡ true
  pub r_good : (b : ℕ) → b < p.n → mem b r ≡ true → mem b f ≡ false
  pub r_out : (b : ℕ) → b < p.n → mem b r ≡ true → mem b l ≡ false
  pub no_source : (b : ℕ) → b < p.n → mem b r ≡ true → hears p b p.source ≡ false
  pub no_enough : (b : ℕ) → b < p.n → mem b r ≡ true → hears_enough p b l ≡ false

pub accepts_e : (p : Plan) (f l r : ℕ) → accepts p f l r ≡ true → Accepted p f l r
unfolding accepts is_partition within
accepts_e p f l r h = record {
  fault = and_l _ _ (and_r _ _ (and_r _ _ (and_r _ _ h)));
  source_in = and_l _ _ (and_r _ _ h);
  r_below = ltb-true r (2 ^ p.n) (and_l _ _ (and_r _ _ (and_r _ _ (and_l _ _ h))));
  r_some = eqb-false r 0 (not_e (eqb r 0) (and_l _ _ (and_r _ _ (and_r _ _ h))));
  r_rest = λ b k. (one b k).0;
  r_good = λ b k. (one b k).1;
  r_out = λ b k. (one b k).2;
  no_source = λ b k m. not_e (hears p b p.source) (and_l _ _ (unheard b k m));
  no_enough = λ b k m. not_e (hears_enough p b l) (and_r _ _ (unheard b k m));
}
  where
    one : (b : ℕ) → b < p.n
        → (mem b f ≡ false → mem b l ≡ false → mem b r ≡ true) × (mem b r ≡ true → mem b f ≡ false) × (mem b r ≡ true → mem b l ≡ false)
    one b k =
        one_of (mem b f) (mem b l) (mem b r)
        (all_at p.n (λ b. eqb (bit (mem b f) + bit (mem b l) + bit (mem b r)) 1) (and_r _ _ (and_r _ _ (and_r _ _ (and_l _ _ h)))) b k)

    unheard : (b : ℕ) → b < p.n → mem b r ≡ true → not (hears p b p.source) and not (hears_enough p b l) ≡ true
    unheard b k m =
        implies_e _ _
        (all_at p.n (λ b. mem b r implies (not (hears p b p.source) and not (hears_enough p b l))) (and_r _ _ (and_r _ _ (and_r _ _ (and_r _ _ h)))) b k) m

-- whatever the check accepts fails the plan: L is closed, so it has all of the closure, and R is cut off
pub accepted_defeats : (p : Plan) (f l r : ℕ) → accepts p f l r ≡ true → defeats p f ≡ true
accepted_defeats p f l r h =
    let a = accepts_e p f l r h in
    let w = some_member p.n r a.r_below a.r_some in
    defeats_i p f a.fault
    (λ z.
    clash (cut_is p f w.0 w.1 (a.r_good w.0 w.1 w.2) (out a w.0 w.1 w.2)) (ap (mem w.0) z ∙ mem_zero w.0))
  where
    closed : Accepted p f l r → (b : ℕ) → b < p.n → joins p f l b ≡ true → mem b l ≡ true
    closed a b k j =
        ⊎_elim (λ m. m)
        (λ m.
        let in_r = a.r_rest b k (joins_good p f l b j) m in
        ⊎_elim (λ s. clash s (a.no_source b k in_r)) (λ s. clash s (a.no_enough b k in_r)) (joins_why p f l b j))
        (decide (mem b l))

    out : Accepted p f l r → (b : ℕ) → b < p.n → mem b r ≡ true → mem b (reached p f) ≡ false
    out a b k m = no_by (λ e. clash (reached_least p f l a.source_in (closed a) b e) (a.r_out b k m))

-- the closure and what it cuts off are accepted
pub defeats_accepted : (p : Plan) → p.source < p.n → (s : ℕ) → defeats p s ≡ true → accepts p s (reached p s) (cut_off p s) ≡ true
unfolding accepts is_partition within cut_off
defeats_accepted p l s d =
    let i = defeats_fault p s d in
    and_i _ _
    (and_i _ _ (lt-ltb s (2 ^ p.n) (fault_below p s i))
    (and_i _ _ (lt-ltb (reached p s) (2 ^ p.n) (reached_below p s))
    (and_i _ _ (lt-ltb (cut_off p s) (2 ^ p.n) (cut_below p s))
    (all_i p.n (λ b. eqb (bit (mem b s) + bit (mem b (reached p s)) + bit (mem b (cut_off p s))) 1)
    (λ b k.
    rest_one (mem b s) (mem b (reached p s)) (mem b (cut_off p s)) (reached_good p s (fault_source p s i) b)
    (outside_mem p s (reached p s) b k))))))
    (and_i _ _ (reached_source p s l)
    (and_i _ _ (not_i (ne_eqb (cut_off p s) 0 (defeats_cuts p s d)))
    (and_i _ _ i
    (all_i p.n (λ b. mem b (cut_off p s) implies (not (hears p b p.source) and not (hears_enough p b (reached p s))))
    (λ b k.
    implies_i _ _
    (λ m.
    let g = cut_good p s b k m in
    let u = cut_unreached p s b k m in
    and_i _ _
    (not_i (no_by (λ e. clash (reached_closed p s l b k (joins_source p s (reached p s) b g e)) u)))
    (not_i (no_by (λ e. clash (reached_closed p s l b k (joins_enough p s (reached p s) b g e)) u)))))))))

-- the verdict's own witness is accepted
pub witness_accepted : (p : Plan) → p.source < p.n → (verdict p).passed ≡ false → accepts p (verdict p).f (verdict p).l (verdict p).r ≡ true
witness_accepted p l h =
    let w = verdict_fail p h in
    subst (λ (x : ℕ). accepts p (verdict p).f x (verdict p).r ≡ true) (sym w.l_is)
    (subst (λ (x : ℕ). accepts p (verdict p).f (reached p (verdict p).f) x ≡ true) (sym w.r_is) (defeats_accepted p l (verdict p).f w.beaten))
