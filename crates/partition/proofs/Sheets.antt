-- How each terminal stands, and what is refused, by the code's tests. Assumes nothing.
use Prim.Native.Nat.{ℕ, zero, suc, ◌+◌, ◌-◌, ◌≤◌, ◌<◌}
use mathlib.Core.Path.{◌≡◌, refl, sym, ap, ◌∙◌, subst}
use mathlib.Core.Bool.{Bool, true, false, not, cond, ◌&&◌}
use mathlib.Core.List.{List, [], ◌∷◌}
use native.Mathlib.Nat.{lt_of_le_of_lt}
use native.Mathlib.Omega.{arith}
use lib.Dec.{eqb, ltb, lit<}
use lib.IntN.{ℤ, pos, negsuc, ◌-ℤ◌}
use lib.ListN.{length, get_or, replicate}
use lib.Pointwise.{pointwise}
use lib.Signed.{mag}
use mir.Syntax.{w32}
use mir.Val.{SFits, to_z}
use mir.Facts.{to_z-of_z}
use borrow.Author.Tests.{eqb-true, eqb-false, eq-eqb, ne_eqb, lt-ltb, le-ltb, leb-true}
use Rattle.std.specs.Prelude.{Result, Ok, Err}
use Rattle.std.specs.Result.{IsErrAnd}
use Rattle.partition.proofs.Laws.{err_of}
use Rattle.sets.specs.Tests.{◌and◌, pick}
use Rattle.sets.specs.Causes.{first_cause}
use Rattle.sets.specs.Sets.{all}
use Rattle.sets.specs.Tables.{table}
use Rattle.sets.proofs.Bools.{clash, and_l, and_r, and_i, and_no_l, and_no_r, not_i, pick_yes, pick_no, pick_case}
use Rattle.sets.proofs.Laws.{all_i, all_at}
use Rattle.quorum.specs.declared.BoundKind.{BoundKind}
use Rattle.quorum.specs.declared.BoundKind.TheVariants.{Most, Groups}
use Rattle.quorum.specs.declared.Bound.{Bound}
use Rattle.quorum.specs.Quorum.{most_terminals, most_groups, group_at, listed, in_range, listed_sound, groups_sound, others}
use Rattle.plan.specs.declared.Plan.{Plan}
use Rattle.plan.specs.declared.Unsound.{Unsound}
use Rattle.plan.specs.declared.Unsound.TheVariants as unsound
use Rattle.plan.specs.Plan.{number_of, hears, links_sound, cause_within, cause_of}
use Rattle.plan.proofs.Laws.{sound}
use Rattle.closure.specs.Margin.{fewest, has_margin, bound_of, margin}
use Rattle.closure.proofs.Margin.{heard_few, fewest_least, margin_is}
use Rattle.partition.specs.declared.Standing.{Standing}
use Rattle.partition.specs.declared.Standing.TheVariants.{Source, Direct, Margin, Absent}
use Rattle.partition.specs.declared.MarginsError.{MarginsError}
use Rattle.partition.specs.declared.MarginsError.TheVariants.{WrongRange, WrongLink}
use Rattle.partition.specs.Margins.{standing_of, is_most, groupless, margins_cause, Told, all_absent, margins_of, told, of_bounded_plan}

-- ---- how one terminal stands

module _ (p : Plan) (b : ℕ) where
  pub stands_absent : p.n ≤ b → Absent ≡ standing_of p b
  unfolding standing_of
  stands_absent h = sym (pick_no _ _ _ (le-ltb b p.n h))

  module _ (k : b < p.n) where
    pub stands_source : b ≡ p.source → Source ≡ standing_of p b
    unfolding standing_of
    stands_source e = sym (pick_yes _ _ _ (lt-ltb b p.n k) ∙ pick_yes _ _ _ (eq-eqb b p.source e))

    module _ (z : b ≡ p.source → ⊥) where
      pub stands_direct_lem : hears p b p.source ≡ true → Direct ≡ standing_of p b
      unfolding standing_of
      stands_direct_lem h = sym (pick_yes _ _ _ (lt-ltb b p.n k) ∙ pick_no _ _ _ (ne_eqb b p.source z) ∙ pick_yes _ _ _ h)

      pub stands_margin : hears p b p.source ≡ false → (m : ℤ) → m ≡ margin p b → Margin m ≡ standing_of p b
      unfolding standing_of
      stands_margin h m e =
          ap Margin e ∙ sym (pick_yes _ _ _ (lt-ltb b p.n k) ∙ pick_no _ _ _ (ne_eqb b p.source z) ∙ pick_no _ _ _ h)

      pub has_margin_lem : hears p b p.source ≡ false → has_margin p b ≡ true
      unfolding has_margin
      has_margin_lem h = and_i _ _ (not_i (ne_eqb b p.source z)) (not_i h)

  -- what it hears at the least, less f + 1
  pub margin_by : (f heard : ℕ) (m : ℤ) → p.bound.kind ≡ Most f → heard ≡ fewest p b → m ≡ pos heard -ℤ pos (f + 1) → m ≡ margin p b
  unfolding margin
  margin_by f heard m k e q = q ∙ (λ i. pos (e i) -ℤ pos (bound_of (sym k i) + 1))

  pub fewest_few : fewest p b ≤ p.n
  fewest_few =
      let w = (fewest_least p b).some in subst (λ (x : ℕ). x ≤ p.n) (sym w.2) (heard_few p b w.0)

-- ---- the difference of two small counts fits

pub small_count : (n : ℕ) → n ≤ 20 → to_z w32 n ≡ pos n
small_count n h = to_z-of_z {w = w32} {z = pos n} (record { sfits = lt_of_le_of_lt h (lit< tt) })

pub difference_fits : (a b : ℕ) → a ≤ 20 → b ≤ 20 → SFits w32 (pos a -ℤ pos b)
difference_fits a zero h k = record { sfits = omega arith }
difference_fits a (suc b) h k = record { sfits = go (ltb a (suc b)) }
  where
    go : (t : Bool) → mag (cond t (negsuc (suc b - suc a)) (pos (a - suc b))) < 2147483648
    go true = omega arith
    go false = omega arith

-- ---- what is refused

-- a record that lists a group is refused 4 in any case
pub grouped_cause : (p : Plan) → groupless p.bound ≡ false → margins_cause p ≡ 4
unfolding margins_cause first_cause pick
grouped_cause p e = go (not (in_range p.n p.source p.bound.kind)) (not (groupless p.bound)) (not_i e)
  where
    go : (a g : Bool) → g ≡ true → ◌≡◌ {A = ℕ} (pick a 4 (pick g 4 (pick (not (links_sound p)) 5 0))) 4
    go true g h = refl
    go false true h = refl
    go false false h = clash h refl

no_group : (bound : Bound) (f : ℕ) → bound.kind ≡ Most f → groupless bound ≡ true → (n source : ℕ) → groups_sound n source bound ≡ true
unfolding groupless groups_sound
no_group bound f m h n source =
    let kind = bound.kind in
    and_i _ _ (ap listed_sound m)
    (all_i most_groups (λ i. pick (ltb i (listed bound.kind)) (others n source (group_at bound i)) (eqb (group_at bound i) 0))
    (λ i k.
    pick_no _ _ _ (ap (λ (x : BoundKind). ltb i (listed x)) m ∙ le-ltb i 0 (omega arith)) ∙ all_at most_groups (λ i. eqb (group_at bound i) 0) (and_r _ _ h) i k))

-- of the others the causes are the plan's
pub groupless_cause : (p : Plan) (f : ℕ) → p.bound.kind ≡ Most f → groupless p.bound ≡ true → margins_cause p ≡ cause_of p
unfolding margins_cause cause_of cause_within first_cause pick in_range
groupless_cause p f m h =
    go (in_range p.n p.source p.bound.kind) (groupless p.bound) (ltb most_terminals p.n) (links_sound p) (groups_sound p.n p.source p.bound) h
    (no_group p.bound f m h p.n p.source) twenty
  where
    twenty : in_range p.n p.source p.bound.kind ≡ true → ltb most_terminals p.n ≡ false
    twenty y = le-ltb most_terminals p.n (leb-true p.n most_terminals (and_l _ _ (and_r _ _ y)))

    go : (a g t l s : Bool) → g ≡ true → s ≡ true → (a ≡ true → t ≡ false)
        → ◌≡◌ {A = ℕ} (pick (not a) 4 (pick (not g) 4 (pick (not l) 5 0))) (pick (not a) 4 (pick t 14 (pick (not l) 5 (pick (not s) 17 0))))
    go false g t l s x y z = refl
    go true false t l s x y z = clash x refl
    go true true true l s x y z = clash refl (z refl)
    go true true false l false x y z = clash y refl
    go true true false true true x y z = refl
    go true true false false true x y z = refl

-- 17 is never given
pub never_seventeen : (p : Plan) → margins_cause p ≡ 17 → ⊥
unfolding margins_cause first_cause pick
never_seventeen p = go (not (in_range p.n p.source p.bound.kind)) (not (groupless p.bound)) (not (links_sound p))
  where
    go : (a g l : Bool) → ◌≡◌ {A = ℕ} (pick a 4 (pick g 4 (pick l 5 0))) 17 → ⊥
    go true g l e = omega arith
    go false true l e = omega arith
    go false false true e = omega arith
    go false false false e = omega arith

-- ---- the answer

refuses : (e : MarginsError) → (told (Err e)).number ≡ 0 → ⊥
refuses WrongRange z = omega arith
refuses WrongLink z = omega arith

pub margins_refused : (p : Plan) (e : MarginsError) → (told (Err e)).number ≡ margins_cause p → told (Err e) ≡ margins_of p
unfolding margins_of
margins_refused p e q = absent e ∙ ap (λ (x : ℕ). record { number = x; places = all_absent }) q ∙ sym (pick_no _ _ _ (ne_eqb (margins_cause p) 0 (λ y. refuses e (q ∙ y))))
  where
    absent : (e : MarginsError) → ◌≡◌ {A = Told} (told (Err e)) (record { number = (told (Err e)).number; places = all_absent })
    absent WrongRange = refl
    absent WrongLink = refl

-- what refuses a plan with a bound f and no group, handed on as the answer
pub plan_refused : (p : Plan) (e : Unsound) (r : Result (List Standing) MarginsError) → IsErrAnd r (λ x. x ≡ of_bounded_plan e)
    → number_of (Err e) ≡ margins_cause p → told r ≡ margins_of p
plan_refused p unsound.WrongRange r k q = rw (err_of r _ k) (margins_refused p WrongRange q)
plan_refused p unsound.WrongLink r k q = rw (err_of r _ k) (margins_refused p WrongLink q)
plan_refused p unsound.WrongGroups r k q = absurd (never_seventeen p (sym q))

pub margins_known : (p : Plan) (places : List Standing) → places ≡ table most_terminals (standing_of p) → margins_cause p ≡ 0 → told (Ok places) ≡ margins_of p
unfolding margins_of
margins_known p places e q = ap (λ (l : List Standing). record { number = 0; places = l }) e ∙ sym (pick_yes _ _ _ (eq-eqb (margins_cause p) 0 q))

-- the code's own
and_code : (a b : Bool) → (a && b) ≡ a and b
unfolding ◌and◌
and_code true b = refl
and_code false b = refl

-- sixteen places are equal to so many empty ones where each is empty
pub all_empty : (n : ℕ) (l : List ℕ) → length l ≡ n → pointwise eqb l (replicate n 0) ≡ all n (λ i. eqb (get_or l i 0) 0)
unfolding all
all_empty zero [] e = refl
all_empty zero (x ∷ l) e = absurd (omega arith)
all_empty (suc n) [] e = absurd (omega arith)
all_empty (suc n) (x ∷ l) e = ap (λ (t : Bool). eqb x 0 && t) (all_empty n l (omega arith)) ∙ and_code (eqb x 0) (all n (λ i. eqb (get_or l i 0) 0))

-- a record with a bound f whose places are all empty, and one with a place that is not
module _ (p : Plan) (groups : List ℕ) (e : groups ≡ p.bound.groups) (f : ℕ) (m : p.bound.kind ≡ Most f) where
  pub groupless_i : all 16 (λ i. eqb (get_or groups i 0) 0) ≡ true → groupless p.bound ≡ true
  unfolding groupless group_at
  groupless_i h = and_i _ _ (ap is_most m) (ap (λ (l : List ℕ). all 16 (λ i. eqb (get_or l i 0) 0)) (sym e) ∙ h)

  pub groupless_no : all 16 (λ i. eqb (get_or groups i 0) 0) ≡ false → groupless p.bound ≡ false
  unfolding groupless group_at
  groupless_no h = and_no_r _ _ (ap (λ (l : List ℕ). all 16 (λ i. eqb (get_or l i 0) 0)) (sym e) ∙ h)

pub groups_no : (p : Plan) (count : ℕ) → p.bound.kind ≡ Groups count → groupless p.bound ≡ false
unfolding groupless
groups_no p count m = and_no_l _ _ (ap is_most m)

-- ---- for callers: what an answer says

cause_zero : (p : Plan) → margins_cause p ≡ 0 → (in_range p.n p.source p.bound.kind ≡ true) × (groupless p.bound ≡ true)
unfolding margins_cause first_cause pick
cause_zero p = go (in_range p.n p.source p.bound.kind) (groupless p.bound) (links_sound p)
  where
    go : (a g l : Bool) → ◌≡◌ {A = ℕ} (pick (not a) 4 (pick (not g) 4 (pick (not l) 5 0))) 0 → (a ≡ true) × (g ≡ true)
    go true true l e = (refl, refl)
    go true false l e = absurd (omega arith)
    go false g l e = absurd (omega arith)

groupless_e : (bound : Bound) → groupless bound ≡ true → is_most bound.kind and all most_groups (λ i. eqb (group_at bound i) 0) ≡ true
unfolding groupless
groupless_e bound h = h

-- a record that is not refused is a sound plan with a bound f
pub bounded_plan : (p : Plan) → margins_cause p ≡ 0 → (cause_of p ≡ 0) × ((f : ℕ) × (p.bound.kind ≡ Most f))
bounded_plan p e =
    let z = cause_zero p e in
    let k = most p.bound.kind refl (and_l _ _ (groupless_e p.bound z.1)) in
    (sym (groupless_cause p k.0 k.1 z.1) ∙ e, k)
  where
    most : (kind : BoundKind) → p.bound.kind ≡ kind → is_most kind ≡ true → (f : ℕ) × (p.bound.kind ≡ Most f)
    most (Most f) q h = (f, q)
    most (Groups c) q h = clash h refl

-- and its margins are small
pub margin_small : (p : Plan) → margins_cause p ≡ 0 → (b : ℕ) → mag (margin p b) ≤ 20
margin_small p e b =
    let w = bounded_plan p e in
    let s = sound p w.0 in
    let f = w.1.0 in
    let l : f < p.n = s.f_below f w.1.1 in
    let t = s.twenty in
    let q : bound_of p.bound.kind ≡ f = ap bound_of w.1.1 in
    subst (λ (z : ℤ). mag z ≤ 20) (sym (margin_is p b))
    (go (fewest p b) (bound_of p.bound.kind) (let h = fewest_few p b in let y : fewest p b ≤ 20 = omega arith in y) (let y : bound_of p.bound.kind < 20 = omega arith in y)
    (ltb (fewest p b) (suc (bound_of p.bound.kind))))
  where
    go : (a c : ℕ) → a ≤ 20 → c < 20 → (t : Bool) → mag (cond t (negsuc (suc c - suc a)) (pos (a - suc c))) ≤ 20
    go a c h k true = omega arith
    go a c h k false = omega arith

module _ (p : Plan) where
  pub sheet_known : (places : List Standing) → told (Ok places) ≡ margins_of p → (margins_cause p ≡ 0) × (places ≡ table most_terminals (standing_of p))
  unfolding margins_of
  sheet_known places e =
      pick_case (λ (x : Told). told (Ok places) ≡ x → (margins_cause p ≡ 0) × (places ≡ table most_terminals (standing_of p))) (eqb (margins_cause p) 0)
      (record { number = 0; places = table most_terminals (standing_of p) }) (record { number = margins_cause p; places = all_absent })
      (λ h q. (eqb-true (margins_cause p) 0 h, ap (λ (x : Told). x.places) q))
      (λ h q. absurd (eqb-false (margins_cause p) 0 h (sym (ap (λ (x : Told). x.number) q))))
      e

  pub sheet_refused : (o : MarginsError) → told (Err o) ≡ margins_of p → (told (Err o)).number ≡ margins_cause p
  unfolding margins_of
  sheet_refused o e =
      pick_case (λ (x : Told). told (Err o) ≡ x → (told (Err o)).number ≡ margins_cause p) (eqb (margins_cause p) 0)
      (record { number = 0; places = table most_terminals (standing_of p) }) (record { number = margins_cause p; places = all_absent })
      (λ h y. absurd (refuses o (ap (λ (x : Told). x.number) y)))
      (λ h y. ap (λ (x : Told). x.number) y)
      e
