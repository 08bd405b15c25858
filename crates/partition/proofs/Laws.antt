-- The laws of the verdict for its callers: what a pass and a fail mean. Assumes nothing.
use Prim.Native.Nat.{ℕ, ◌<◌, ◌^◌}
use mathlib.Core.Path.{◌≡◌, refl, sym, ap, ◌∙◌, subst}
use mathlib.Core.Bool.{Bool, true, false, not}
use native.Mathlib.Omega.{arith}
use lib.Dec.{eqb}
use borrow.Author.Tests.{eqb-true, eq-eqb, ne_eqb}
use Rattle.std.specs.Prelude.{Option, Some, None, Result, Ok, Err}
use Rattle.std.specs.Result.{IsErrAnd}
use Rattle.std.proofs.lemmas.Result.{err_from_is_err_and}
use Rattle.partition.specs.declared.Witness.{Witness}
use Rattle.partition.specs.declared.VerdictError.{VerdictError}
use Rattle.sets.specs.Tests.{◌and◌, pick}
use Rattle.sets.specs.Sets.{mem, mask}
use Rattle.sets.proofs.Bools.{pick_yes, pick_no, pick_case}
use Rattle.plan.specs.declared.Plan.{Plan}
use Rattle.plan.specs.declared.Unsound.{Unsound}
use Rattle.plan.specs.declared.Unsound.TheVariants.{WrongRange, WrongLink, WrongGroups}
use Rattle.plan.specs.Plan.{number_of, cause_within, cause_of, too_many}
use Rattle.plan.proofs.Laws.{sound, few_cause, within_sound}
use Rattle.closure.specs.Closure.{reached, cut_off}
use Rattle.closure.specs.Verdict.{Ahead, defeats, Found, none, found, best_below, verdict_of, verdict, accepts}
use Rattle.closure.proofs.Witness.{IsBest, best_below_lem, verdict_fail, witness_accepted}
use Rattle.partition.specs.Answer.{answered, of_plan, Reply, replied, reply_of}
use Rattle.closure.specs.Answer.{Answer, refused, judged, answer_within}
use Rattle.partition.specs.Search.{StandsFor}

-- the error that `?` handed on
pub err_of : {T E : Type 0} (r : Result T E) (x : E) → IsErrAnd r (λ y. y ≡ x) → r ≡ Err x
err_of r x k = let e = err_from_is_err_and r k in e.1 ∙ ap Err e.2

-- ---- what the search gives, read as a verdict

pub memory_passes : (p : Plan) (x : Found) → StandsFor None x → answered (Ok None) ≡ judged (verdict_of p x)
unfolding StandsFor judged verdict_of pick
memory_passes p none h = refl
memory_passes p (found b) h = absurd (cc)

pub memory_fails : (p : Plan) (f : ℕ) (x : Found) → StandsFor (Some f) x
    → (l r : ℕ) → l ≡ reached p f → r ≡ mask p.n (λ b. not (mem b f) and not (mem b l))
    → answered (Ok (Some (record { f = f; l = l; r = r }))) ≡ judged (verdict_of p x)
unfolding StandsFor judged verdict_of pick cut_off
memory_fails p f none h l r e q = absurd (cc)
memory_fails p f (found b) h l r e q = same (cc)
  where
    same : f ≡ b → answered (Ok (Some (record { f = f; l = l; r = r }))) ≡ judged (verdict_of p (found b))
    same z =
        let e' : l ≡ reached p b = e ∙ ap (reached p) z in
        let q' : r ≡ cut_off p b =
        q ∙ ap (λ (s : ℕ). mask p.n (λ i. not (mem i s) and not (mem i l))) z ∙ ap (λ (s : ℕ). mask p.n (λ i. not (mem i b) and not (mem i s))) e' in
        λ i. record { number = 0; failed = 1; f = z i; l = e' i; r = q' i }

pub memory_below : (p : Plan) (f : ℕ) → StandsFor (Some f) (best_below p (2 ^ p.n)) → f < 2 ^ p.n
unfolding StandsFor IsBest
memory_below p f = go (best_below p (2 ^ p.n)) (best_below_lem p (2 ^ p.n))
  where
    go : (x : Found) → IsBest p (2 ^ p.n) x → StandsFor (Some f) x → f < 2 ^ p.n
    go none b h = absurd (cc)
    go (found t) b h = let z : f ≡ t = cc in subst (λ (s : ℕ). s < 2 ^ p.n) (sym z) b.0

-- ---- the answer by the plan's cause, where the limit refuses nothing

module _ (most : ℕ) (p : Plan) (few : too_many most p ≡ false) where
  pub answer_judged : (a : Answer) → cause_of p ≡ 0 → a ≡ judged (verdict p) → a ≡ answer_within most p
  unfolding answer_within
  answer_judged a e q = q ∙ sym (pick_yes _ _ _ (eq-eqb (cause_within most p) 0 (few_cause most p few ∙ e)))

  pub answer_refused : (k : ℕ) → k ≡ cause_of p → (k ≡ 0 → ⊥) → refused k ≡ answer_within most p
  unfolding answer_within
  answer_refused k e z =
      let w : k ≡ cause_within most p = e ∙ sym (few_cause most p few) in
      ap refused w ∙ sym (pick_no _ _ _ (ne_eqb (cause_within most p) 0 (λ y. z (w ∙ y))))

  -- what refuses the plan, handed on as the answer
  pub plan_refused : (e : Unsound) (r : Result (Option Witness) VerdictError) → IsErrAnd r (λ x. x ≡ of_plan e) → number_of (Err e) ≡ cause_of p → answered r ≡ answer_within most p
  plan_refused WrongRange r k q = rw (err_of r _ k) (answer_refused 4 q (λ z. omega arith))
  plan_refused WrongLink r k q = rw (err_of r _ k) (answer_refused 5 q (λ z. omega arith))
  plan_refused WrongGroups r k q = rw (err_of r _ k) (answer_refused 17 q (λ z. omega arith))

-- ---- for callers

-- a fail is the theory's: its F defeats the plan, L and R are F's, and it is the least of all that do
pick_one : (b : Bool) → ◌≡◌ {A = ℕ} (pick b 0 1) 1 → b ≡ false
unfolding pick
pick_one true e = absurd (omega arith)
pick_one false e = refl

pick_zero : (b : Bool) → ◌≡◌ {A = ℕ} (pick b 0 1) 0 → b ≡ true
unfolding pick
pick_zero true e = refl
pick_zero false e = absurd (omega arith)

-- what a failed answer says: the plan is sound, its verdict is the theory's fail, and the witness check accepts F, L, R
pub record Failed (p : Plan) (a : Answer) : Type 0 where
  pub is_plan : cause_of p ≡ 0
  pub beaten : defeats p a.f ≡ true
  pub l_is : a.l ≡ reached p a.f
  pub r_is : a.r ≡ cut_off p a.f
  pub least : (s : ℕ) → defeats p s ≡ true → Ahead p a.f s
  pub checked : accepts p a.f a.l a.r ≡ true

pub answer_fails : (most : ℕ) (p : Plan) → (answer_within most p).failed ≡ 1 → Failed p (answer_within most p)
unfolding answer_within judged
answer_fails most p =
    pick_case (λ (a : Answer). a.failed ≡ 1 → Failed p a) (eqb (cause_within most p) 0) (judged (verdict p)) (refused (cause_within most p))
    (λ e h.
    let c = within_sound most p (eqb-true (cause_within most p) 0 e) in
    let v = pick_one (verdict p).passed h in
    let w = verdict_fail p v in
    record {
      is_plan = c;
      beaten = w.beaten;
      l_is = w.l_is;
      r_is = w.r_is;
      least = w.least;
      checked = witness_accepted p (sound p c).source_below v;
    })
    (λ e h. absurd (omega arith))

pub with_check : (most : ℕ) (p : Plan) (a : Answer) → a ≡ answer_within most p
    → (a ≡ answer_within most p) × (a.failed ≡ 1 → accepts p a.f a.l a.r ≡ true)
with_check most p a e =
    (e, subst (λ (x : Answer). x.failed ≡ 1 → accepts p x.f x.l x.r ≡ true) (sym e) (λ h. (answer_fails most p h).checked))

-- ---- the witness check's reply by the plan's cause

of_test : (y : Bool) → ◌≡◌ {A = Reply} (replied (Ok y)) (record { number = 0; accepted = pick y 1 0 })
unfolding pick
of_test true = refl
of_test false = refl

pub reply_checked : (p : Plan) (f l r : ℕ) (b : Bool) → cause_of p ≡ 0 → b ≡ accepts p f l r → replied (Ok b) ≡ reply_of p f l r
unfolding reply_of
reply_checked p f l r b e q = of_test b ∙ ap (λ (y : Bool). record { number = 0; accepted = pick y 1 0 }) q ∙ sym (pick_yes _ _ _ (eq-eqb (cause_of p) 0 e))

refuses : (e : Unsound) → number_of (Err e) ≡ 0 → ⊥
refuses WrongRange z = omega arith
refuses WrongLink z = omega arith
refuses WrongGroups z = omega arith

-- what refuses the plan, handed on as the reply
pub reply_refused : (p : Plan) (f l r : ℕ) (e : Unsound) (made : Result Bool Unsound) → IsErrAnd made (λ x. x ≡ e) → number_of (Err e) ≡ cause_of p
    → replied made ≡ reply_of p f l r
unfolding reply_of
reply_refused p f l r e made k q =
    ap replied (err_of made e k) ∙ ap (λ (y : ℕ). record { number = y; accepted = 0 }) q ∙ sym (pick_no _ _ _ (ne_eqb (cause_of p) 0 (λ z. refuses e (q ∙ z))))
