-- A turn in which those outside a set and a wall are looked at one after the other. Assumes nothing.
use Prim.Native.Nat.{ℕ, ◌^◌, ◌<◌}
use mathlib.Core.Path.{◌≡◌, sym, ap, ◌∙◌, subst}
use mathlib.Core.Logic.{⊎_elim}
use mathlib.Core.Bool.{Bool, true, false, not}
use native.Mathlib.Nat.{lt_of_le_of_lt}
use native.Mathlib.Omega.{arith}
use lib.Dec.{eqb}
use borrow.Author.Tests.{eqb-true}
use Rattle.sets.specs.Tests.{◌and◌, pick}
use Rattle.sets.specs.Sets.{mem, with, outside}
use Rattle.sets.proofs.Bools.{clash, decide, and_l, and_r, and_i, not_i, not_e, no_by, pick_yes, pick_no}
use Rattle.sets.proofs.Laws.{mem_zero, mem_below, mask_lt}
use Rattle.plan.specs.declared.Plan.{Plan}
use Rattle.plan.proofs.Laws.{Sound}
use Rattle.closure.specs.FaultSet.{hears_enough}
use Rattle.closure.proofs.Faults.{hears_enough_mono}
use Rattle.partition.specs.Search.{less, Spreading, Swept}
use Rattle.partition.proofs.Bounds.{spreading_start}
use Rattle.partition.proofs.Members.{with_below, with_keeps, with_one, with_why, mem_less, less_le, outside_mem, outside_i, outside_below}

-- r so far, and who is still to be looked at: where nobody has joined, whoever was looked at does not hear enough
pub record Sweeping (p : Plan) (wall l r rest : ℕ) : Type 0 where
  pub grown : Spreading p l wall r
  pub rest_below : rest < 2 ^ p.n
  pub free : (b : ℕ) → mem b rest ≡ true → (mem b wall ≡ false) × (mem b l ≡ false)
  pub tried : r ≡ l → (b : ℕ) → b < p.n → mem b wall ≡ false → mem b l ≡ false → mem b rest ≡ false → hears_enough p b l ≡ false

pub sweeping_start : (p : Plan) (wall l rest : ℕ) → l < 2 ^ p.n → rest ≡ outside p.n wall l → Sweeping p wall l l rest
sweeping_start p wall l rest h e = record {
  grown = spreading_start p l wall h;
  rest_below = subst (λ (x : ℕ). x < 2 ^ p.n) (sym e) (mask_lt p.n (λ i. not (mem i wall) and not (mem i l)));
  free = λ b m.
      let both = sym (outside_mem p.n wall l rest b e (outside_below p.n wall l rest b e m)) ∙ m in
      (not_e _ (and_l _ _ both), not_e _ (and_r _ _ both));
  tried = λ z b k g v m. clash (outside_i p.n wall l rest b e k g v) m;
}

module _ (p : Plan) (sound : Sound p) (wall l r rest b : ℕ) (h : Sweeping p wall l r rest) (m : mem b rest ≡ true) where
  pub looked_below : b < p.n
  looked_below = mem_below p.n b rest h.rest_below m

  less_below : less rest b < 2 ^ p.n
  less_below = lt_of_le_of_lt (less_le rest b) h.rest_below

  less_inside : (i : ℕ) → mem i (less rest b) ≡ true → mem i rest ≡ true
  less_inside i v =
      let k = mem_below p.n i (less rest b) less_below v in
      and_l _ _ (sym (mem_less rest b i (let t = sound.twenty in omega arith)) ∙ v)

  -- it does not join
  sweeping_passed : hears_enough p b r ≡ false → Sweeping p wall l r (less rest b)
  sweeping_passed n = record {
    grown = h.grown;
    rest_below = less_below;
    free = λ i v. h.free i (less_inside i v);
    tried = λ z i k g v u.
        ⊎_elim (λ q. subst (λ (x : ℕ). hears_enough p x l ≡ false) (sym (eqb-true i b q)) (subst (λ (x : ℕ). hears_enough p b x ≡ false) z n))
        (λ q. h.tried z i k g v (no_by (λ y. clash (mem_less rest b i (let t = sound.twenty in omega arith) ∙ and_i _ _ y (not_i q)) u)))
        (decide (eqb i b));
  }

  -- or it does
  sweeping_joined : (x : ℕ) → x ≡ with 32 r b → hears_enough p b r ≡ true → Sweeping p wall l x (less rest b)
  sweeping_joined x e y = record {
    grown = record {
      below = with_below p.n r b x sound.twenty h.grown.below looked_below e;
      has = λ i v. with_keeps p.n r b x sound.twenty h.grown.below looked_below e i (h.grown.has i v);
      least = λ t i c a v.
          ⊎_elim (h.grown.least t i c a)
          (λ q.
          subst (λ (z : ℕ). mem z t ≡ true) (sym q)
          (c b looked_below (h.free b m).0 (hears_enough_mono p b r t (λ a x. h.grown.least t i c a) y)))
          (with_why p.n r b x sound.twenty h.grown.below looked_below e a v);
    };
    rest_below = less_below;
    free = λ i v. h.free i (less_inside i v);
    tried = λ z i k g v u.
        clash (sym (ap (mem b) z) ∙ with_one p.n r b x sound.twenty h.grown.below looked_below e) (h.free b m).1;
  }

  pub sweeping_next : (joins : Bool) (x : ℕ) → joins ≡ hears_enough p b r → x ≡ pick joins (with 32 r b) r → Sweeping p wall l x (less rest b)
  sweeping_next joins x j e =
      ⊎_elim (λ y. sweeping_joined x (e ∙ pick_yes _ _ _ y) (sym j ∙ y))
      (λ n. subst (λ (z : ℕ). Sweeping p wall l z (less rest b)) (sym (e ∙ pick_no _ _ _ n)) (sweeping_passed (sym j ∙ n))) (decide joins)

pub sweeping_ends : {p : Plan} {wall l r rest : ℕ} → Sweeping p wall l r rest → rest ≡ 0 → Swept p wall l r
sweeping_ends {p} {wall} {l} {r} {rest} h z = record {
  grown = h.grown;
  ends = λ q b k g y. ⊎_elim (λ v. v) (λ v. clash y (h.tried q b k g v (ap (mem b) z ∙ mem_zero b))) (decide (mem b l));
}
