-- The witness check's tests of words are the definition's tests. Assumes nothing.
use Prim.Native.Nat.{ℕ, ◌^◌, ◌<◌}
use mathlib.Core.Path.{◌≡◌, refl, sym, ap, ap₂, ◌∙◌}
use mathlib.Core.Bool.{Bool, true, false, not}
use lib.Bits.{bit_and, bit_or, or_lt}
use lib.Dec.{eqb}
use borrow.Author.Tests.{lt-ltb}
use Rattle.sets.specs.Tests.{◌and◌, ◌or◌, ◌implies◌}
use Rattle.sets.specs.Sets.{mem, all, within}
use Rattle.sets.proofs.Bools.{and_r, and_i, not_i, same_test}
use Rattle.sets.proofs.Laws.{all_cong}
use Rattle.sets.proofs.Masks.{mem_or}
use Rattle.sets.proofs.Operations.{test_apart}
use Rattle.quorum.specs.declared.BoundKind.{BoundKind}
use Rattle.quorum.specs.declared.BoundKind.TheVariants.{Most}
use Rattle.plan.specs.declared.Plan.{Plan}
use Rattle.plan.specs.Plan.{hears}
use Rattle.plan.proofs.Laws.{Sound}
use Rattle.closure.specs.FaultSet.{hears_enough, bounded_by, is_bounded, is_fault_set}
use Rattle.partition.specs.Search.{direct}
use Rattle.faults.specs.Rows.{hearing}
use Rattle.partition.proofs.Rows.{direct_mem, direct_below}
use Rattle.faults.proofs.Rows.{hearing_mem, hearing_below}

-- ---- five tests, one after the other

pub five_tests : (a b c d e : Bool) → a and (b and (c and (d and e))) ≡ (((a and b) and c) and d) and e
unfolding ◌and◌
five_tests true true true true e = refl
five_tests true true true false e = refl
five_tests true true false d e = refl
five_tests true false c d e = refl
five_tests false b c d e = refl

-- ---- a fault set

pub fault_test : (p : Plan) (f : ℕ) → p.bound.kind ≡ Most f → (s : ℕ) (t : Bool) → s < 2 ^ p.n → mem p.source s ≡ false
    → t ≡ all p.n (λ b. not (mem b s) implies not (hears_enough p b s)) → t ≡ is_fault_set p s
unfolding is_fault_set is_bounded within
fault_test p f k s t h m e =
    same_test _ _ (λ y. and_i _ _ (lt-ltb s (2 ^ p.n) h) (and_i _ _ (not_i m) (bound ∙ sym e ∙ y))) (λ y. e ∙ sym bound ∙ and_r _ _ (and_r _ _ y))
  where
    bound : bounded_by p.bound.kind p s ≡ all p.n (λ b. not (mem b s) implies not (hears_enough p b s))
    bound = ap (λ (x : BoundKind). bounded_by x p s) k

-- ---- the terminals that are cut off

pub cut_test : (p : Plan) → Sound p → (d o l r : ℕ) → d ≡ direct p.rows p.source → o ≡ hearing p.rows p.bound l
    → eqb (bit_and (bit_or d o) r) 0 ≡ all p.n (λ b. mem b r implies (not (hears p b p.source) and not (hears_enough p b l)))
unfolding ◌and◌ ◌or◌ ◌implies◌
cut_test p s d o l r e q =
    test_apart p.n (bit_or d o) r (or_lt p.n d o (direct_below p s d e) (hearing_below p s l o q))
    ∙ all_cong p.n (λ b. not (mem b (bit_or d o) and mem b r)) (λ b. mem b r implies (not (hears p b p.source) and not (hears_enough p b l)))
    (λ b k.
    ap (λ (t : Bool). not (t and mem b r)) (mem_or b d o ∙ ap₂ ◌or◌ (direct_mem p s d b e k) (hearing_mem p s l o b q k))
    ∙ turned (hears p b p.source) (hears_enough p b l) (mem b r))
  where
    turned : (x y z : Bool) → not ((x or y) and z) ≡ (z implies (not x and not y))
    turned true y true = refl
    turned true y false = refl
    turned false true true = refl
    turned false true false = refl
    turned false false true = refl
    turned false false false = refl
