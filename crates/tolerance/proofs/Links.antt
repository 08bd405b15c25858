-- What other links and other bounds do to what a drawing passes. Assumes nothing.
use Prim.Native.Nat.{ℕ, zero, suc, ◌+◌, ◌-◌, ◌≤◌, ◌<◌}
use mathlib.Core.Path.{◌≡◌, refl, sym, ap, ◌∙◌}
use mathlib.Core.Logic.{⊎_elim}
use mathlib.Core.Bool.{true, false}
use mathlib.Core.List.{List}
use native.Mathlib.Omega.{arith}
use lib.Dec.{ltb}
use lib.ListN.{get_or}
use borrow.Author.Tests.{ltb-true, lt-ltb, eq-eqb, ne_eqb}
use Rattle.sets.specs.Tests.{◌and◌}
use Rattle.sets.specs.Sets.{mem}
use Rattle.sets.proofs.Bools.{clash, and_l, and_r, and_i, not_i, not_e, same_test}
use Rattle.sets.proofs.Laws.{below_or_not, mem_zero, mem_mask, count_mono}
use Rattle.plan.specs.Plan.{heard_by}
use Rattle.plan.specs.Deaf.{is_deaf, deaf_set}
use Rattle.closure.specs.Margin.{has_margin}
use Rattle.closure.proofs.Witness.{pass_by}
use Rattle.closure.proofs.Deaf.{deaf_fails}
use Rattle.closure.proofs.Margin.{cut_has}
use Rattle.tolerance.specs.declared.Drawing.{Drawing}
use Rattle.tolerance.specs.Greatest.{with_bound, passes_with, none, up_to, greatest, height}
use Rattle.tolerance.specs.Links.{linked, redrawn, without_link, LinksCost}
use Rattle.tolerance.proofs.Carries.{carried}
use Rattle.tolerance.proofs.Heard.{heard_of, enough_is, linked_is, row_emptied, taken_out, link_kept, one_fewer}
use Rattle.tolerance.proofs.Heights.{same_height, highest, highest_only, greatest_is, height_le, height_one}

-- the one lemma, over counts: whoever hears the source hears it still, and whoever heard more than f of a set hears more than g of it
module _ (d : Drawing) (k : d.source < d.n) (f : ℕ) (rows : List ℕ) (g : ℕ) where
  passes_still : ((b : ℕ) → b < d.n → linked d d.source b ≡ true → linked (redrawn d rows) d.source b ≡ true)
      → ((b s : ℕ) → b < d.n → f < heard_of d b s → g < heard_of (redrawn d rows) b s) → passes_with d f ≡ true → passes_with (redrawn d rows) g ≡ true
  passes_still direct votes =
      carried d k f rows g
      (λ b l h. linked_is (redrawn d rows) g d.source b ∙ direct b l (sym (linked_is d f d.source b) ∙ h))
      (λ b s l h.
      enough_is (redrawn d rows) g b s
      ∙ lt-ltb g (heard_of (redrawn d rows) b s) (votes b s l (ltb-true f (heard_of d b s) (sym (enough_is d f b s) ∙ h))))

module _ (d : Drawing) (k : d.source < d.n) where
  pub smaller : (f g : ℕ) → g ≤ f → passes_with d f ≡ true → passes_with d g ≡ true
  unfolding passes_with heard_of
  smaller f g l = passes_still d k f d.rows g (λ b m h. h) (λ b s m h. omega arith)

  decides : (f : ℕ) → f < d.n → passes_with d f ≡ ltb f (height (greatest d))
  decides f l =
      same_test _ _
      (λ t. lt-ltb f _ (⊎_elim (λ b. b) (λ b. clash t ((highest d).above f b l)) (below_or_not f (height (greatest d)))))
      (λ t. up_to_lem (height (greatest d)) refl (ltb-true f (height (greatest d)) t))
    where
      up_to_lem : (h : ℕ) → height (greatest d) ≡ h → f < h → passes_with d f ≡ true
      up_to_lem zero e m = absurd (omega arith)
      up_to_lem (suc g) e m = smaller g f (omega arith) ((highest d).last g (sym e))

  one_less : (a b : ℕ) → (a ≡ d.source → ⊥) → (f : ℕ) → passes_with d (f + 1) ≡ true → passes_with (without_link d a b) f ≡ true
  one_less a b e f =
      passes_still d k (f + 1) _ f (λ c m h. link_kept d a b d.source c k (λ z. e (sym z)) h)
      (λ c s m h. let t = one_fewer d a b c s in omega arith)

  module _ (rows : List ℕ) (more : (a b : ℕ) → a < d.n → b < d.n → linked d a b ≡ true → linked (redrawn d rows) a b ≡ true) where
    more_heard : (b s : ℕ) → b < d.n → heard_of d b s ≤ heard_of (redrawn d rows) b s
    unfolding heard_of
    more_heard b s l =
        count_mono d.n (λ a. linked d a b and mem a s) (λ a. linked (redrawn d rows) a b and mem a s)
        (λ a m h. and_i _ _ (more a b m l (and_l _ _ h)) (and_r _ _ h))

    more_pass : (f : ℕ) → passes_with d f ≡ true → passes_with (redrawn d rows) f ≡ true
    more_pass f = passes_still d k f rows f (λ b l h. more d.source b k l h) (λ b s l h. let t = more_heard b s l in omega arith)

  -- ---- all hear the source

  -- nobody can be cut off: whoever is, is not the source and does not hear it
  direct_passes : ((b : ℕ) → b < d.n → (b ≡ d.source → ⊥) → linked d d.source b ≡ true) → (f : ℕ) → passes_with d f ≡ true
  unfolding passes_with has_margin
  direct_passes direct f =
      pass_by (with_bound d f)
      (λ s b i l c.
      let has = cut_has (with_bound d f) k f refl s b l c in
      clash (linked_is d f d.source b ∙ direct b l (λ e. clash (eq-eqb b d.source e) (not_e _ (and_l _ _ has)))) (not_e _ (and_r _ _ has)))

  all_direct : ((b : ℕ) → b < d.n → (b ≡ d.source → ⊥) → linked d d.source b ≡ true) → greatest d ≡ up_to (d.n - 1)
  all_direct direct =
      same_height (greatest d) (up_to (d.n - 1))
      (highest_only d d.n _ _ (highest d)
      (record { most = omega arith; above = λ g l m. absurd (omega arith); last = λ f e. direct_passes direct f }))

-- ---- somebody hears nobody

module _ (d : Drawing) where
  deaf_fails_all : (deaf_set (with_bound d 0) ≡ 0 → ⊥) → (f : ℕ) → passes_with d f ≡ false
  unfolding passes_with deaf_set is_deaf heard_by
  deaf_fails_all some f = (deaf_fails (with_bound d f) some).failed

  deaf_none : (deaf_set (with_bound d 0) ≡ 0 → ⊥) → greatest d ≡ none
  deaf_none some =
      same_height (greatest d) none
      (highest_only d d.n _ _ (highest d)
      (record { most = omega arith; above = λ g l m. deaf_fails_all some g; last = λ f e. absurd (omega arith) }))

  deaf_one : (b : ℕ) → b < d.n → (b ≡ d.source → ⊥) → get_or d.rows b 0 ≡ 0 → deaf_set (with_bound d 0) ≡ 0 → ⊥
  unfolding deaf_set is_deaf heard_by
  deaf_one b l e z none-deaf =
      clash (mem_mask d.n b (is_deaf (with_bound d 0)) l ∙ and_i _ _ (not_i (ne_eqb b d.source e)) (eq-eqb (get_or d.rows b 0) 0 z))
      (ap (mem b) none-deaf ∙ mem_zero b)

pub links_cost : (d : Drawing) → d.source < d.n → LinksCost d
links_cost d k = record {
  is_greatest = greatest_is d;
  decides = decides d k;
  smaller = smaller d k;
  taken_out = taken_out d;
  one_less = one_less d k;
  at_most_one = λ a b e. height_one d (without_link d a b) refl (one_less d k a b e);
  more_pass = more_pass d k;
  not_lowered = λ rows more. height_le d (redrawn d rows) refl (more_pass d k rows more);
  all_direct = all_direct d k;
  deaf_none = deaf_none d;
  source_link = λ b l e only. deaf_none (without_link d d.source b) (deaf_one (without_link d d.source b) b l e (row_emptied d d.source b only));
}
