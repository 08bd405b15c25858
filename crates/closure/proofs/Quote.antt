-- The quoting desk's answer, by the laws of a plan's causes within a limit. Assumes nothing.
use Prim.Native.Nat.{ℕ}
use mathlib.Core.Path.{◌≡◌, ap}
use mathlib.Core.Bool.{true, false}
use native.Mathlib.Omega.{arith}
use lib.Dec.{eqb}
use Rattle.sets.specs.Tests.{pick}
use Rattle.sets.proofs.Bools.{pick_case}
use Rattle.quorum.specs.Quorum.{most_terminals}
use Rattle.plan.specs.declared.Plan.{Plan}
use Rattle.plan.specs.Plan.{most_quoted, cause_within, cause_of, too_many}
use Rattle.plan.proofs.Laws.{many_cause, few_cause, not_fourteen}
use Rattle.closure.specs.Verdict.{verdict}
use Rattle.closure.specs.Answer.{Answer, refused, judged, answer_within, answer_of, quote_of}
use Rattle.closure.specs.Quote.{Quoted}

module _ (most : ℕ) (p : Plan) where
  pub many_refused : too_many most p ≡ true → answer_within most p ≡ refused 14
  unfolding answer_within pick
  many_refused h = ap (λ (c : ℕ). pick (eqb c 0) (judged (verdict p)) (refused c)) (many_cause most p h)

  pub few_answered : too_many most p ≡ false → answer_within most p ≡ answer_of p
  unfolding answer_within answer_of cause_of
  few_answered h = ap (λ (c : ℕ). pick (eqb c 0) (judged (verdict p)) (refused c)) (few_cause most p h)

never_above : (p : Plan) → (answer_of p).number ≡ 14 → ⊥
unfolding answer_of answer_within judged cause_of
never_above p =
    pick_case (λ (a : Answer). a.number ≡ 14 → ⊥) (eqb (cause_within most_terminals p) 0) (judged (verdict p)) (refused (cause_within most_terminals p))
    (λ e h. omega arith) (λ e h. not_fourteen p h)

pub quoted : (p : Plan) → Quoted p
unfolding quote_of
quoted p = record { above = many_refused most_quoted p; never = never_above p; alike = few_answered most_quoted p }
