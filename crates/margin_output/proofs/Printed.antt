-- What is printed of an accepted plan, by the laws of its reader. Assumes nothing.
use Prim.Native.Nat.{ℕ}
use mathlib.Core.Path.{◌≡◌, refl, sym, ap, ◌∙◌, subst}
use mathlib.Core.Bool.{true}
use mathlib.Core.List.{List}
use native.Mathlib.Omega.{arith}
use lib.Dec.{eqb}
use lib.ListN.{get_or-replicate}
use borrow.Author.Tests.{eq-eqb}
use Rattle.sets.proofs.Bools.{and_i, pick_yes}
use Rattle.sets.proofs.Laws.{all_i}
use Rattle.quorum.specs.declared.Bound.{Bound}
use Rattle.quorum.specs.Quorum.{most_groups, group_at, at_most}
use Rattle.plan.specs.declared.Plan.{Plan}
use Rattle.plan.specs.Plan.{cause_of}
use Rattle.plan.proofs.Laws.{sound}
use Rattle.closure.specs.Margin.{MarginsTell}
use Rattle.closure.proofs.Margin.{margins_tell}
use Rattle.partition.specs.Margins.{groupless, margins_cause}
use Rattle.partition.proofs.Sheets.{groupless_cause}
use Rattle.frames.specs.Reading.{Reading, margins_reader, refusal, margins_reading, file_read}
use Rattle.frames.proofs.Accepted.{reading_whole}
use Rattle.frames.proofs.Margins.{measuring}
use Rattle.output.proofs.Laws.{refused_is, answered_is}
use Rattle.margin_output.specs.Margins.{margins_lines, margins_answer, margins_on, margins_text}
use Rattle.margin_output.specs.Printed.{MarginsPrinted}

-- a bound f lists no group
most_groupless : (f : ℕ) → groupless (at_most f) ≡ true
unfolding groupless group_at
most_groupless f = and_i _ _ refl (all_i most_groups (λ i. eqb (group_at (at_most f) i) 0) (λ i k. eq-eqb _ 0 (get_or-replicate most_groups i 0 0 k)))

module _ (file : List ℕ) where
  module _ (z : (margins_reading file).number ≡ 0) where
    abbrev plan : Plan
    plan = (margins_reading file).progress.plan

    plan_sound : cause_of plan ≡ 0
    unfolding margins_reading
    plan_sound = (reading_whole margins_reader file z).0

    bound_f : (f : ℕ) × (plan.bound ≡ at_most f)
    bound_f = (measuring file).bounded z

    cause_none : margins_cause plan ≡ 0
    cause_none =
        let b = bound_f in
        groupless_cause plan b.0 (ap (λ (x : Bound). x.kind) b.1) (subst (λ (x : Bound). groupless x ≡ true) (sym b.1) (most_groupless b.0))
        ∙ plan_sound

    table_printed : margins_text file ≡ margins_lines plan
    unfolding margins_text margins_on margins_answer
    table_printed = answered_is (file_read (margins_reading file)) _ z ∙ pick_yes _ _ _ (eq-eqb (margins_cause plan) 0 cause_none)

    table_tells : MarginsTell plan
    table_tells = let b = bound_f in margins_tell plan (sound plan plan_sound).source_below b.0 (ap (λ (x : Bound). x.kind) b.1)

  pub margins_printed : MarginsPrinted file
  unfolding margins_text margins_on
  margins_printed = record {
    table = table_printed;
    tells = table_tells;
    grouped = λ g. ap (λ (r : Reading). margins_on (file_read r)) ((measuring file).grouped g) ∙ refused_is (file_read (refusal 4 1)) _ (λ y. omega arith);
    alike = λ g. ap (λ (r : Reading). margins_on (file_read r)) ((measuring file).alike g);
  }
