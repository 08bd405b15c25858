-- The definition's tests in its own order. Assumes nothing.
use mathlib.Core.Path.{◌≡◌, sym, ◌∙◌}
use mathlib.Core.Bool.{not}
use lib.Dec.{eqb}
use Rattle.sets.specs.Tests.{◌and◌}
use Rattle.sets.specs.Sets.{mem, is_partition}
use Rattle.sets.proofs.Bools.{and_no_l, and_yes}
use Rattle.closure.specs.FaultSet.{is_fault_set}
use Rattle.closure.specs.Verdict.{accepts}
use Rattle.partition.proofs.Tests.{five_tests}
use Rattle.partition.proofs.check.accepts.Goals.{then-is_partition, else-is_partition, then-member, else-member, then-r-ne0, else-r-ne0, Joined-r-ne0}
use Rattle.partition.proofs.check.accepts.Goals as goal

pub is_fault_set-requires : goal.is_fault_set-requires
is_fault_set-requires c = c.requires

pub cut_off-requires : goal.cut_off-requires
cut_off-requires c = c.requires

module _ (c : Joined-r-ne0) where
  two : c.if-is_partition.value ≡ is_partition c.args.p.now.n c.args.f c.args.l c.args.r and mem c.args.p.now.source c.args.l
  two =
      elim c.if-is_partition.branch [
        | then-is_partition w ↦ w.value-is ∙ w.member.ensures ∙ sym (and_yes _ _ (sym c.is_partition.ensures ∙ w.if-is_partition.true))
        | else-is_partition w ↦ w.value-is ∙ w.if-is_partition.false ∙ sym (and_no_l _ _ (sym c.is_partition.ensures ∙ w.if-is_partition.false))
      ]

  three : c.if-member.value ≡ (is_partition c.args.p.now.n c.args.f c.args.l c.args.r and mem c.args.p.now.source c.args.l) and not (eqb c.args.r 0)
  three =
      elim c.if-member.branch [
        | then-member w ↦ w.value-is ∙ sym (and_yes _ _ (sym two ∙ w.if-member.true))
        | else-member w ↦ w.value-is ∙ w.if-member.false ∙ sym (and_no_l _ _ (sym two ∙ w.if-member.false))
      ]

  four : c.if-r-ne0.value ≡ ((is_partition c.args.p.now.n c.args.f c.args.l c.args.r and mem c.args.p.now.source c.args.l) and not (eqb c.args.r 0)) and is_fault_set c.args.p.now c.args.f
  four =
      elim c.if-r-ne0.branch [
        | then-r-ne0 w ↦ w.value-is ∙ w.is_fault_set.ensures ∙ sym (and_yes _ _ (sym three ∙ w.if-r-ne0.true))
        | else-r-ne0 w ↦ w.value-is ∙ w.if-r-ne0.false ∙ sym (and_no_l _ _ (sym three ∙ w.if-r-ne0.false))
      ]

pub returns-then-is_fault_set : goal.returns-then-is_fault_set
unfolding accepts
returns-then-is_fault_set c =
    let h = four (goal.at.returns-then-is_fault_set c).Joined-r-ne0 in
    c.cut_off.ensures ∙ sym (five_tests _ _ _ _ _ ∙ and_yes _ _ (sym h ∙ c.if-is_fault_set.true))

pub returns-else-is_fault_set : goal.returns-else-is_fault_set
unfolding accepts
returns-else-is_fault_set c =
    let h = four (goal.at.returns-else-is_fault_set c).Joined-r-ne0 in
    c.if-is_fault_set.false ∙ sym (five_tests _ _ _ _ _ ∙ and_no_l _ _ (sym h ∙ c.if-is_fault_set.false))
