-- From the greatest number down. Assumes nothing.
use Prim.Native.Nat.{ℕ, ◌-◌}
use mathlib.Core.Path.{refl, ap, ◌∙◌}
use native.Mathlib.Omega.{arith}
use Rattle.sentence_output.specs.Heard.{terminals_below, terminals_in}
use Rattle.sentence_output.specs.Entered.{numbered}
use Rattle.sentence_output.proofs.Entries.{some_numbered, terminals_start, terminals_yes, terminals_no}
use Rattle.sentence_output.proofs.entry.terminals.Goals as goal

pub loop-n-init : goal.loop-n-init
unfolding terminals_in
loop-n-init c = (omega arith, refl)

pub loop-n-preserved : goal.loop-n-preserved
loop-n-preserved c = let l = c.loop-n in let file = c.args.file.now in
    (omega arith, terminals_no file (l.n - 1) _ _ c.number_line.ensures c.begins.ensures c.if-begins.false ∙ ap (λ (k : ℕ). terminals_below k file) (omega arith) ∙ l.invariant.1)

pub returns-then-begins : goal.returns-then-begins
returns-then-begins c = let l = c.loop-n in let file = c.args.file.now in
    some_numbered (l.n - 1) _ (omega arith) (terminals_yes file (l.n - 1) _ _ (omega arith) (omega arith) c.number_line.ensures c.begins.ensures c.if-begins.true ∙ ap (λ (k : ℕ). terminals_below k file) (omega arith) ∙ l.invariant.1)

pub returns : goal.returns
returns c = let l = c.loop-n in let file = c.args.file.now in
    ap numbered (terminals_start file ∙ ap (λ (k : ℕ). terminals_below k file) (omega arith) ∙ l.invariant.1)
