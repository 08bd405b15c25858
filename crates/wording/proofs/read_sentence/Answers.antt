-- The sets that were heard are the ones, or there are none. Assumes nothing.
use mathlib.Core.Path.{refl, ◌∙◌}
use native.Mathlib.Omega.{arith}
use Rattle.wording.proofs.Refusals.{told_instead}
use Rattle.wording.proofs.Reading.{read_instead, read_sets, read_differs}
use Rattle.wording.proofs.read_sentence.Goals as goal

pub returns-in_err-sentence : goal.returns-in_err-sentence
returns-in_err-sentence c = let e = c.in_err-sentence in
    told_instead e.field-0.0 _ c.from_residual.ensures.1 ∙ read_instead _ _ _ _ _ _ c.heard-e.ensures c.outside-l.ensures (e.ensures {u = tt}).cause refl e.field-0.0 refl

pub returns-then-not-is : goal.returns-then-not-is
returns-then-not-is c = let s = c.in_ok-sentence.ensures {u = tt} in
    read_differs _ _ _ _ _ _ c.heard-e.ensures c.outside-l.ensures s.cause s.sentence _ c.is.ensures (λ z. omega arith) c.if-not-is.true

pub returns : goal.returns
returns c = let s = c.in_ok-sentence.ensures {u = tt} in
    read_sets _ _ _ _ _ _ c.heard-e.ensures c.outside-l.ensures s.cause s.sentence _ c.is.ensures refl c.if-not-is.false
