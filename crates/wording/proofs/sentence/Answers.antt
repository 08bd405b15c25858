-- A refusal, or both halves, which fit. Assumes nothing.
use mathlib.Core.Path.{refl, sym, ◌∙◌}
use native.Mathlib.Omega.{arith}
use Rattle.text.proofs.Laws.{then, whole}
use Rattle.text.proofs.Phrases.{joined_length}
use Rattle.wording.specs.Sentence.{opening, closing, sentence}
use Rattle.wording.proofs.Causes.{sound, composed_is, composed_none}
use Rattle.wording.proofs.Lengths.{sentence_short}
use Rattle.wording.proofs.Refusals.{some_number, no_words}
use Rattle.wording.proofs.sentence.Goals as goal

pub returns-in_err-check-clause-sentence : goal.returns-in_err-check-clause-sentence
returns-in_err-check-clause-sentence c = let a = c.args in
    let e = c.in_err-check in
    no_words _ c.from_residual.ensures.0 ∙ sym (composed_none a.n a.f a.l a.r (λ z. some_number e.field-0.0 (e.ensures {u = tt} ∙ z)))

pub opened-requires : goal.opened-requires
opened-requires c = let a = c.args in let s = sound a.n a.f a.l a.r (sym (c.in_ok-check.ensures {u = tt})) in (s.twenty, s.f_below)

pub closed-requires : goal.closed-requires
closed-requires c = let a = c.args in let s = sound a.n a.f a.l a.r (sym (c.in_ok-check.ensures {u = tt})) in (s.twenty, s.r_below, joined_length _ _ c.opened.ensures)

pub returns-clause-sentence : goal.returns-clause-sentence
unfolding sentence
returns-clause-sentence c = let a = c.args in
    let z = sym (c.in_ok-check.ensures {u = tt}) in
    let h = sentence_short a.n a.f a.l a.r z in
    whole refl (then _ (opening a.n a.f) (closing a.n a.r) c.opened.ensures c.closed.ensures) (omega arith) ∙ sym (composed_is a.n a.f a.l a.r z)
