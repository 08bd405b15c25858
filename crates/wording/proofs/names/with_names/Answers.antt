use Prim.Native.Nat.{ℕ}
use native.Mathlib.Nat.{sub-zero}
use mathlib.Core.Path.{sym, ap, ◌∙◌}
use native.Mathlib.Omega.{arith}
use Rattle.text.specs.Texts.{held, joined}
use Rattle.text.proofs.Phrases.{joined_none, joined_length}
use Rattle.wording.specs.Sentence.{members_from, listing}
use Rattle.wording.proofs.Listings.{listing_next, listing_ends, joined_turn}
use Rattle.wording.proofs.names.with_names.Goals as goal

pub loop-i-init : goal.loop-i-init
loop-i-init c = let a = c.args in (c.requires.2, ap (λ (m : ℕ). joined (held a.t) (listing (members_from 0 m a.s))) (sub-zero a.n))

pub with_one-t-requires : goal.with_one-t-requires
with_one-t-requires c = (omega (arith, c.requires.0), c.loop-i.invariant.0)

pub loop-i-preserved : goal.loop-i-preserved
loop-i-preserved c = let l = c.loop-i in let a = c.args in (joined_length _ _ c.with_one-t.ensures, joined_turn _ _ _ c.with_one-t.ensures ∙ ap (joined (held l.t)) (sym (listing_next a.s a.n l.i (omega arith) c.requires.1)) ∙ l.invariant.1)

pub returns : goal.returns
returns c = let l = c.loop-i in let a = c.args in joined_none _ l.invariant.0 ∙ ap (joined (held l.t)) (sym (listing_ends a.s a.n l.i (omega arith))) ∙ l.invariant.1
