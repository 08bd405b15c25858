-- Its length, or all its room where the length is past that. Assumes nothing.
use mathlib.Core.Path.{◌≡◌, ap, ◌∙◌}
use Prim.Native.Nat.{ℕ}
use native.Mathlib.Omega.{arith}
use lib.ListN.{length, take}
use borrow.Author.Rules.{rules}
use Rattle.std.proofs.lemmas.List.{take_min}
use Rattle.std.proofs.Common.{min}
use Rattle.text.specs.Texts.{held}
use Rattle.text.proofs.Text.held.Goals as goal

pub returns : goal.returns
unfolding held
returns c = let t = c.args.self.now in
    let e : length t.bytes ≡ 344 = search rules in
    let m : c.min.result ≡ min t.len (length t.bytes) = omega arith in
    ap (λ (n : ℕ). take n t.bytes) m ∙ take_min t.len t.bytes
