-- The cause's number, the line that tells it, and the file's line beside the answer of the text that is put. Assumes nothing.
use Prim.Native.Nat.{ℕ}
use mathlib.Core.Path.{◌≡◌, ap, ◌∙◌}
use mathlib.Core.List.{List}
use lib.ListN.{length}
use Rattle.text.specs.Texts.{held, written_of, put_into}
use Rattle.frames.specs.Causes.{number}
use Rattle.output.specs.OnFile.{refusal_line, on_line, answer_on}
use Rattle.output.proofs.refused.Goals as goal

pub returns : goal.returns
unfolding answer_on
returns c = let e = c.args.e in
    let room = length c.args.out.now in
    let said : held c.refusal.result ≡ refusal_line (number e.cause) e.line = c.refusal.ensures ∙ ap (λ (k : ℕ). refusal_line k e.line) c.from-number.ensures in
    let written = ap (λ (k : ℕ). written_of k (length (held c.refusal.result)) room) c.from-number.ensures ∙ ap (λ (t : List ℕ). written_of (number e.cause) (length t) room) said in
    record {
      value = c.put.ensures.value ∙ ap (on_line e.line) written;
      out_after = c.put.ensures.out_after ∙ ap (λ (t : List ℕ). put_into t c.args.out.now) said;
    }
