-- The line end, then the reader. Assumes nothing.
use mathlib.Core.Path.{sym, ap, ◌∙◌}
use Rattle.wording.specs.Heard.{heard_of}
use Rattle.sentence_output.proofs.Entries.{last_is, on_line_lem, on_other}
use Rattle.sentence_output.proofs.entry.heard_on.Goals as goal

pub returns-in_default : goal.returns-in_default
returns-in_default c = on_other _ _ (sym (last_is c.args.bytes.now) ∙ (c.in_default.ensures {u = tt}).cases)

pub returns : goal.returns
returns c = let h = (c.in-Some.ensures {u = tt}).cases in
    c.read_sentence.ensures ∙ ap (heard_of c.args.n) h.1 ∙ on_line_lem _ _ (sym (last_is c.args.bytes.now) ∙ h.0)
