-- The layout, and before it in the new form the edition. Assumes nothing.
use Prim.Native.Nat.{ℕ}
use mathlib.Core.Path.{sym, ap, ◌∙◌}
use Rattle.lines.specs.declared.Form.{Form}
use Rattle.text.specs.Digits.{hex_pair}
use Rattle.text.specs.Texts.{held, joined}
use Rattle.text.proofs.Laws.{then}
use Rattle.run_output.specs.Site.{notice_text}
use Rattle.run_output.proofs.with_notice.Goals as goal

pub returns-in-Old : goal.returns-in-Old
unfolding notice_text
returns-in-Old c = let a = c.args in
    c.pair.ensures ∙ ap (λ (v : ℕ). joined (held a.t) (hex_pair v)) c.layout_of.ensures ∙ ap (λ (f : Form). joined (held a.t) (notice_text f a.notice)) (sym c.in-Old.is)

pub returns-in-New : goal.returns-in-New
unfolding notice_text
returns-in-New c = let a = c.args in
    then _ _ _ (c.pair-in-New.ensures ∙ ap (λ (v : ℕ). joined (held a.t) (hex_pair v)) c.edition_of.ensures) (c.pair-in-New-2.ensures ∙ ap (λ (v : ℕ). joined (held c.pair-in-New.result) (hex_pair v)) c.layout_of-in-New.ensures)
    ∙ ap (λ (f : Form). joined (held a.t) (notice_text f a.notice)) (sym c.in-New.is)
