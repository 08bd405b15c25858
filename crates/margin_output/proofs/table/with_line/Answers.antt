-- The parts of a line, one after the other. Assumes nothing.
use mathlib.Core.Path.{sym, ap, subst, ◌∙◌}
use mathlib.Core.Logic.{⊎_elim}
use mir.Syntax.{w32}
use mir.Val.{SFits}
use mir.Facts.{to_z-of_z}
use borrow.Author.Rules.{rules}
use Rattle.partition.specs.declared.Standing.{Standing}
use Rattle.partition.specs.declared.Standing.TheVariants.{Margin}
use Rattle.text.specs.Texts.{held, joined}
use Rattle.margin_output.specs.Margins.{standing_line}
use Rattle.margin_output.specs.Counts.{Small}
use Rattle.margin_output.proofs.TableLaws.{line_source, line_direct, line_margin, line_absent}
use Rattle.margin_output.proofs.table.with_line.Goals as goal

pub with_margin-requires : goal.with_margin-requires
with_margin-requires c = let fit : SFits w32 c.in-Margin.m = search rules in subst Small (c.in-Margin.is ∙ ap Margin (sym (to_z-of_z fit))) c.requires.0

pub returns-in-Direct : goal.returns-in-Direct
returns-in-Direct c = let a = c.args in line_direct _ _ c.decimal.ensures c.phrase.ensures ∙ ap (λ (s : Standing). joined (held a.t) (standing_line a.b s)) (sym c.in-Direct.is)

pub returns-in-Margin : goal.returns-in-Margin
returns-in-Margin c = let fit : SFits w32 c.in-Margin.m = search rules in let a = c.args in line_margin _ _ _ c.decimal-in-Margin.ensures c.raw.ensures c.with_margin.ensures c.raw-in-Margin.ensures ∙ ap (λ (s : Standing). joined (held a.t) (standing_line a.b s)) (ap Margin (to_z-of_z fit) ∙ sym c.in-Margin.is)

pub returns-in-Source : goal.returns-in-Source
returns-in-Source c = let a = c.args in
    ⊎_elim
    (λ e. line_source (held a.t) a.b c.requires.1 ∙ ap (λ (s : Standing). joined (held a.t) (standing_line a.b s)) (sym e))
    (λ e. line_absent (held a.t) a.b c.requires.1 ∙ ap (λ (s : Standing). joined (held a.t) (standing_line a.b s)) (sym e)) c.in-Source.is
