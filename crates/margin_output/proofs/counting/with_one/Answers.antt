-- The standing tells which count. Assumes nothing.
use mathlib.Core.Path.{sym, ap, ◌∙◌}
use mathlib.Core.Logic.{⊎_elim}
use mir.Syntax.{w32}
use mir.Val.{SFits}
use mir.Facts.{to_z-of_z}
use borrow.Author.Rules.{rules}
use Rattle.partition.specs.declared.Standing.TheVariants.{Margin}
use Rattle.margin_output.specs.Counts.{tallied}
use Rattle.margin_output.proofs.TableLaws.{tally_source, tally_absent, tally_direct}
use Rattle.margin_output.proofs.counting.with_one.Goals as goal

pub returns-in-Direct : goal.returns-in-Direct
returns-in-Direct c = let a = c.args in tally_direct a.t ∙ ap (tallied a.t) (sym c.in-Direct.is)

pub returns-in-Margin : goal.returns-in-Margin
returns-in-Margin c = let fit : SFits w32 c.in-Margin.m = search rules in c.with_margin.ensures ∙ ap (tallied c.args.t) (ap Margin (to_z-of_z fit) ∙ sym c.in-Margin.is)

pub returns-in-Source : goal.returns-in-Source
returns-in-Source c = let t = c.args.t in
    ⊎_elim (λ e. tally_source t ∙ ap (tallied t) (sym e)) (λ e. tally_absent t ∙ ap (tallied t) (sym e)) c.in-Source.is
