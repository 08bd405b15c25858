use mathlib.Core.Path.{◌≡◌, ◌∙◌}
use borrow.Author.Rules.{rules}
use lib.ListN.{length}
use Rattle.partition.proofs.Sheets.{all_empty}
use Rattle.partition.proofs.standings.no_groups.Goals as goal

pub returns : goal.returns
returns c = let h : length c.args.groups ≡ 16 = search rules in c.eq.ensures ∙ all_empty 16 c.args.groups h
