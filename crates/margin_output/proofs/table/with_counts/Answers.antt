-- Four numbers and a space between. Assumes nothing.
use Rattle.margin_output.proofs.TableLaws.{line_counts}
use Rattle.margin_output.proofs.table.with_counts.Goals as goal

pub returns : goal.returns
returns c = line_counts _ c.args.counts c.decimal.ensures c.raw.ensures c.decimal-2.ensures c.raw-2.ensures c.decimal-3.ensures c.raw-3.ensures c.decimal-4.ensures c.raw-4.ensures
