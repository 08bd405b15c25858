-- The line's parts, one after the other. Assumes nothing.
use Rattle.text.proofs.Laws.{then}
use Rattle.run_output.specs.Site.{terminal_line}
use Rattle.run_output.proofs.with_line.Goals as goal

pub returns : goal.returns
unfolding terminal_line
returns c = let two = then _ _ _ c.byte.ensures c.byte-2.ensures in
    let four = then _ _ _ (then _ _ _ two c.byte-3.ensures) c.byte-front.ensures in
    then _ _ _ (then _ _ _ four c.with_notice.ensures) c.raw.ensures
