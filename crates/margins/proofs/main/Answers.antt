-- What the table is written to lies within the list that was lent for it. Assumes nothing.
use Rattle.output.proofs.Laws.{written_fits, written_part}
use Rattle.margins.proofs.main.Goals as goal

pub slice_bounds-out-end : goal.slice_bounds-out-end
slice_bounds-out-end c = written_fits _ _ _ _ c.margins_text-written.new.out c.margins_text-written.ensures.value c.margins_text-written.auto.out

pub slice_bounds-write_all-end : goal.slice_bounds-write_all-end
slice_bounds-write_all-end c = written_part _ _ _ _ c.margins_text-written.new.out c.margins_text-written.ensures.value c.margins_text-written.auto.out
