-- What is heard is written to what lies within the list that was lent for it. Assumes nothing.
use Rattle.output.proofs.Laws.{lent_fits, lent_part}
use Rattle.heard.proofs.main.Goals as goal

pub slice_bounds-out-end : goal.slice_bounds-out-end
slice_bounds-out-end c = lent_fits _ _ _ _ _ c.heard_text-written.new.out c.heard_text-written.ensures.value c.heard_text-written.auto.out

pub slice_bounds-write_all-end : goal.slice_bounds-write_all-end
slice_bounds-write_all-end c = lent_part _ _ _ _ _ c.heard_text-written.new.out c.heard_text-written.ensures.value c.heard_text-written.auto.out
