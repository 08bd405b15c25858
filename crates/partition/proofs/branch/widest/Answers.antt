use Rattle.partition.proofs.Members.{some_of_some}
use Rattle.partition.proofs.branch.widest.Goals as goal

pub returns : goal.returns
returns c =
    some_of_some _ _ _ c.narrowed.ensures
    (some_of_some _ _ _ c.narrowed-many.ensures
    (some_of_some _ _ _ c.narrowed-2.ensures (some_of_some _ _ _ c.narrowed-3.ensures c.narrowed-4.ensures)))
