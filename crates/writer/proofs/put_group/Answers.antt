use Rattle.writer.proofs.WriteLaws.{group_put}
use Rattle.writer.proofs.put_group.Goals as goal

pub returns : goal.returns
returns c = let a = c.args in group_put _ _ _ _ _ a.at a.s c.put_byte.ensures c.put_byte-2.ensures c.put_byte-3.ensures c.put_byte-4.ensures
