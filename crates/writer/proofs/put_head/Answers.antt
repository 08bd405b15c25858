use Rattle.writer.proofs.WriteLaws.{head_put}
use Rattle.writer.proofs.put_head.Goals as goal

pub returns : goal.returns
returns c = let a = c.args in head_put a.p _ _ _ _ _ _ c.bound_byte.ensures c.put_byte.ensures c.put_byte-2.ensures c.put_byte-3.ensures c.put_byte-4.ensures
