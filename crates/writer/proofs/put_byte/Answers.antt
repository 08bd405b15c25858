use Rattle.writer.proofs.WriteLaws.{byte_put}
use Rattle.writer.proofs.put_byte.Goals as goal

-- Two stores. Assumes nothing.

pub returns : goal.returns
returns c = byte_put _ _ _ _ _ c.high_digit.ensures c.low_digit.ensures
