-- Three bytes, then the line's end. Assumes nothing.
use Rattle.writer.proofs.WriteLaws.{link_put}
use Rattle.writer.proofs.put_link.Goals as goal

pub returns : goal.returns
returns c = link_put _ _ _ _ c.args.at c.args.from c.args.to c.put_byte.ensures c.put_byte-2.ensures c.put_byte-3.ensures
