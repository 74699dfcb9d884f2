-- The three bytes, one after the other.
use Rattle.writer.proofs.Fields.{head-put}
use Rattle.writer.proofs.storing.put_head.Goals as goal

pub returns : goal.returns
returns c = head-put _ _ _ _ c.requires.0 c.requires.1 c.tag.ensures
