-- Three fields, one after the other.
use Rattle.std.proofs.Common.{arith}
use Rattle.text.proofs.Puts.{put-within}
use Rattle.writer.proofs.Fields.{one-put, next-put}
use Rattle.writer.proofs.storing.put_bounds.Goals as goal

pub returns : goal.returns
returns c =
    let first = one-put _ c.put_order-at.ensures in
    let second = next-put _ _ (omega arith) first c.put_numbers-next.ensures in
    put-within (next-put _ _ (omega arith) second c.put_numbers.ensures) (omega arith)
