-- Four fields, one after the other; the limit is as it is read back.
use Rattle.std.proofs.Common.{arith, rules}
use mir.Syntax.{w64}
use mir.Val.{SFits}
use Rattle.std.proofs.lemmas.Int.{to_z-of_z}
use Rattle.text.proofs.Puts.{put-within}
use Rattle.writer.proofs.Fields.{one-put, next-put}
use Rattle.writer.proofs.storing.put_terms.Goals as goal

pub returns : goal.returns
returns c =
    let f : SFits w64 c.args.problem.now.constraint.limit = search rules in
    let limit = rw (to_z-of_z w64 _ f) at c.put_numbers-at_centre.ensures in
    let first = one-put _ c.put_numbers-at_limit.ensures in
    let second = next-put _ _ (omega arith) first limit in
    let third = next-put _ _ (omega arith) second c.put_numbers-at_high.ensures in
    put-within (next-put _ _ (omega arith) third c.put_numbers.ensures) (omega arith)
