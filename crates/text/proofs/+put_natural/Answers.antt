-- By recursion over u: the digits before the last one are those of u / 10.
use mathlib.Core.Path.{ap}
use Prim.Native.Nat.{ℕ}
use native.Mathlib.Omega.{arith}
use lib.ListN.{length}
use Rattle.text.specs.Putting.{Put}
use Rattle.text.proofs.Puts.{put_nothing, put_room, put_then}
use Rattle.text.proofs.Digits.{front, front-none, front_some, natural-front, length-natural-front}
use Rattle.text.proofs.+put_natural.Goals as goal
use Rattle.text.proofs.+put_natural.Goals.{Joined-u-ge10, then-u-ge10, else-u-ge10}

-- the digits before the last one are there
before_last : (t : ℕ) (c : Joined-u-ge10 t)
    → Put c.args.out.now c.args.at (front c.args.u) (length (front c.args.u)) c.if-u-ge10.next c.if-u-ge10.out
before_last t c =
    let u = c.args.u in
    elim c.if-u-ge10.branch [
      | then-u-ge10 w ↦ rw (w.next-is, w.out-is, front_some u w.if-u-ge10.true) w.put_natural-next.ensures
      | else-u-ge10 w ↦ rw (w.next-is, w.out-is, front-none u w.if-u-ge10.false) put_nothing
    ]

pub put_natural-next-requires : goal.put_natural-next-requires
put_natural-next-requires t c =
    let u = c.args.u in
    (omega (arith, c.decreases), omega (arith, length-natural-front u, ap length (front_some u c.if-u-ge10.true)))

pub put-requires : goal.put-requires
put-requires t c = put_room (before_last t (goal.at.put-requires t c).Joined-u-ge10) 1 (omega (arith, length-natural-front c.args.u))

pub returns : goal.returns
returns t c =
    let u = c.args.u in
    rw (length-natural-front u, natural-front u) (put_then (before_last t (goal.at.returns t c).Joined-u-ge10) (omega arith) c.put.ensures)
