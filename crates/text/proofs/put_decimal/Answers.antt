use mathlib.Core.Path.{◌≡◌, ap, ◌∙◌}
use Prim.Native.Nat.{◌+◌, ◌≤◌}
use native.Mathlib.Omega.{arith}
use lib.ListN.{length}
use lib.IntN.{nat_abs}
use Rattle.integers.proofs.Machine.{clean}
use Rattle.text.specs.Putting.{Put}
use Rattle.text.specs.Text.{natural}
use Rattle.text.proofs.Puts.{put_nothing, put-within, put_room, put_then}
use Rattle.text.proofs.Digits.{sign, sign-none, sign-minus, decimal-sign, length-decimal-sign, length-decimal}
use Rattle.text.proofs.put_decimal.Goals as goal
use Rattle.text.proofs.put_decimal.Goals.{Joined-v-lt0, After-magnitude, then-v-lt0, else-v-lt0}

-- the sign is there
behind-sign : (c : Joined-v-lt0) → let a = c.args in Put a.out.now a.at (sign a.v) (length (sign a.v)) c.if-v-lt0.next c.if-v-lt0.out
behind-sign c =
    let v = c.args.v in
    elim c.if-v-lt0.branch [
      | then-v-lt0 w ↦ rw (w.next-is, w.out-is, sign-minus v (rw (clean c.ranges.v) at w.if-v-lt0.true)) w.put-next.ensures
      | else-v-lt0 w ↦ rw (w.next-is, w.out-is, sign-none v (rw (clean c.ranges.v) at w.if-v-lt0.false)) put_nothing
    ]

-- there is room for the sign and the digits
room : (c : Joined-v-lt0) → let a = c.args in a.at + (length (sign a.v) + length (natural (nat_abs a.v))) ≤ length a.out.now
room c = omega (arith, length-decimal-sign c.args.v, length-decimal c.ranges.v)

size : (c : After-magnitude) → c.magnitude.result ≡ nat_abs c.args.v
size c = c.magnitude.ensures ∙ ap nat_abs (clean c.ranges.v)

pub put_natural-requires : goal.put_natural-requires
put_natural-requires c =
    let g = goal.at.put_natural-requires c in
    rw (size g.After-magnitude) (put_room (behind-sign g.Joined-v-lt0) _ (room g.Joined-v-lt0))

pub returns : goal.returns
returns c =
    let v = c.args.v in
    let g = goal.at.returns c in
    let p = put_then (behind-sign g.Joined-v-lt0) (omega arith) (rw (size g.After-magnitude) at c.put_natural.ensures) in
    rw (decimal-sign v) (put-within p (omega (arith, length-decimal-sign v, length-decimal c.ranges.v)))
