use native.Mathlib.Numerals.{add-one}
use native.Mathlib.Omega.{arith}
use mir.Syntax.{w64}
use mir.Val.{SFits}
use Rattle.std.proofs.Common.{rules}
use Rattle.std.proofs.lemmas.Int.{to_z-of_z}
use Rattle.tables.specs.Matrix.{nth}
use Rattle.text.specs.Text.{numbers}
use Rattle.text.proofs.Puts.{put_nothing, put-within, put_then}
use Rattle.text.proofs.put_numbers.Goals as goal

pub loop-v-init : goal.loop-v-init
unfolding numbers
loop-v-init c = put_nothing

pub loop-v-preserved : goal.loop-v-preserved
unfolding numbers
loop-v-preserved c =
    let l = c.loop-v in
    let f : SFits w64 (nth c.args.x.now l.v-index) = search rules in
    let p = rw (to_z-of_z w64 _ f) at c.put_decimal-next.ensures in
    rw (add-one l.v-index) (put-within (put_then l.invariant (omega arith) (put_then c.put-from.ensures (omega arith) p)) (omega arith))
