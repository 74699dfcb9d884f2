use Prim.Native.Nat.{◌+◌, ◌*◌}
use native.Mathlib.Nat.{suc-mul}
use native.Mathlib.Numerals.{add-one}
use native.Mathlib.Omega.{arith}
use Rattle.tables.specs.Matrix.{nth}
use Rattle.text.specs.Text.{line, lines}
use Rattle.text.proofs.Puts.{put_nothing, put-within, put_then}
use Rattle.text.proofs.put_lines.Goals as goal

pub loop-i-init : goal.loop-i-init
unfolding lines
loop-i-init c = put-within put_nothing (omega arith)

pub loop-i-preserved : goal.loop-i-preserved
unfolding lines
loop-i-preserved c =
    let n = c.put_line-next in
    let l = c.loop-i in
    let a = c.args in
    rw (add-one l.i, suc-mul l.i)
    (put_then l.invariant {s = line a.word.now (λ k. nth a.x.now (l.i * a.width + k)) a.width} (omega arith) n.ensures)
