use mathlib.Core.Path.{◌≡◌}
use Prim.Native.Nat.{◌<◌}
use native.Mathlib.Omega.{arith}
use native.Mathlib.Numerals.{add-one}
use Rattle.cholesky.proofs.Walked.{rows_start, stop_start, rows_some, rows_more, stop_now, stop_kept}
use Rattle.cholesky.proofs.Sweep.{sweep_stop, sweep_end}
use Rattle.cholesky.proofs.factoring.factor.Goals as goal
use Rattle.cholesky.proofs.factoring.factor.Goals.{in-Some, in_default}

pub loop-i-init : goal.loop-i-init
loop-i-init c =
    let z = c.requires in
    let s = c.start.ensures.1 in
    rw c.unwrap_or-end.ensures (omega arith, s.bound, omega arith, rows_start z s, stop_start z s)

-- column `end` stopped
pub returns-then-i-end : goal.returns-then-i-end
returns-then-i-end c =
    let v = c.loop-i.invariant in
    let e = c.if-i-end.true in
    sweep_stop (rw e at v.3) v.1 (omega arith) (v.4 (omega arith))

pub take_row-requires : goal.take_row-requires
take_row-requires c =
    let s = c.loop-i.invariant.3 in
    let h : c.loop-i.i < c.loop-i.end = omega arith in
    (s.walked.left, h, rows_some s h)

pub loop-i-preserved : goal.loop-i-preserved
loop-i-preserved c =
    let l = c.loop-i in
    let v = l.invariant in
    let h : l.i < l.end = omega arith in
    elim c.match-take_row.branch [
      -- a column stopped
      | in-Some w ↦
          let t = w.in-Some.ensures in
          let x = t.1 in
          rw (w.end-is, w.rows-is, add-one) (x.columns.past, omega (arith, t.0), omega arith, rows_more v.3 h x, λ a. stop_now v.3 h x t.0)
      -- none did
      | in_default w ↦
          let x = w.in_default.ensures.1 in
          rw (w.end-is, w.rows-is, add-one) (omega arith, v.1, omega arith, rows_more v.3 h x, λ a. stop_kept v.3 h x v.2 (v.4 a))
    ]

pub returns : goal.returns
returns c =
    let l = c.loop-i in
    let e : l.i ≡ l.end = omega arith in
    sweep_end (rw e at l.invariant.3) l.invariant.1 (omega arith)
