use native.Mathlib.Omega.{arith}
use native.Mathlib.Numerals.{add-one}
use mir.Syntax.{w64}
use mir.Val.{SFits}
use Rattle.std.proofs.Common.{rules}
use Rattle.std.proofs.lemmas.Int.{to_z-of_z}
use Rattle.tables.specs.Matrix.{nth}
use Rattle.cholesky.specs.Store.{upper}
use Rattle.solved.proofs.Sizes.{row-sum-none, row-sum_suc, product_fits, next_fits}
use Rattle.solved.proofs.row_sum.Goals as goal

pub overflow_mul-s-in-loop-k : goal.overflow_mul-s-in-loop-k
unfolding upper
overflow_mul-s-in-loop-k c =
    let l = c.loop-k in
    let r : SFits w64 (upper c.args.t.now c.args.i l.k) = search rules in
    let x : SFits w64 (nth c.args.x.now l.k) = search rules in
    simp to_z-of_z (product_fits c.requires l.k (omega arith) (omega arith))

pub overflow_add-s-in-loop-k : goal.overflow_add-s-in-loop-k
unfolding upper
overflow_add-s-in-loop-k c =
    let l = c.loop-k in
    let r : SFits w64 (upper c.args.t.now c.args.i l.k) = search rules in
    let x : SFits w64 (nth c.args.x.now l.k) = search rules in
    let p = product_fits c.requires l.k (omega arith) (omega arith) in
    simp (to_z-of_z, l.invariant) (next_fits c.requires l.k (omega arith) (omega arith))

pub loop-k-init : goal.loop-k-init
unfolding upper
loop-k-init c = rw add-one (row-sum-none _ _ _)

pub loop-k-preserved : goal.loop-k-preserved
unfolding upper
loop-k-preserved c =
    let l = c.loop-k in
    let r : SFits w64 (upper c.args.t.now c.args.i l.k) = search rules in
    let x : SFits w64 (nth c.args.x.now l.k) = search rules in
    let p = product_fits c.requires l.k (omega arith) (omega arith) in
    let n = next_fits c.requires l.k (omega arith) (omega arith) in
    simp (to_z-of_z, l.invariant, add-one) (row-sum_suc c.args.t.now c.args.x.now c.args.i l.k (omega arith))
