-- Every number fits 64 bits.
use lib.IntN.{+ℤ_idl}
use mir.Syntax.{w64}
use mir.Val.{SFits}
use Rattle.std.proofs.Common.{rules}
use Rattle.std.proofs.lemmas.Int.{to_z-of_z}
use Rattle.cholesky.specs.Store.{upper}
use Rattle.solved.specs.Stopped.{entry_of}
use Rattle.solved.proofs.Sizes.{sum_fits, twice_fits, numerator_fits, divisor_fits, divisor_positive, quotient_fits, opposite_fits}
use Rattle.solved.proofs.entry.Goals as goal

pub overflow_mul-sum : goal.overflow_mul-sum
overflow_mul-sum c =
    let s = c.row_sum-sum in
    let f = sum_fits c.requires in
    simp (to_z-of_z, s.ensures) (twice_fits c.requires)

pub overflow_add-sum : goal.overflow_add-sum
unfolding upper
overflow_add-sum c =
    let s = c.row_sum-sum in
    let f = sum_fits c.requires in
    let d : SFits w64 (upper c.args.t.now c.args.i c.args.i) = search rules in
    let t = twice_fits c.requires in
    simp (to_z-of_z, s.ensures) (numerator_fits c.requires)

pub overflow_mul-diagonal-2 : goal.overflow_mul-diagonal-2
unfolding upper
overflow_mul-diagonal-2 c =
    let d : SFits w64 (upper c.args.t.now c.args.i c.args.i) = search rules in
    simp to_z-of_z (divisor_fits c.requires)

pub overflow_sub-result : goal.overflow_sub-result
unfolding upper
overflow_sub-result c =
    let s = c.row_sum-sum in
    let f = sum_fits c.requires in
    let q = quotient_fits c.requires in
    let d : SFits w64 (upper c.args.t.now c.args.i c.args.i) = search rules in
    let t = twice_fits c.requires in
    let n = numerator_fits c.requires in
    let v = divisor_fits c.requires in
    simp (to_z-of_z, c.floor_div.ensures, s.ensures) (opposite_fits c.requires)

pub floor_div-requires : goal.floor_div-requires
unfolding upper entry_of
floor_div-requires c =
    let d : SFits w64 (upper c.args.t.now c.args.i c.args.i) = search rules in
    let v = divisor_fits c.requires in
    simp to_z-of_z (divisor_positive c.requires)

pub returns : goal.returns
unfolding upper entry_of
returns c =
    let s = c.row_sum-sum in
    let f = sum_fits c.requires in
    let q = quotient_fits c.requires in
    let d : SFits w64 (upper c.args.t.now c.args.i c.args.i) = search rules in
    let t = twice_fits c.requires in
    let n = numerator_fits c.requires in
    let v = divisor_fits c.requires in
    let o = opposite_fits c.requires in
    simp (to_z-of_z, c.floor_div.ensures, s.ensures) (+ℤ_idl _)
