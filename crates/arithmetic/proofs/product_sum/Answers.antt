use mathlib.Core.Path.{sym}
use native.Mathlib.Numerals.{add-one}
use mir.Syntax.{w64}
use mir.Val.{SFits}
use Rattle.std.proofs.Common.{rules}
use Rattle.std.proofs.lemmas.Int.{to_z-of_z}
use Rattle.integers.proofs.Sums.{sum_zero, sum_suc}
use Rattle.tables.specs.Matrix.{nth}
use Rattle.arithmetic.proofs.Products.{term_fits, terms_add}
use Rattle.arithmetic.proofs.product_sum.Goals as goal

pub overflow_add-s : goal.overflow_add-s
overflow_add-s c =
    let x : SFits w64 (nth c.args.x.now c.loop-k.k) = search rules in
    let y : SFits w64 (nth c.args.y.now c.loop-k.k) = search rules in
    let p = term_fits c.requires c.loop-k-test.true in
    simp (to_z-of_z, c.loop-k.invariant) (terms_add c.requires c.loop-k-test.true)

pub loop-k-init : goal.loop-k-init
loop-k-init c = sym (sum_zero _)

pub loop-k-preserved : goal.loop-k-preserved
loop-k-preserved c =
    let x : SFits w64 (nth c.args.x.now c.loop-k.k) = search rules in
    let y : SFits w64 (nth c.args.y.now c.loop-k.k) = search rules in
    let p = term_fits c.requires c.loop-k-test.true in
    let f = terms_add c.requires c.loop-k-test.true in
    simp (to_z-of_z, c.loop-k.invariant, add-one, sum_suc)
