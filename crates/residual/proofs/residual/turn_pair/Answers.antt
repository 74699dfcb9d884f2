use mir.Syntax.{w64}
use mir.Val.{SFits}
use Rattle.std.proofs.Common.{rules}
use Rattle.std.proofs.lemmas.Int.{to_z-of_z}
use Rattle.tables.specs.Matrix.{at}
use Rattle.residual.proofs.Sizes.{scaled_fits, residual_fits}
use Rattle.residual.proofs.residual.turn_pair.Goals as goal

pub returns : goal.returns
unfolding at
returns c =
    let e = c.requires.3.entry in
    let f : SFits w64 (at c.args.n c.args.t.now c.args.i c.args.j) = search rules in
    let m = scaled_fits e in
    let s = residual_fits e c.requires.4 in
    let p : SFits w64 c.args.p = c.ranges.p in
    simp to_z-of_z
