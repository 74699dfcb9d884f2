use mathlib.Core.Path.{sym, ◌∙◌}
use mir.Syntax.{w64}
use mir.Val.{SFits}
use Rattle.std.proofs.Common.{rules}
use Rattle.std.proofs.lemmas.Int.{to_z-of_z}
use Rattle.tables.specs.Matrix.{nth}
use Rattle.tables.proofs.Checks.{all_false}
use Rattle.residual.proofs.offered.row_shape.Goals as goal

pub returns-then-not-entry_shape : goal.returns-then-not-entry_shape
returns-then-not-entry_shape c =
    let f : SFits w64 (nth c.args.row.now c.loop-j.j) = search rules in
    sym (all_false _ _ c.loop-j.j c.loop-j-test.true (simp to_z-of_z at (sym c.entry_shape.ensures ∙ c.if-not-entry_shape.true)))
