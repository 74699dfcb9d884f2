use mathlib.Core.Path.{refl, ◌∙◌}
use Prim.Native.Nat.{◌*◌}
use Rattle.tables.specs.Ranges.{greatest_order, table_room}
use Rattle.integers.proofs.Machine.{clean}
use Rattle.tables.proofs.Matrix.{table_fits}
use Rattle.summary.proofs.Padding.{over_zeros}
use Rattle.writer.proofs.write.problem_of.Goals as goal

-- five loads over zeros
pub returns : goal.returns
returns g c =
    let n = c.args.n in
    let h = table_fits c.requires.order in
    rw (
      clean c.ranges.limit,
      c.load.ensures ∙ over_zeros table_room (n * n) _ h,
      c.load-2.ensures ∙ over_zeros table_room (n * n) _ h,
      c.load-3.ensures ∙ over_zeros greatest_order n _ c.requires.order,
      c.load-4.ensures ∙ over_zeros greatest_order n _ c.requires.order,
      c.load-5.ensures ∙ over_zeros greatest_order n _ c.requires.order,
    ) refl
