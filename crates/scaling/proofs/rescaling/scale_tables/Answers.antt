use mathlib.Core.Path.{refl}
use Rattle.tables.proofs.CheckedTables.{low-within, high-within}
use Rattle.scaling.proofs.Scales.{scale_in_lem}
use Rattle.scaling.proofs.Both.{low_leaves, both_scaled}
use Rattle.scaling.proofs.rescaling.scale_tables.Goals as goal

pub scale_table-requires : goal.scale_table-requires
scale_table-requires c =
    let p = c.requires in
    (p.0.order, scale_in_lem c.find_scale.ensures, (λ i j h l. low-within p.0 h l), p.1.low-size)

pub returns-in_err-scale_table : goal.returns-in_err-scale_table
returns-in_err-scale_table c =
    let p = c.requires in
    rw c.from_residual.ensures (low_leaves p.0 c.find_scale.ensures c.in_err-scale_table.ensures refl p.1.high-size)

pub scale_table-requires-2 : goal.scale_table-requires-2
scale_table-requires-2 c =
    let p = c.requires in
    (p.0.order, scale_in_lem c.find_scale.ensures, (λ i j h l. high-within p.0 h l), p.1.high-size)

pub returns : goal.returns
returns c =
    let p = c.requires in
    both_scaled p.0 c.find_scale.ensures c.in_ok-scale_table.ensures refl c.scale_table-2.ensures
