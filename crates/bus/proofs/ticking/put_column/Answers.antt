use mathlib.Core.Path.{ap, ◌∙◌}
use mathlib.Core.List.{List}
use native.Mathlib.Omega.{arith}
use lib.IntN.{ℤ, pos}
use mir.Syntax.{w64}
use mir.Val.{SFits}
use Rattle.integers.proofs.Machine.{clean, fits}
use Rattle.cholesky.specs.Store.{column_of}
use Rattle.bus.specs.Area.{area_of, area_bytes, laid_column}
use Rattle.bus.proofs.Areas.{area_of_lem, area_set, area-read}
use Rattle.bus.proofs.Worked.{column_set}
use Rattle.bus.proofs.ticking.put_column.Goals as goal

pub returns : goal.returns
returns c =
    let a = c.args in
    let f : SFits w64 (pos a.v) = fits (omega arith) in
    let r = area_of_lem (record { each = λ i. omega (arith, c.slice_known-1.given i) }) c.requires.0 in
    let n = area_set r a.k (pos a.v) f (rw (clean f) at c.store_number.ensures) in
    let x = column_of a.t.now a.j a.count in
    c.store_column.ensures
    ∙ ap area_bytes
    (ap (λ (y : List ℤ). laid_column y a.j x) (area-read n) ∙ column_set (area_of a.run.now) a.j a.k x (pos a.v) c.requires.1 r.numbers)
