use mathlib.Core.Path.{◌∙◌}
use native.Mathlib.Omega.{arith}
use Rattle.integers.proofs.Machine.{clean}
use Rattle.bus.proofs.Areas.{area_of_lem, area_store}
use Rattle.bus.proofs.area.store_number.Goals as goal

pub returns : goal.returns
returns c =
    let a = area_of_lem (record { each = λ i. omega (arith, c.slice_known-1.given i) }) c.requires.0 in
    rw (clean c.ranges.v) at c.store_signed.ensures ∙ area_store c.args.k c.args.v c.requires.1 a
