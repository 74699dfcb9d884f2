-- By the test.
use mathlib.Core.Path.{◌∙◌}
use lib.IntN.{pos}
use Rattle.integers.proofs.Order.{<_suc}
use Rattle.integers.proofs.Machine.{clean, clean_result, le_no, fits_literal}
use Rattle.sides.proofs.HalfSides.{half_flat, half_root}
use Rattle.sides.proofs.half_side.Goals as goal

pub returns-then-t-le0 : goal.returns-then-t-le0
returns-then-t-le0 c = let f = c.ranges in clean f.y ∙ half_flat _ _ _ (rw (clean f.t) at c.if-t-le0.true)

pub least_root-z-requires : goal.least_root-z-requires
least_root-z-requires c =
    rw (clean c.ranges.b, clean c.ranges.t)
    (c.requires, <_suc (le_no {x = c.args.t} {y = pos 0} c.ranges.t (fits_literal tt) c.if-t-le0.false))

pub returns : goal.returns
returns c =
    let z = c.least_root-z in
    let f = c.ranges in
    clean_result c.smaller ∙ c.smaller.ensures
    ∙ rw (clean_result z, z.ensures, clean f.y, clean f.t, clean f.b) (half_root _ _ _ (rw (clean f.t) at c.if-t-le0.false))
