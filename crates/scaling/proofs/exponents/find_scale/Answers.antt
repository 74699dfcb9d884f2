use mathlib.Core.Path.{◌≡◌, refl, ap, ◌∙◌}
use native.Mathlib.Omega.{arith}
use lib.IntN.{ℤ, pos}
use mir.Syntax.{w64}
use mir.Val.{to_z}
use Rattle.integers.proofs.Machine.{signed, clean_element, read_i64}
use Rattle.tables.specs.Bounded.{high_of}
use Rattle.tables.proofs.CheckedTables.{high-within}
use Rattle.scaling.specs.Scaling.{exponent, exponents}
use Rattle.scaling.proofs.Greatest.{exponent_small}
use Rattle.scaling.proofs.Scales.{scale-more}
use Rattle.scaling.proofs.exponents.find_scale.Goals as goal
use Rattle.scaling.proofs.exponents.find_scale.Goals.{After-exponent}

-- the entry, and its number
abbrev entry : (c : After-exponent) → ℤ
entry c = let i = c.loop-i.i in high_of c.args.bounds i i

found : (c : After-exponent) → c.exponent.result ≡ exponent (entry c)
found c = rw (clean_element c.high_at.result c.high_at.type_inv, c.high_at.ensures) at c.exponent.ensures

pub exponent-requires : goal.exponent-requires
exponent-requires c =
    rw (clean_element c.high_at.result c.high_at.type_inv, c.high_at.ensures)
    (high-within c.args.bounds.checked c.loop-i-test.true c.loop-i-test.true)

pub overflow_cast-scale : goal.overflow_cast-scale
overflow_cast-scale c = omega (signed, found c, exponent_small (entry c))

pub loop-i-init : goal.loop-i-init
loop-i-init c = record { size = refl; numbers = λ i h. absurd (omega arith); small = λ i h. absurd (omega arith) }

pub loop-i-preserved : goal.loop-i-preserved
unfolding exponents
loop-i-preserved c =
    let l = c.loop-i in
    let e : to_z w64 c.exponent.result ≡ pos (exponents (high_of c.args.bounds) l.i) =
    read_i64 _ (omega (arith, found c, exponent_small (entry c))) ∙ ap pos (found c) in
    rw e (scale-more l.i (omega (arith, c.args.bounds.checked.order)) (exponent_small (entry c)) l.invariant)
