use mathlib.Core.Path.{◌≡◌, ◌∙◌}
use native.Mathlib.Omega.{arith}
use native.Mathlib.Numerals.{add-one}
use mir.Syntax.{w64}
use mir.Val.{to_z, of_z}
use Rattle.integers.specs.Division.{ceil_div}
use Rattle.integers.specs.Root.{least_root}
use Rattle.integers.proofs.Machine.{clean, clean_element, clean_result}
use Rattle.tables.specs.Matrix.{nth}
use Rattle.tables.proofs.Buffers.{filled_more}
use Rattle.sides.proofs.HalfSides.{half_fits}
use Rattle.sides.proofs.first_halves.Goals as goal
use Rattle.sides.proofs.first_halves.Goals.{After-ceil_div, After-least_root-s}

quotient : (c : After-ceil_div) →
    let s = c.args in
    to_z w64 (of_z w64 c.ceil_div.result) ≡ ceil_div (nth s.g.now c.loop-k.k) s.t
quotient c =
    let f = c.ranges in
    clean_result c.ceil_div ∙ c.ceil_div.ensures ∙ rw (clean f.t, clean_element _ c.ceil_div-arg-1.given)

root : (c : After-least_root-s) → to_z w64 (of_z w64 c.least_root-s.result) ≡ least_root c.args.t c.args.b
root c = let f = c.ranges in clean_result c.least_root-s ∙ c.least_root-s.ensures ∙ rw (clean f.t, clean f.b)

pub overflow_add-y : goal.overflow_add-y
overflow_add-y c =
    let at = goal.at.overflow_add-y c in
    rw (quotient at.After-ceil_div, root at.After-least_root-s) (half_fits c.requires.0 c.requires.1 c.loop-k-test.true)

pub loop-k-preserved : goal.loop-k-preserved
loop-k-preserved c =
    let order = c.requires.0.order in
    let at = goal.at.loop-k-preserved c in
    rw (add-one, clean c.ranges.t, clean c.ranges.b)
    (filled_more (omega arith) (clean (overflow_add-y c) ∙ rw (quotient at.After-ceil_div, root at.After-least_root-s))
    (rw (clean c.ranges.t, clean c.ranges.b) at c.loop-k.invariant))
