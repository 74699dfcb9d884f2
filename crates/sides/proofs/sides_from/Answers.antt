use mathlib.Core.Path.{◌≡◌, ◌∙◌}
use native.Mathlib.Omega.{arith}
use lib.IntN.{ℤ}
use native.Mathlib.Numerals.{add-one}
use mir.Syntax.{w64}
use mir.Val.{to_z, of_z}
use Rattle.integers.specs.Numbers.{Within}
use Rattle.integers.proofs.Machine.{clean, clean_element, clean_result, fits_within, within-+, within--}
use Rattle.tables.specs.Matrix.{nth}
use Rattle.sides.specs.Sides.{smaller_half}
use Rattle.sides.specs.Required.{half_range}
use Rattle.sides.proofs.HalfSides.{smaller_within, sides_more}
use Rattle.sides.proofs.sides_from.Goals as goal
use Rattle.sides.proofs.sides_from.Goals.{After-half_side-h}

-- h, and its size
module _ (c : After-half_side-h) where
  abbrev h : ℤ
  h =
      let a = c.args in
      let k = c.loop-k.k in
      smaller_half (nth a.y.now k) (nth a.tk.now k) a.b

  half : to_z w64 (of_z w64 c.half_side-h.result) ≡ h
  half =
      clean_result c.half_side-h ∙ c.half_side-h.ensures
      ∙ rw (
        clean c.ranges.b,
        clean_element (nth c.args.y.now c.loop-k.k) c.half_side-arg-1.given,
        clean_element _ c.half_side-arg-in-loop-k-1.given,
      )

  half-within : Within half_range h
  half-within = let q = c.requires in smaller_within _ _ _ (q.halves c.loop-k.k c.loop-k-test.true) q.bound

pub overflow_sub-low : goal.overflow_sub-low
overflow_sub-low c =
    let at = (goal.at.overflow_sub-low c).After-half_side-h in
    let x = c.requires.centre c.loop-k.k c.loop-k-test.true in
    rw (half at, clean_element _ c.x-1.given) (fits_within (within-- x (half-within at)) (omega arith))

pub overflow_add-high : goal.overflow_add-high
overflow_add-high c =
    let at = (goal.at.overflow_add-high c).After-half_side-h in
    let x = c.requires.centre c.loop-k.k c.loop-k-test.true in
    rw (half at, clean_element _ c.x-1.given) (fits_within (within-+ x (half-within at)) (omega arith))

pub loop-k-preserved : goal.loop-k-preserved
loop-k-preserved c =
    let order = c.requires.order in
    let at = (goal.at.loop-k-preserved c).After-half_side-h in
    rw (clean c.ranges.b, clean (overflow_sub-low c), clean (overflow_add-high c), half at, clean_element _ c.x-1.given, add-one c.loop-k.k)
    (sides_more (omega arith) (rw (clean c.ranges.b) at c.loop-k.invariant))
