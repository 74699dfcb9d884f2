-- R12 to R14 of docs/RULES.md: what the box act answers, from the steps, the bounds at the centre and the sides.
use Rattle.std.specs.Prelude.{Bool, true, false, ℕ, ℤ, pos}
use Rattle.std.specs.Int.Signed.{le_z}
use Rattle.tables.specs.Ranges.{gradient_range}
use Rattle.tables.specs.Matrix.{Matrix, nth, tabulate}
use Rattle.tables.specs.Checks.{all}
use Rattle.tables.specs.Members.{Ends}
use Rattle.tables.specs.Problem.{ends_in, problem_within, constraint_entered}
use Rattle.tables.specs.declared.problem.Problem.{Problem}
use Rattle.tables.specs.Entering.{low_bounds, high_bounds}
use Rattle.tables.specs.declared.Refusal.TheVariants.{Flat, Far}
use Rattle.steps.specs.Steps.{step, step_at}
use Rattle.centre.specs.Centre.{gradient, at_centre}
use Rattle.sides.specs.Sides.{box_of}
pub use Rattle.sides.specs.Sides.{Box, sides, empty, refused}

-- R4.8 and R4.9: 8 where t is 0, 9 where some g(k) is above 2^20, and else the box: of bounds L and U, linear terms between the ends of a,
-- limit α and centre c
unfoldable pub boxed : ℕ → Matrix → Matrix → Ends → ℤ → (ℕ → ℤ) → Box
boxed n L U a α c =
    let t : ℤ = step n L U in
    let g : ℕ → ℤ = nth (tabulate n (gradient n L U a c)) in
    elim (le_z t (pos 0)) [
      | true ↦ refused Flat
      | false ↦ elim (all n (λ k. le_z (g k) (pos gradient_range))) [
        | true ↦ box_of n c (at_centre n L U a c α) t (nth (tabulate n (step_at n L U))) g
        | false ↦ refused Far
      ]
    ]

-- the box of a problem that passed the checks
unfoldable pub problem_box : Problem → Box
problem_box p =
    let c = p.constraint in
    let n : ℕ = c.order in
    boxed n (low_bounds n c.low) (high_bounds n c.high) (ends_in c) c.limit (nth p.centre)

-- checks 1 to 5 and 16, where check 2 finds `sized`, and the box of a problem whose order is that of n
unfoldable pub boxing : ℤ → Bool → Problem → Box
boxing n sized p = constraint_entered refused n sized (problem_within p) p.constraint (problem_box p)
