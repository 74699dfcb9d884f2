-- R2 of docs/RULES.md, a problem as one thing: a constraint, x'Mx + 2a'x ≤ limit with bounds of M and of a, and a centre. Lists may be
-- longer than the order calls for: the first n² or n numbers count.
use Rattle.std.specs.Prelude.{Bool, ◌&&◌, List, ◌++◌, ℕ, eqb, ℤ}
use Rattle.tables.specs.Matrix.{nth}
use Rattle.tables.specs.Mending.{mended_low, mended_high}
use Rattle.tables.specs.Members.{Ends}
use Rattle.tables.specs.Checks.{Check, sizes_ok, terms_within, bounds_checks, ends_checks, first_refusal}
use Rattle.tables.specs.Answers.{after}
use Rattle.tables.specs.Entering.{entered}
use Rattle.tables.specs.declared.Refusal.{Refusal}
use Rattle.tables.specs.declared.problem.Constraint.{Constraint}
use Rattle.tables.specs.declared.problem.Problem.{Problem}
use Rattle.tables.specs.declared.problem.Sizes.{Sizes}
use Rattle.tables.specs.declared.problem.Lengths.{Lengths}

-- linear terms from a to b
abbrev pub constraint_of : ℕ → List ℤ → List ℤ → List ℤ → List ℤ → ℤ → Constraint
constraint_of n l u a b α = record { order = n; low = l; high = u; linear = record { low = a; high = b }; limit = α }

abbrev pub problem_of : ℕ → List ℤ → List ℤ → List ℤ → List ℤ → ℤ → List ℤ → Problem
problem_of n l u a b α c = record { constraint = constraint_of n l u a b α; centre = c }

-- the ends of linear terms, from their lists
abbrev pub ends_of : List ℤ → List ℤ → Ends
ends_of a b = record { low = nth a; high = nth b }

abbrev pub ends_in : Constraint → Ends
ends_in c = ends_of c.linear.low c.linear.high

-- R2.10: a constraint, and a problem, with its tables mended
abbrev pub mended_constraint : Constraint → Constraint
mended_constraint c =
    constraint_of c.order (mended_low c.order c.low) (mended_high c.order c.high) c.linear.low c.linear.high c.limit

abbrev pub mended_problem : Problem → Problem
mended_problem p = record { constraint = mended_constraint p.constraint; centre = p.centre }

-- the sizes of the buffers of a constraint: bounds l and u, linear terms from a to b
abbrev pub lengths_of : ℕ → ℕ → ℕ → ℕ → Lengths
lengths_of l u a b = record { bounds = record { low = l; high = u }; linear = record { low = a; high = b } }

-- 2, R4.2: the buffers of a constraint have the sizes that the order calls for
unfoldable pub constraint_sized : Sizes → Lengths → Bool
constraint_sized z b =
    sizes_ok z.table z.vector b.bounds.low b.bounds.high b.linear.low && eqb b.linear.high z.vector

-- 3, of the linear terms, the limit and the centre
abbrev pub problem_within : Problem → Bool
problem_within p = let c = p.constraint in terms_within c.order c.linear.low c.linear.high c.limit p.centre

-- 16
abbrev pub constraint_ends : Constraint → List Check
constraint_ends c = ends_checks c.order c.linear.low c.linear.high

-- 3, 4, 5 and 16
abbrev pub problem_checks : Problem → List Check
problem_checks p =
    let c = p.constraint in
    bounds_checks (problem_within p) c.order c.low c.high ++ constraint_ends c

-- R5.5: the door of an act on a constraint of the order of n: checks 1 to 5, then 16, and then the act
unfoldable pub constraint_entered : {A : Type 0} → (Refusal → A) → ℤ → Bool → Bool → Constraint → A → A
constraint_entered refused n sized others c a =
    entered refused n sized others c.low c.high (after refused (first_refusal (constraint_ends c)) a)
