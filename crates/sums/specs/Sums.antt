-- R23 of docs/RULES.md: running sums of any order, which are a constraint with the running limit for its limit: their checks, and what is
-- added to them.
use Rattle.std.specs.Prelude.{Bool, ◌&&◌, List, ◌++◌, ℕ, ◌*◌, ℤ, ◌+ℤ◌, Result}
use Rattle.tables.specs.Ranges.{limit_range}
use Rattle.tables.specs.Matrix.{nth, tabulate}
use Rattle.tables.specs.Checks.{Check, within, linear_within, tables_within, bounds_checks}
use Rattle.tables.specs.Problem.{constraint_of, constraint_ends}
use Rattle.tables.specs.declared.Refusal.{Refusal}
use Rattle.tables.specs.declared.problem.Constraint.{Constraint}

-- the sums with something added to them, or the refusal
abbrev pub Outcome : Type 0
Outcome = Result Constraint Refusal

-- ---- the checks of sums, and of problems that are added to them
-- 3 asks beside the tables: both ends of the linear terms, and `limits`, of the call's limits
abbrev pub terms_in : Bool → Constraint → Bool
terms_in limits c = linear_within c.order c.linear.low c.linear.high && limits

-- 3, 4, 5 and 16
abbrev pub sums_checks : Bool → Constraint → List Check
sums_checks limits c = bounds_checks (terms_in limits c) c.order c.low c.high ++ constraint_ends c

-- the same, where the only limit is the constraint's own
abbrev pub own_checks : Constraint → List Check
own_checks c = sums_checks (within limit_range c.limit) c

-- ---- adding
-- m numbers of x, each with that of g added
abbrev pub added_to : ℕ → List ℤ → List ℤ → List ℤ
added_to m g x = tabulate m (λ k. nth x k +ℤ nth g k)

-- sums c with g added, which has their order: number by number, and the limits too
unfoldable pub plus : Constraint → Constraint → Constraint
plus g c =
    let n : ℕ = c.order in
    constraint_of n (added_to (n * n) g.low c.low) (added_to (n * n) g.high c.high) (added_to n g.linear.low c.linear.low)
    (added_to n g.linear.high c.linear.high)
    (c.limit +ℤ g.limit)

-- 18, R4.18: every sum is in its range
unfoldable pub sums_within : Constraint → Bool
sums_within c =
    linear_within c.order c.linear.low c.linear.high
    && (within limit_range c.limit && tables_within (c.order * c.order) c.low c.high)

-- R23.2: the constraint that sums give with the allowance K: its limit is K and the running limit
abbrev pub allowing : ℤ → Constraint → Constraint
allowing K c = constraint_of c.order c.low c.high c.linear.low c.linear.high (K +ℤ c.limit)
