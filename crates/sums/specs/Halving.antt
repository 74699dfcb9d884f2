-- R23.5 and R23.6 of docs/RULES.md: sums that are halved, and adding to sums with at most one halving.
use Rattle.std.specs.Prelude.{true, false, ℕ, ◌*◌, ℤ, pos, Ok, Err}
use Rattle.integers.specs.Division.{floor_div, ceil_div}
use Rattle.tables.specs.Matrix.{nth, tabulate}
use Rattle.tables.specs.Problem.{constraint_of}
use Rattle.tables.specs.declared.Refusal.TheVariants.{Full}
use Rattle.tables.specs.declared.problem.Constraint.{Constraint}
use Rattle.sums.specs.Sums.{Outcome, plus, sums_within}

-- half of x, rounded down and up
abbrev pub half_down : ℤ → ℤ
half_down x = floor_div x (pos 2)

abbrev pub half_up : ℤ → ℤ
half_up x = ceil_div x (pos 2)

-- R23.5: lows are rounded down, highs and the running limit up
unfoldable pub halved : Constraint → Constraint
halved c =
    let n : ℕ = c.order in
    constraint_of n (tabulate (n * n) (λ k. half_down (nth c.low k))) (tabulate (n * n) (λ k. half_up (nth c.high k)))
    (tabulate n (λ k. half_down (nth c.linear.low k)))
    (tabulate n (λ k. half_up (nth c.linear.high k)))
    (half_up c.limit)

-- sums with g added, where each is in its range then
unfoldable pub added_in : Constraint → Constraint → Outcome
added_in g c = elim (sums_within (plus g c)) [ true ↦ Ok (plus g c) | false ↦ Err Full ]

-- R23.6: g is added to the sums, or else to their halves; 18 where that is not enough
unfoldable pub fitted : Constraint → Constraint → Outcome
fitted g c = elim (sums_within (plus g c)) [ true ↦ Ok (plus g c) | false ↦ added_in g (halved c) ]
