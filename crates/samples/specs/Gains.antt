-- R22.3 to R22.5 of docs/RULES.md: what a sample adds to running sums: it is a constraint, as the sums are.
use Rattle.std.specs.Prelude.{ℕ, ℤ, pos, ◌-ℤ◌, ◌*ℤ◌}
use Rattle.integers.specs.Numbers.{min_ℤ, max_ℤ}
use Rattle.tables.specs.Matrix.{Matrix, table, tabulate}
use Rattle.tables.specs.Problem.{constraint_of}
use Rattle.tables.specs.declared.problem.Constraint.{Constraint}
use Rattle.floats.specs.declared.Neighbours.{Neighbours}
use Rattle.samples.specs.declared.sample.Sample.{Sample}
use Rattle.samples.specs.Samples.{factor_count, factor_next, draw_next}

-- R22.3: the least and the greatest of the four products of the ends
abbrev pub least_product : Neighbours → Neighbours → ℤ
least_product x y = min_ℤ (min_ℤ (y.low *ℤ x.low) (y.high *ℤ x.low)) (min_ℤ (y.low *ℤ x.high) (y.high *ℤ x.high))

abbrev pub greatest_product : Neighbours → Neighbours → ℤ
greatest_product x y = max_ℤ (max_ℤ (y.low *ℤ x.low) (y.high *ℤ x.low)) (max_ℤ (y.low *ℤ x.high) (y.high *ℤ x.high))

abbrev pub product_ends : Neighbours → Neighbours → Neighbours
product_ends x y = record { low = least_product x y; high = greatest_product x y }

-- R22.5: the least square of the ends
abbrev pub least_square : Neighbours → ℤ
least_square x = min_ℤ (x.low *ℤ x.low) (x.high *ℤ x.high)

-- of a sample with factors between the ends F and a draw between the ends D
module _ (F : ℕ → Neighbours) (D : Neighbours) where
  -- R22.3: entry (i, j) of the bounds gains the products of factors i and j
  abbrev pub low_gain : Matrix
  low_gain i j = least_product (F i) (F j)

  abbrev pub high_gain : Matrix
  high_gain i j = greatest_product (F i) (F j)

  -- R22.4: linear term i loses the products of factor i and the draw
  abbrev pub from_gain : ℕ → ℤ
  from_gain i = pos 0 -ℤ greatest_product (F i) D

  abbrev pub to_gain : ℕ → ℤ
  to_gain i = pos 0 -ℤ least_product (F i) D

  -- what sums gain by the sample
  unfoldable pub gains : Constraint
  gains =
      let n : ℕ = factor_count in
      constraint_of n (table n low_gain) (table n high_gain) (tabulate n from_gain) (tabulate n to_gain) (pos 0 -ℤ least_square D)

abbrev pub gains_of : Sample → Constraint
gains_of s = gains (factor_next s) (draw_next s)
