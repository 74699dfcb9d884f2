-- R13 of docs/RULES.md: the bounds at the centre c of a box, g(k) and D.
use Rattle.std.specs.Prelude.{ℕ, ℤ, pos, ◌+ℤ◌, ◌-ℤ◌, ◌*ℤ◌}
use Rattle.integers.specs.Numbers.{abs_ℤ, min_ℤ, max_ℤ}
use Rattle.integers.specs.Sum.{sum}
use Rattle.tables.specs.Matrix.{Matrix}
use Rattle.tables.specs.Members.{Ends}
use Rattle.vectors.specs.Least.{least_value}

-- the least and the greatest sum of x(j) c(j), where each x(j) is chosen between l(j) and u(j)
abbrev pub least_sum : ℕ → (ℕ → ℤ) → (ℕ → ℤ) → (ℕ → ℤ) → ℤ
least_sum n l u c = sum n (λ j. min_ℤ (l j *ℤ c j) (u j *ℤ c j))

abbrev pub greatest_sum : ℕ → (ℕ → ℤ) → (ℕ → ℤ) → (ℕ → ℤ) → ℤ
greatest_sum n l u c = sum n (λ j. max_ℤ (l j *ℤ c j) (u j *ℤ c j))

-- bounds L and U, and linear terms between the ends of a
module _ (n : ℕ) (L U : Matrix) (a : Ends) (c : ℕ → ℤ) where
  -- R13.1: the least and the greatest entry k of M c + a, where the entries of M in that row and a(k) are chosen independently
  unfoldable pub low_gradient : ℕ → ℤ
  low_gradient k = least_sum n (L k) (U k) c +ℤ a.low k

  unfoldable pub high_gradient : ℕ → ℤ
  high_gradient k = greatest_sum n (L k) (U k) c +ℤ a.high k

  -- R13.1: g(k), the greater of their absolute values
  unfoldable pub gradient : ℕ → ℤ
  gradient k = max_ℤ (abs_ℤ (low_gradient k)) (abs_ℤ (high_gradient k))

  -- R13.2: D, the limit less twice the least sum of a(k) c(k), and less least(c)
  unfoldable pub at_centre : ℤ → ℤ
  at_centre α = α -ℤ pos 2 *ℤ least_sum n a.low a.high c -ℤ least_value n L U c
