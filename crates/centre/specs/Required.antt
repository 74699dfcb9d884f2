-- What the code of the bounds at the centre asks of its numbers.
use Rattle.std.specs.Prelude.{List, ℕ, ◌*◌, ◌≤◌, ◌<◌, ℤ, length}
use Rattle.integers.specs.Numbers.{Within}
use Rattle.tables.specs.Ranges.{greatest_order, entry_range, linear_range, centre_range}
use Rattle.tables.specs.Matrix.{nth}

-- ---- sizes of products: M(k,j) c(j), a(k) c(k), and c(i) M(i,j) c(j)
abbrev pub row_term_range : ℕ
row_term_range = entry_range * centre_range

abbrev pub linear_term_range : ℕ
linear_term_range = linear_range * centre_range

abbrev pub form_term_range : ℕ
form_term_range = centre_range * entry_range * centre_range

-- linear terms from a to b and a centre c, in their ranges
pub record LinearTerms (n : ℕ) (a b c : List ℤ) : Type 0 where
  pub order : n ≤ greatest_order
  pub low-length : n ≤ length a
  pub high-length : n ≤ length b
  pub centre-length : n ≤ length c
  pub low : (k : ℕ) → k < n → Within linear_range (nth a k)
  pub high : (k : ℕ) → k < n → Within linear_range (nth b k)
  pub centre : (k : ℕ) → k < n → Within centre_range (nth c k)
