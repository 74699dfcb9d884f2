-- What the code asks of its numbers, so that every sum and product fits 64 bits.
use Rattle.std.specs.Prelude.{List, ℕ, ◌*◌, ◌^◌, ◌≤◌, ◌<◌, ℤ, ◌*ℤ◌, length}
use Rattle.integers.specs.Numbers.{Within}
use Rattle.tables.specs.Ranges.{greatest_order}
use Rattle.tables.specs.Matrix.{nth}

-- the roots that are taken are within this range
abbrev pub root_range : ℕ
root_range = 2 ^ 29

-- and their numbers, and numerators, within its square
abbrev pub bound_range : ℕ
bound_range = root_range * root_range

-- the products of a sum are within this range
abbrev pub term_range : ℕ
term_range = 2 ^ 50

-- two vectors of order n, with such products
pub record ProductTerms (n : ℕ) (x y : List ℤ) : Type 0 where
  pub order : n ≤ greatest_order
  pub first-length : n ≤ length x
  pub second-length : n ≤ length y
  pub products : (k : ℕ) → k < n → Within term_range (nth x k *ℤ nth y k)
