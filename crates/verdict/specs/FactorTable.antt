-- The table of a factor, row by row, that the judge writes.
use Rattle.std.specs.Prelude.{◌≡◌, List, ℕ, ◌+◌, ◌*◌, ◌<◌, ℤ}
use Rattle.tables.specs.Matrix.{Matrix, at}

-- the first m numbers of f are those of the table of M, of order n
pub record Written (n : ℕ) (M : Matrix) (f : List ℤ) (m : ℕ) : Type 0 where
  pub entries : (i j : ℕ) → j < n → i * n + j < m → at n f i j ≡ M i j
