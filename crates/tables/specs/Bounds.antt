-- What checks 3, 4 and 5 (R5 of docs/RULES.md) leave of the mended tables of a problem: all that the theorems ask of them.
use Rattle.std.specs.Prelude.{◌≡◌, List, ℕ, ◌*◌, ◌<◌, ◌≤◌, ℤ, nat_abs, ◌≤ℤ◌, length}
use Rattle.tables.specs.Ranges.{greatest_order, entry_range}
use Rattle.tables.specs.Matrix.{Matrix, at}

pub record Bounds (n : ℕ) (L U : Matrix) : Type 0 where
  pub low_range : (i j : ℕ) → i < n → j < n → nat_abs (L i j) ≤ entry_range
  pub high_range : (i j : ℕ) → i < n → j < n → nat_abs (U i j) ≤ entry_range
  pub ordered : (i j : ℕ) → i < n → j < n → L i j ≤ℤ U i j
  pub low_symmetric : (i j : ℕ) → i < n → j < n → L i j ≡ L j i
  pub high_symmetric : (i j : ℕ) → i < n → j < n → U i j ≡ U j i

-- tables of order n, in the first n² numbers of each
pub record HandedTables (n : ℕ) (l u : List ℤ) : Type 0 where
  pub order : n ≤ greatest_order
  pub low-length : n * n ≤ length l
  pub high-length : n * n ≤ length u

-- tables of order n that passed the checks 3 to 5 and are mended: the first n² numbers of each
pub record CheckedTables (n : ℕ) (l u : List ℤ) : Type 0 where
  pub order : n ≤ greatest_order
  pub low-length : n * n ≤ length l
  pub high-length : n * n ≤ length u
  pub bounds : Bounds n (at n l) (at n u)
