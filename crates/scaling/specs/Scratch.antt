-- What the code of the scaling asks and leaves.
use Rattle.std.specs.Prelude.{◌≡◌, Bool, true, List, ℕ, ◌+◌, ◌*◌, ◌≤◌, ◌<◌, ℤ, pos, nat_abs, ◌≤ℤ◌, length}
use Rattle.integers.specs.Numbers.{Within}
use Rattle.tables.specs.Ranges.{greatest_order, table_room, entry_range}
use Rattle.tables.specs.Matrix.{Matrix, at, nth}
use Rattle.tables.specs.Checks.{within}
use Rattle.tables.specs.Bounds.{CheckedTables}
use Rattle.tables.specs.Entering.{Rooms}
use Rattle.scaling.specs.Scaling.{greatest_exponent, exponents, rescaled, scaled_low, scaled_high, scaled_within}

-- a number of a scale
pub record Exponent (a : ℤ) : Type 0 where
  pub low : pos 0 ≤ℤ a
  pub high : nat_abs a ≤ greatest_exponent

-- the numbers that stand in x
abbrev pub scale_in : List ℤ → ℕ → ℕ
scale_in x i = nat_abs (nth x i)

-- x has the numbers k(0), .., k(m - 1), none above the greatest
pub record Scale (k : ℕ → ℕ) (m : ℕ) (x : List ℤ) : Type 0 where
  pub size : length x ≡ greatest_order
  pub numbers : (i : ℕ) → i < m → nth x i ≡ pos (k i)
  pub small : (i : ℕ) → i < m → k i ≤ greatest_exponent

-- the entries of a table of order n are inside of ±2^20
abbrev pub InRange : ℕ → List ℤ → Type 0
InRange n t = (i j : ℕ) → i < n → j < n → Within entry_range (at n t i j)

-- numbers a to b - 1 of t are those of M scaled, all of them inside of ±2^20, and the others those of M
pub record Part (n : ℕ) (k : ℕ → ℕ) (M : Matrix) (a b : ℕ) (t : List ℤ) : Type 0 where
  pub scaled : (i j : ℕ) → j < n → a ≤ i * n + j → i * n + j < b → at n t i j ≡ rescaled k M i j
  pub inside : (i j : ℕ) → j < n → a ≤ i * n + j → i * n + j < b → within entry_range (rescaled k M i j) ≡ true
  pub before : (i j : ℕ) → j < n → i * n + j < a → at n t i j ≡ M i j
  pub behind : (i j : ℕ) → j < n → b ≤ i * n + j → at n t i j ≡ M i j

-- the answer r whether numbers stay inside, and if so these numbers scaled
pub record Rescaling (n : ℕ) (k : ℕ → ℕ) (M : Matrix) (a b : ℕ) (stay r : Bool) (t : List ℤ) : Type 0 where
  pub answered : r ≡ stay
  pub size : length t ≡ table_room
  pub part : r ≡ true → Part n k M a b t

-- the answer r whether all entries of bounds L and U, scaled, are inside of ±2^20, the scale in x, and if so the scaled tables in l and u
pub record ScaledTables (n : ℕ) (L U : Matrix) (r : Bool) (l u x : List ℤ) : Type 0 where
  pub answered : r ≡ scaled_within n L U
  pub scale : Scale (exponents U) n x
  pub rooms : Rooms l u
  pub tables : r ≡ true → CheckedTables n l u
  pub low : r ≡ true → (i j : ℕ) → i < n → j < n → at n l i j ≡ scaled_low L U i j
  pub high : r ≡ true → (i j : ℕ) → i < n → j < n → at n u i j ≡ scaled_high U i j
