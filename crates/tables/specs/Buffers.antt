-- What the code leaves in a buffer.
use Rattle.std.specs.Prelude.{◌≡◌, List, ℕ, ◌<◌, ℤ, length}
use Rattle.tables.specs.Matrix.{nth}

-- f 0, .., f (m - 1) stand in x, which has room for s numbers
pub record Filled (s m : ℕ) (f : ℕ → ℤ) (x : List ℤ) : Type 0 where
  pub size : length x ≡ s
  pub entries : (k : ℕ) → k < m → nth x k ≡ f k
