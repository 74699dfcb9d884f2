-- The entries of tables that passed the checks 3 to 5.
use Prim.Native.Nat.{ℕ, ◌<◌}
use mathlib.Core.List.{List}
use lib.IntN.{ℤ}
use Rattle.integers.specs.Numbers.{Within}
use Rattle.tables.specs.Ranges.{entry_range}
use Rattle.tables.specs.Matrix.{at}
use Rattle.tables.specs.Bounds.{CheckedTables}

module _ {n : ℕ} {l u : List ℤ} (t : CheckedTables n l u) {i j : ℕ} (h : i < n) (k : j < n) where
  pub low-within : Within entry_range (at n l i j)
  low-within = record { size = t.bounds.low_range i j h k }

  pub high-within : Within entry_range (at n u i j)
  high-within = record { size = t.bounds.high_range i j h k }
