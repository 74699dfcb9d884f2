-- The tables of the code: entry (i, j) at stride j + i, of which rows and columns from i on are left.
use Rattle.std.specs.Prelude.{◌≡◌, Bool, true, false, ◌&&◌, List, ℕ, ◌-◌, ◌^◌, ◌≤◌, ◌<◌, leb, ltb, ℤ, pos, ◌-ℤ◌, ◌*ℤ◌, length}
use Rattle.std.specs.Int.Signed.{le_z}
use Rattle.tables.specs.Ranges.{greatest_order, table_room}
use Rattle.tables.specs.Matrix.{Matrix}
use Rattle.cholesky.specs.Scale.{scale}
use Rattle.cholesky.specs.Store.{upper}
use Rattle.cholesky.specs.Reduced.{ends_from}
use Rattle.cholesky.specs.Rows.{Factorable}
use Rattle.steps.specs.Steps.{lowered, bits, step_bits}

-- ---- lowered diagonals
-- a step is below 2^20, and H is 2^32 times the tables
abbrev pub step_range : ℕ
step_range = 2 ^ 52

-- e for each of first, .., last - 1, and 0 elsewhere
unfoldable pub taken : ℕ → ℕ → ℤ → ℕ → ℤ
taken first last e i = elim (leb first i && ltb i last) [ true ↦ e | false ↦ pos 0 ]

-- where i is first or later, at least 1 is left of S(i,i) with e taken off
unfoldable pub stays : Matrix → ℕ → ℤ → ℕ → Bool
stays S first e i = elim (leb first i) [ true ↦ le_z (pos 1) (S i i -ℤ e) | false ↦ true ]

-- s' has the entries of s, with e taken off its diagonal entries first, .., last - 1
pub record Lowered (first last : ℕ) (e : ℤ) (s s' : List ℤ) : Type 0 where
  pub size : length s' ≡ table_room
  pub entries : (a b : ℕ) → a < greatest_order → b < greatest_order → upper s' a b ≡ lowered (taken first last e) (upper s) a b

-- a matrix of order n of which rows and columns from first on are left, and diagonal entries from first to last - 1 that can be
-- lowered: one at least
pub record Triable (n first last : ℕ) (s : List ℤ) : Type 0 where
  pub left : Factorable s n first
  pub inside : last ≤ n
  pub ordered : first ≤ last
  pub some : first < n → first < last

-- the step of the diagonal entries first, .., last - 1, of the matrix that is left from row first on: its entries are 2^32 times those
-- of the tables
unfoldable pub step_from : ℕ → ℕ → ℕ → Matrix → ℤ
step_from n first last S = bits (λ t. ends_from (n - first) (lowered (taken first last (scale *ℤ t)) S) first) step_bits (pos 0)
