-- A row step on a table of entry (i, j) at stride j + i, of which rows and columns from i on are left: row i is replaced by the
-- factor's, and the rows after it by the Schur complement.
use Rattle.std.specs.Prelude.{◌≡◌, Bool, true, false, List, ℕ, suc, ◌+◌, ◌*◌, ◌≤◌, ◌<◌, ℤ, pos, ◌-ℤ◌, ◌*ℤ◌, ◌≤ℤ◌, length}
use Rattle.std.specs.Int.Signed.{le_z}
use Rattle.integers.specs.Numbers.{Within}
use Rattle.integers.specs.Root.{whole_root}
use Rattle.tables.specs.Ranges.{greatest_order, table_room, factor_range}
use Rattle.cholesky.specs.Factoring.{goes_on}
use Rattle.cholesky.specs.Store.{upper}
use Rattle.cholesky.specs.Reduced.{row_entry, reduced}

-- ---- sizes: H(i,j) off the diagonal, H(j,j) from above, and each product of two entries of a factor are within product_range; and
-- the width of a row takes at most greatest_order times as much off its diagonal entry
abbrev pub product_range : ℕ
product_range = factor_range * factor_range

abbrev pub rest_range : ℕ
rest_range = (greatest_order + 2) * product_range

-- what is left of a matrix after i rows, so small that 64 bits hold the factoring of it
pub record Factorable (s : List ℤ) (n i : ℕ) : Type 0 where
  pub size : length s ≡ table_room
  pub order : n ≤ greatest_order
  pub off : (a b : ℕ) → i ≤ a → a < b → b < n → Within (suc i * product_range) (upper s a b)
  pub on : (a : ℕ) → i ≤ a → a < n → Within rest_range (upper s a a)
  pub top : (a : ℕ) → i ≤ a → a < n → upper s a a ≤ℤ pos product_range

-- ---- one column of a row
-- the entries of row i after column i and before column m are within a factor's range, and those of column j below it are rests
pub record Rowed (s : List ℤ) (i j m : ℕ) : Type 0 where
  pub size : length s ≡ table_room
  pub inside : j < greatest_order
  pub before : i < j
  pub row : (k : ℕ) → i < k → k < m → Within factor_range (upper s i k)
  pub heights : (k : ℕ) → i < k → k ≤ j → Within rest_range (upper s k j)

-- r(i,k) r was subtracted from entry (k,j) for each k from i + 1 to m - 1
pub record Subtracted (s : List ℤ) (i j : ℕ) (r : ℤ) (m : ℕ) (s' : List ℤ) : Type 0 where
  pub size : length s' ≡ table_room
  pub taken : (k : ℕ) → i < k → k < m → upper s' k j ≡ upper s k j -ℤ upper s i k *ℤ r
  pub kept : (k l : ℕ) → k < greatest_order → (l ≡ j → i < k → k < m → ⊥) → upper s' k l ≡ upper s k l

-- column j of row i, whose entry is r, was worked out: where it goes on, r(i,k) r was subtracted from each entry (k,j) after row i
pub record ColumnTaken (s : List ℤ) (i j : ℕ) (r : ℤ) (answer : Bool) (s' : List ℤ) : Type 0 where
  pub answered : answer ≡ goes_on r (upper s j j -ℤ r *ℤ r)
  pub size : length s' ≡ table_room
  pub stored : upper s' i j ≡ r
  pub taken : answer ≡ true → (k : ℕ) → i < k → k ≤ j → upper s' k j ≡ upper s k j -ℤ upper s' i k *ℤ r
  pub kept : (k l : ℕ) → k < greatest_order → (l ≡ j → i ≤ k → ⊥) → upper s' k l ≡ upper s k l

-- ---- a row
-- row i was worked out in the columns before j, all of which go on
pub record RowDone (s : List ℤ) (i j : ℕ) (s' : List ℤ) : Type 0 where
  pub size : length s' ≡ table_room
  pub row : (k : ℕ) → i < k → k < j → upper s' i k ≡ row_entry (upper s) i k
  pub tests : (k : ℕ) → i < k → k < j → goes_on (row_entry (upper s) i k) (reduced (upper s) i k k) ≡ true
  pub left : (a b : ℕ) → i < a → a ≤ b → b < j → upper s' a b ≡ reduced (upper s) i a b
  pub above : (k l : ℕ) → k < i → upper s' k l ≡ upper s k l

-- row i was worked out to column r, which stopped, or to the end e
pub record ColumnsTaken (s : List ℤ) (i e r : ℕ) (s' : List ℤ) : Type 0 where
  pub past : i < r
  pub bound : r ≤ e
  pub done : RowDone s i r s'
  pub stop : r < e →
      (upper s' i r ≡ row_entry (upper s) i r) × (goes_on (row_entry (upper s) i r) (reduced (upper s) i r r) ≡ false)

-- and its diagonal entry is stored
pub record RowTaken (s : List ℤ) (i e r : ℕ) (s' : List ℤ) : Type 0 where
  pub columns : ColumnsTaken s i e r s'
  pub root : upper s' i i ≡ whole_root (upper s i i)

-- ---- all rows
-- r is the first column whose diagonal entry is below 1, or n
pub record FirstBelowOne (s : List ℤ) (n r : ℕ) : Type 0 where
  pub bound : r ≤ n
  pub some : (l : ℕ) → l < r → pos 1 ≤ℤ upper s l l
  pub none : r < n → le_z (pos 1) (upper s r r) ≡ false
