-- R28.9 and R28.10 of docs/RULES.md: what the next tick of a run has to do, and what it leaves.
use Rattle.std.specs.Prelude.{Bool, true, false, ◌&&◌, List, ◌++◌, ℕ, suc, ◌-◌, eqb, ℤ, pos, nat_abs, length, set}
use Rattle.std.proofs.Math.Option.{Option, none, some}
use Rattle.std.specs.Int.Signed.{le_z, lt_z}
use Rattle.tables.specs.Ranges.{factor_range}
use Rattle.tables.specs.Matrix.{Matrix, nth}
use Rattle.tables.specs.Checks.{Checked, all, within, order_of, first_refusal, table_checks}
use Rattle.std.specs.Prelude.{Ok, Err}
use Rattle.tables.specs.Entering.{low_bounds, high_bounds}
use Rattle.cholesky.specs.Factoring.{Column, next_column}
use Rattle.cholesky.specs.Store.{upper, columns_of}
use Rattle.cholesky.specs.Rows.{product_range}
use Rattle.vectors.specs.Least.{shows}
use Rattle.tried.specs.Tried.{tried, first}
use Rattle.solved.specs.Solved.{solved}
use Rattle.solved.specs.Stopped.{stopped_at, stop_range}
use Rattle.bus.specs.Registers.{settled_block}
use Rattle.bus.specs.Area.{order_at, column_at, stop_at, low_at, high_at}
use Rattle.bus.specs.Area.{area_of, area_bytes, blank_bytes, table_at, columns_to, laid_column}

-- the block and the run area
pub record Bus : Type 0 where
  pub block : List ℕ
  pub run : List ℕ

-- ---- R28.10: what a run area has to do next. n is its order, j the next column, m the rows after which that stopped
pub data Work : Type 0 where
  nothing : Work
  column : ℕ → ℕ → Work
  search : ℕ → ℕ → ℕ → Work

unfoldable pub passes : Checked → Bool
passes (Ok _) = true
passes (Err r) = false

-- the columns before j are in the range of a factor, and at least 1 on the diagonal
unfoldable pub factor_columns : List ℤ → ℕ → Bool
factor_columns t j = all j (λ l. all (suc l) (λ k. within factor_range (upper t k l)) && le_z (pos 1) (upper t l l))

-- column j can be worked out: they are so, and column j is in the range of H
unfoldable pub column_safe : List ℤ → ℕ → Bool
column_safe t j = factor_columns t j && (all j (λ k. within product_range (upper t k j)) && le_z (upper t j j) (pos product_range))

-- vectors can be solved for after a stop: they are so, and the m entries of column j are in the range of one
unfoldable pub stop_safe : List ℤ → ℕ → ℕ → Bool
stop_safe t j m = factor_columns t j && all m (λ k. within stop_range (upper t k j))

-- and these can be searched: the tables pass checks 3 to 5
unfoldable pub search_safe : ℕ → List ℤ → List ℤ → List ℤ → ℕ → ℕ → Bool
search_safe n l u t j m = stop_safe t j m && passes (first_refusal (table_checks n l u))

-- column j is next
unfoldable pub column_work : List ℤ → ℕ → ℕ → Work
column_work r n j = elim (column_safe (columns_to r j) j) [ true ↦ column n j | false ↦ nothing ]

-- it stopped after m rows
unfoldable pub search_work : List ℤ → ℕ → ℕ → ℕ → Work
search_work r n j m =
    elim (search_safe n (table_at n r low_at) (table_at n r high_at) (columns_to r j) j m) [ true ↦ search n j m | false ↦ nothing ]

-- p is 0, or tells after how many rows it stopped
unfoldable pub work_at : List ℤ → ℕ → ℕ → ℤ → Work
work_at r n j p =
    elim (le_z (pos 1) p) [
      | true ↦ elim (le_z p (pos (suc j))) [ true ↦ search_work r n j (nat_abs p - 1) | false ↦ nothing ]
      | false ↦ elim (le_z (pos 0) p) [ true ↦ column_work r n j | false ↦ nothing ]
    ]

unfoldable pub work_of : List ℤ → Work
work_of r =
    let n : ℕ = order_of (nth r order_at) in
    let j : ℤ = nth r column_at in
    elim (le_z (pos 0) j && lt_z j (pos n)) [ true ↦ work_at r n (nat_abs j) (nth r stop_at) | false ↦ nothing ]

-- ---- R28.9: a tick
-- the verdict v is given
unfoldable pub settled : ℕ → List ℕ → Bus
settled v b = record { block = settled_block v b; run = blank_bytes }

abbrev pub definite_verdict : ℕ
definite_verdict = 1

-- that of the search
unfoldable pub search_verdict : Option (List ℤ) → ℕ
search_verdict (some x) = 2
search_verdict none = 3

-- column j was worked out: it is the last one and done, or another, or it stopped
unfoldable pub column_taken : List ℕ → List ℤ → ℕ → ℕ → Column → Bus
column_taken b r n j c =
    elim c.done [
      | true ↦ elim (eqb (suc j) n) [
        | true ↦ settled definite_verdict b
        | false ↦ record { block = b; run = area_bytes (set (laid_column r j c.column) column_at (pos (suc j))) }
      ]
      | false ↦ record { block = b; run = area_bytes (set (laid_column r j c.column) stop_at (pos (suc (length c.column)))) }
    ]

-- the first listed vector that shows 'not definite', where t has the columns of a factoring that stopped in column j after m rows
unfoldable pub listed_shows : ℕ → Matrix → Matrix → List ℤ → ℕ → ℕ → Option (List ℤ)
listed_shows n L U t j m =
    first (λ x. shows n L U (nth x)) (tried n ++ (solved n (stopped_at t j m) (pos 1) ++ solved n (stopped_at t j m) (pos 64)))

unfoldable pub worked : List ℕ → List ℕ → Work → Bus
worked b s nothing = record { block = b; run = s }
worked b s (column n j) =
    let r : List ℤ = area_of s in
    let t : List ℤ = columns_to r j in
    column_taken b r n j (next_column (upper t) (columns_of t j))
worked b s (search n j m) =
    let r : List ℤ = area_of s in
    let L : Matrix = low_bounds n (table_at n r low_at) in
    let U : Matrix = high_bounds n (table_at n r high_at) in
    settled (search_verdict (listed_shows n L U (columns_to r j) j m)) b
