-- R28.8 of docs/RULES.md: the run area as the list of its numbers, and what a start leaves in it.
use Rattle.std.specs.Prelude.{List, ◌++◌, ℕ, zero, suc, ◌+◌, ◌*◌, ℤ, pos, length, take, drop, set, replicate}
use Rattle.std.specs.Int.{w64}
use mir.Val.{bytes}
use Rattle.words.specs.Numbers.{numbers_of, bytes_of}
use Rattle.tables.specs.Ranges.{table_room}
use Rattle.tables.specs.Matrix.{Matrix, at, tabulate}
use Rattle.cholesky.specs.Scale.{scaled}
use Rattle.cholesky.specs.Store.{stride}

-- ---- where its numbers stand: the order, the next column, and 0 or after a stop m + 1; then L, U and the columns
abbrev pub order_at : ℕ
order_at = 0

abbrev pub column_at : ℕ
column_at = 1

abbrev pub stop_at : ℕ
stop_at = 2

abbrev pub low_at : ℕ
low_at = 3

abbrev pub high_at : ℕ
high_at = low_at + table_room

abbrev pub columns_at : ℕ
columns_at = high_at + table_room

abbrev pub run_numbers : ℕ
run_numbers = columns_at + table_room

abbrev pub run_bytes : ℕ
run_bytes = run_numbers * bytes w64

-- ---- from bytes and back
abbrev pub area_of : List ℕ → List ℤ
area_of s = numbers_of w64 s run_numbers

abbrev pub area_bytes : List ℤ → List ℕ
area_bytes r = bytes_of w64 r run_numbers

-- an area of zeros
unfoldable pub blank_area : List ℤ
blank_area = replicate run_numbers (pos 0)

unfoldable pub blank_bytes : List ℕ
blank_bytes = replicate run_bytes 0

-- ---- its parts
-- the table of order n that begins at number f
unfoldable pub table_at : ℕ → List ℤ → ℕ → List ℤ
table_at n r f = take (n * n) (drop f r)

-- the columns to column j, in a table as factoring has them
unfoldable pub columns_to : List ℤ → ℕ → List ℤ
columns_to r j = take (stride * suc j) (drop columns_at r)

-- r with the numbers c in place of those from number f on
unfoldable pub laid_over : List ℤ → ℕ → List ℤ → List ℤ
laid_over r f c = take f r ++ (c ++ drop (f + length c) r)

-- r with c in front of column j
unfoldable pub laid_column : List ℤ → ℕ → List ℤ → List ℤ
laid_column r j c = laid_over r (columns_at + stride * j) c

-- r with the first k columns of H, each down to the diagonal
unfoldable pub laid_columns : Matrix → ℕ → List ℤ → List ℤ
laid_columns H zero r = r
laid_columns H (suc k) r = laid_column (laid_columns H k r) k (tabulate (suc k) (λ i. H i k))

-- ---- R28.5: the run of order n that has begun, l and u being the mended tables
unfoldable pub begun_area : ℕ → List ℤ → List ℤ → List ℤ
begun_area n l u =
    laid_columns (scaled n (at n l) (at n u)) n (laid_over (laid_over (set blank_area order_at (pos n)) low_at l) high_at u)
