-- R6 of docs/RULES.md: H into a Cholesky factor R, upper triangular, column by column, in whole numbers.
-- A matrix that is being made is the list of its columns, each the list of its entries from row 0 down.
use Rattle.std.specs.Prelude.{Bool, true, false, ◌&&◌, List, [], ◌∷◌, ◌++◌, ℕ, zero, suc, ℤ, pos, ◌-ℤ◌, ◌*ℤ◌, length, get_or}
use Rattle.std.specs.Int.Signed.{le_z}
use Rattle.integers.specs.Sum.{sum}
use Rattle.integers.specs.Division.{floor_div}
use Rattle.integers.specs.Root.{whole_root}
use Rattle.tables.specs.Ranges.{factor_range}
use Rattle.tables.specs.Matrix.{Matrix, nth}
use Rattle.tables.specs.Checks.{within}
use Rattle.cholesky.specs.Scale.{scaled}

-- r(i,j), and 0 below the columns' ends
unfoldable pub entries : List (List ℤ) → Matrix
entries cs i j = nth (get_or cs j []) i

-- R6.3: r(i,j) = ⌊(H(i,j) - Σ r(k,i) r(k,j), k < i) / r(i,i)⌋; c is column j so far
unfoldable pub next_entry : Matrix → List (List ℤ) → ℕ → List ℤ → ℤ
next_entry H cs j c =
    let i : ℕ = length c in
    floor_div (H i j -ℤ sum i (λ k. entries cs k i *ℤ nth c k)) (entries cs i i)

-- R6.4: it goes on where |r(i,j)| ≤ 2^26 and the rest is at least 1
unfoldable pub goes_on : ℤ → ℤ → Bool
goes_on r rest = within factor_range r && le_z (pos 1) rest

-- a column that was done, or that it stopped in: after a stop the last entry is r(m,j) as computed (R6.4)
pub record Column : Type 0 where
  pub done : Bool
  pub column : List ℤ

-- k rows more of column j, after its entries c: each entry's square is taken off the rest (R6.4), whose whole root is r(j,j) (R6.5)
unfoldable pub rows : Matrix → List (List ℤ) → ℕ → ℕ → ℤ → List ℤ → Column
rows H cs j zero rest c = record { done = true; column = c ++ (whole_root rest ∷ []) }
rows H cs j (suc k) rest c =
    let r : ℤ = next_entry H cs j c in
    let rest' : ℤ = rest -ℤ r *ℤ r in
    let c' : List ℤ = c ++ (r ∷ []) in
    elim (goes_on r rest') [ true ↦ rows H cs j k rest' c' | false ↦ record { done = false; column = c' } ]

-- R6.2: column j, after the columns cs; where H(j,j) is below 1 it stops with no row
unfoldable pub next_column : Matrix → List (List ℤ) → Column
next_column H cs =
    let j : ℕ = length cs in
    elim (le_z (pos 1) (H j j)) [ true ↦ rows H cs j j (H j j) [] | false ↦ record { done = false; column = [] } ]

-- R6.6: the columns that were done, and after a stop the entries of the column that it stopped in: m of them
pub record Factoring : Type 0 where
  pub ends : Bool
  pub columns : List (List ℤ)
  pub stopped : List ℤ

-- k columns more
unfoldable pub columns_from : Matrix → ℕ → List (List ℤ) → Factoring
columns_from H zero cs = record { ends = true; columns = cs; stopped = [] }
columns_from H (suc k) cs =
    let c : Column = next_column H cs in
    elim c.done [
      | true ↦ columns_from H k (cs ++ (c.column ∷ []))
      | false ↦ record { ends = false; columns = cs; stopped = c.column }
    ]

unfoldable pub factoring : ℕ → Matrix → Factoring
factoring n H = columns_from H n []

-- the factoring of bounds L and U: of their matrix H
abbrev pub factored : ℕ → Matrix → Matrix → Factoring
factored n L U = factoring n (scaled n L U)
