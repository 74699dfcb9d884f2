-- R10 of docs/RULES.md: the solved vectors. Where factoring stopped, the rows of the factor so far, from the last one back,
-- give a vector x whose form is small: each entry is the whole number that brings its row's product with x nearest to 0.
use Rattle.std.specs.Prelude.{true, false, List, [], ◌∷◌, ◌++◌, ℕ, zero, suc, ◌+◌, ◌-◌, ℤ, pos, neg_ℤ, ◌+ℤ◌, ◌*ℤ◌, length}
use Rattle.integers.specs.Sum.{sum, only}
use Rattle.integers.specs.Division.{floor_div}
use Rattle.tables.specs.Ranges.{vector_range}
use Rattle.tables.specs.Matrix.{Matrix, nth, tabulate}
use Rattle.tables.specs.Checks.{within}
use Rattle.cholesky.specs.Factoring.{Factoring, entries}

-- R10.4: r(i,k), of the columns that were done, and last of the column that factoring stopped in
unfoldable pub stopped_factor : Factoring → Matrix
stopped_factor f = entries (f.columns ++ (f.stopped ∷ []))

-- R10.3: T = Σ r(i,k) x(k), k > i, and x(i) = -⌊(2 T + r(i,i)) / (2 r(i,i))⌋; xs are the entries after i
unfoldable pub solved_entry : Matrix → ℕ → List ℤ → ℤ
solved_entry R i xs =
    let T : ℤ = sum (length xs) (λ k. R i (suc i + k) *ℤ nth xs k) in
    neg_ℤ (floor_div (pos 2 *ℤ T +ℤ R i i) (pos 2 *ℤ R i i))

-- the rows from i - 1 down to 0, xs being the entries from i on; none where an entry is outside of ±2^15 (R10.5)
unfoldable pub solved_rows : Matrix → ℕ → List ℤ → List (List ℤ)
solved_rows R zero xs = xs ∷ []
solved_rows R (suc i) xs =
    let x : ℤ = solved_entry R i xs in
    elim (within vector_range x) [ true ↦ solved_rows R i (x ∷ xs) | false ↦ [] ]

-- R10.2: the solved vector for s, or none. It starts with s at the stopping column and 0 elsewhere
unfoldable pub solved : ℕ → Factoring → ℤ → List (List ℤ)
solved n f s =
    let m : ℕ = length f.stopped in
    solved_rows (stopped_factor f) m (tabulate (n - m) (λ k. only (m + k) (length f.columns) s))
