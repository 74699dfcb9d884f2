-- How the code asks checks 3, 4 and 5, and mends: pair by pair, each pair of entries (i, j) and (j, i) looked at once.
use Rattle.std.specs.Prelude.{Bool, true, false, ◌&&◌, List, ℕ, zero, suc, ◌+◌, ◌*◌, ℤ, pos, neg_ℤ, set}
use Rattle.std.specs.Int.Signed.{le_z}
use Rattle.tables.specs.Ranges.{entry_range}
use Rattle.tables.specs.Matrix.{nth, at}
use Rattle.tables.specs.Checks.{all, same}

-- 3 and 4 of bounds l and u at one place
unfoldable pub entry_bounded : ℤ → ℤ → Bool
entry_bounded l u = le_z (neg_ℤ (pos entry_range)) l && (le_z u (pos entry_range) && le_z l u)

-- the halves agree: bounds l and u at (i, j), and lt and ut at (j, i)
unfoldable pub pair_even : ℤ → ℤ → ℤ → ℤ → Bool
pair_even l lt u ut = same l lt && same u ut

-- 3 and 4 of both places, and 5: the pair leaves a number
unfoldable pub pair_meets : ℤ → ℤ → ℤ → ℤ → Bool
pair_meets l lt u ut = entry_bounded l u && (entry_bounded lt ut && (le_z l ut && le_z lt u))

-- 3, 4 and 5 of a pair. With `even` the halves have to agree besides: then there is nothing to mend.
unfoldable pub pair_bounded : Bool → ℤ → ℤ → ℤ → ℤ → Bool
pair_bounded even l lt u ut =
    elim (pair_even l lt u ut) [ true ↦ entry_bounded l u | false ↦ elim even [ true ↦ false | false ↦ pair_meets l lt u ut ] ]

-- of row i up to the diagonal, and column i
abbrev pub row_bounded : ℕ → Bool → List ℤ → List ℤ → ℕ → Bool
row_bounded n even l u i = all (suc i) (λ j. pair_bounded even (at n l i j) (at n l j i) (at n u i j) (at n u j i))

-- of the tables l and u of order n
unfoldable pub tables_bounded : ℕ → Bool → List ℤ → List ℤ → Bool
tables_bounded n even l u = all n (row_bounded n even l u)

-- ---- mending, in place
-- m of the numbers at p and q of t, in both places
unfoldable pub joined : (ℤ → ℤ → ℤ) → List ℤ → ℕ → ℕ → List ℤ
joined m t p q = set (set t p (m (nth t p) (nth t q))) q (m (nth t p) (nth t q))

-- the first k pairs of row i, left of the diagonal, and column i
unfoldable pub joined_row : (ℤ → ℤ → ℤ) → ℕ → ℕ → ℕ → List ℤ → List ℤ
joined_row m n i zero t = t
joined_row m n i (suc k) t = joined m (joined_row m n i k t) (i * n + k) (k * n + i)

-- of the first k rows
unfoldable pub joined_rows : (ℤ → ℤ → ℤ) → ℕ → ℕ → List ℤ → List ℤ
joined_rows m n zero t = t
joined_rows m n (suc k) t = joined_row m n k k (joined_rows m n k t)
