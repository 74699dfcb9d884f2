-- R2.10 of docs/RULES.md: the two halves of a table may be rounded apart. Both bounds of a pair (i, j) and (j, i) apply: the greater low
-- and the smaller high, in both places.
use Rattle.std.specs.Prelude.{◌≡◌, List, ◌++◌, ℕ, ◌*◌, ◌<◌, ℤ, drop}
use Rattle.integers.specs.Numbers.{min_ℤ, max_ℤ}
use Rattle.tables.specs.Matrix.{at, table}

-- a table of order n with m of both entries of each pair in both places; what stands behind its n² numbers stays
unfoldable pub mended_by : (ℤ → ℤ → ℤ) → ℕ → List ℤ → List ℤ
mended_by m n t = table n (λ i j. m (at n t i j) (at n t j i)) ++ drop (n * n) t

-- the mended tables
abbrev pub mended_low : ℕ → List ℤ → List ℤ
mended_low n l = mended_by max_ℤ n l

abbrev pub mended_high : ℕ → List ℤ → List ℤ
mended_high n u = mended_by min_ℤ n u

-- tables l and u of order n whose halves agree
pub record Symmetric (n : ℕ) (l u : List ℤ) : Type 0 where
  pub low : (i j : ℕ) → i < n → j < n → at n l i j ≡ at n l j i
  pub high : (i j : ℕ) → i < n → j < n → at n u i j ≡ at n u j i
