-- How the code works out the least value: share by share, each pair of entries once.
use Rattle.std.specs.Prelude.{true, false, List, ℕ, ◌+◌, ◌*◌, ◌≤◌, ◌<◌, ℤ, pos, ◌+ℤ◌, ◌*ℤ◌, length}
use Rattle.std.specs.Int.Signed.{lt_z}
use Rattle.integers.specs.Numbers.{Within}
use Rattle.integers.specs.Sum.{sum}
use Rattle.tables.specs.Ranges.{greatest_order, entry_range, vector_range}
use Rattle.tables.specs.Matrix.{at, nth}

-- ---- sizes: a product of two entries of a vector, a bound times such a product, and what an entry adds
abbrev pub vector_pair_range : ℕ
vector_pair_range = vector_range * vector_range

abbrev pub least_term_range : ℕ
least_term_range = entry_range * vector_pair_range

abbrev pub least_share_range : ℕ
least_share_range = 2 * (greatest_order * least_term_range) + least_term_range

-- what a pair of entries with product p adds, once
unfoldable pub least_term : ℤ → ℤ → ℤ → ℤ
least_term l u p = elim (lt_z (pos 0) p) [ true ↦ l *ℤ p | false ↦ u *ℤ p ]

-- what entries i and j add, once
unfoldable pub least_pair : ℕ → List ℤ → List ℤ → List ℤ → ℕ → ℕ → ℤ
least_pair n l u v i j = least_term (at n l i j) (at n u i j) (nth v i *ℤ nth v j)

-- what entry i and the first k entries add, once for each pair
unfoldable pub least_row : ℕ → List ℤ → List ℤ → List ℤ → ℕ → ℕ → ℤ
least_row n l u v i k = sum k (least_pair n l u v i)

-- what entry i adds to the least value of the entries before it
unfoldable pub least_share : ℕ → List ℤ → List ℤ → List ℤ → ℕ → ℤ
least_share n l u v i = pos 2 *ℤ least_row n l u v i i +ℤ at n l i i *ℤ (nth v i *ℤ nth v i)

-- a vector of order n with entries in their range
pub record VectorEntries (n : ℕ) (v : List ℤ) : Type 0 where
  pub vector-length : n ≤ length v
  pub entries : (i : ℕ) → i < n → Within vector_range (nth v i)
