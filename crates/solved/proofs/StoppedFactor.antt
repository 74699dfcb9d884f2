-- The factor at a stop, by the numbers of its table.
use mathlib.Core.Path.{◌≡◌, ap, ◌∙◌}
use mathlib.Core.Logic.{by_cases}
use mathlib.Core.List.{List, []}
use Prim.Native.Nat.{ℕ, ◌≤◌, ◌<◌}
use native.Mathlib.Omega.{arith}
use native.Mathlib.Decide.{dec_lt}
use lib.IntN.{ℤ, pos}
use lib.ListN.{length, get_or-eq_default}
use Rattle.tables.specs.Matrix.{Matrix, nth}
use Rattle.cholesky.specs.Factoring.{entries}
use Rattle.cholesky.specs.Store.{upper, column_of, columns_of}
use Rattle.cholesky.proofs.Lists.{length_snoc, entries-before, entries-last}
use Rattle.cholesky.proofs.Store.{length-columns_of, entries-columns_of, nth-column_of}
use Rattle.solved.specs.Solved.{stopped_factor}
use Rattle.solved.specs.Stopped.{stopped_at}

-- past the last column a matrix reads 0
entries_past : (cs : List (List ℤ)) (i j : ℕ) → length cs ≤ j → entries cs i j ≡ pos 0
unfolding entries
entries_past cs i j h = ap (λ (c : List ℤ). nth c i) (get_or-eq_default cs [] h)

module _ (t : List ℤ) (j m : ℕ) where
  -- r(i,k)
  abbrev pub factor : Matrix
  factor = stopped_factor (stopped_at t j m)

  pub factor_past : (i k : ℕ) → j < k → factor i k ≡ pos 0
  unfolding stopped_factor stopped_at
  factor_past i k h = entries_past _ i k (omega (arith, length_snoc (columns_of t j) (column_of t j m), length-columns_of t j))

  factor-before : (i k : ℕ) → i ≤ k → k < j → factor i k ≡ upper t i k
  unfolding stopped_factor stopped_at
  factor-before i k h l =
      entries-before (columns_of t j) (column_of t j m) i k (omega (arith, length-columns_of t j))
      ∙ entries-columns_of t j i k h l

  factor-last : (i : ℕ) → i < m → factor i j ≡ upper t i j
  unfolding stopped_factor stopped_at
  factor-last i h = (rw (length-columns_of t j) at (entries-last (columns_of t j) (column_of t j m) i)) ∙ nth-column_of t j m i h

  pub factor-at : (i k : ℕ) → i < m → i ≤ k → k ≤ j → factor i k ≡ upper t i k
  factor-at i k h l p = by_cases (dec_lt k j) (factor-before i k l) (λ q. let e : k ≡ j = omega arith in rw e (factor-last i h))
