-- A column as the definition makes it, row by row, told by the entries that stand in a table. The row step and the column step both
-- come to their columns here.
use mathlib.Core.Path.{◌≡◌, refl, sym, ap, ap₂, ◌∙◌}
use mathlib.Core.Bool.{true, false}
use mathlib.Core.List.{List, [], ◌∷◌}
use Prim.Native.Nat.{ℕ, zero, suc, ◌-◌, ◌≤◌, ◌<◌}
use native.Mathlib.Omega.{arith}
use lib.IntN.{ℤ, pos, ◌-ℤ◌, ◌*ℤ◌}
use lib.Signed.{◌≤ℤ◌, le_z}
use Rattle.integers.specs.Sum.{sum}
use Rattle.integers.specs.Division.{floor_div}
use Rattle.integers.specs.Root.{whole_root}
use Rattle.integers.proofs.Parts.{le_z_true}
use Rattle.integers.proofs.Solver.{ring, solver}
use Rattle.integers.proofs.Sums.{sum_zero, sum_suc, sum_ext}
use Rattle.tables.specs.Matrix.{Matrix, tabulate}
use Rattle.tables.proofs.Checks.{of_true}
use Rattle.cholesky.specs.Factoring.{next_entry, goes_on, rows, next_column}
use Rattle.cholesky.specs.Store.{upper, column_of, columns_of}
use Rattle.cholesky.specs.Columns.{left_by, IsNext, ColumnGoes}
use Rattle.cholesky.proofs.Loops.{passes, rows_on, rows_stop, column_on, column_none}
use Rattle.cholesky.proofs.Store.{length-column_of, length-columns_of, column_of_suc, entries-columns_of, nth-column_of}

pub no_rows : (t : List ℤ) (j : ℕ) → column_of t j 0 ≡ []
unfolding column_of tabulate
no_rows t j = refl

-- ---- what some rows leave
module _ (H R : Matrix) where
  pub left_by-none : (a b : ℕ) → left_by H R 0 a b ≡ H a b
  unfolding left_by
  left_by-none a b = rw (sum_zero (λ k. R k a *ℤ R k b)) (ring (H a b ∷ []) (search solver depth 40 fits 20000) refl)

  pub left_by_suc : (m a b : ℕ) → left_by H R (suc m) a b ≡ left_by H R m a b -ℤ R m a *ℤ R m b
  unfolding left_by
  left_by_suc m a b =
      rw (sum_suc m (λ k. R k a *ℤ R k b)) (ring (H a b ∷ sum m (λ k. R k a *ℤ R k b) ∷ R m a ∷ R m b ∷ []) (search solver depth 40 fits 20000) refl)

  pub left_by_ext : (S : Matrix) (m a b : ℕ) → ((k : ℕ) → k < m → R k a ≡ S k a) → ((k : ℕ) → k < m → R k b ≡ S k b) → left_by H R m a b ≡ left_by H S m a b
  unfolding left_by
  left_by_ext S m a b p q = ap (λ (z : ℤ). H a b -ℤ z) (sum_ext m _ _ (λ k h. ap₂ (λ (u v : ℤ). u *ℤ v) (p k h) (q k h)))

module _ {H R : Matrix} {j : ℕ} where
  pub goes_less : {i m : ℕ} → m ≤ i → ColumnGoes H R j i → ColumnGoes H R j m
  goes_less h w = record { top = w.top; entries = λ k l. w.entries k (omega arith); tests = λ k l. w.tests k (omega arith) }

  -- at least 1 is left
  pub goes_some : (m : ℕ) → ColumnGoes H R j m → pos 1 ≤ℤ left_by H R m j j
  goes_some zero w = rw (left_by-none H R j j) w.top
  goes_some (suc m) w = (passes _ _ (of_true (w.tests m (omega arith)))).some

-- it rests on the rows before i alone
pub goes_ext : {H R S : Matrix} {j i : ℕ} → ((k l : ℕ) → k < i → S k l ≡ R k l) → ColumnGoes H R j i → ColumnGoes H S j i
goes_ext {H} {R} {S} {j} {i} f w =
    record {
      top = w.top;
      entries = λ k h. f k j h ∙ w.entries k h ∙ sym (ap₂ floor_div (left k k (omega arith)) (f k k h));
      tests = λ k h. rw (f k j h, left (suc k) j h) (w.tests k h);
    }
  where
    left : (m a : ℕ) → m ≤ i → left_by H S m a j ≡ left_by H R m a j
    left m a h = left_by_ext H S R m a j (λ k o. f k a (omega arith)) (λ k o. f k j (omega arith))

-- ---- the column
module _ (H : Matrix) (t : List ℤ) (j : ℕ) where
  -- the entry that the definition works out next
  next_is : (m : ℕ) → m < j → IsNext H (upper t) m j → next_entry H (columns_of t j) j (column_of t j m) ≡ upper t m j
  unfolding next_entry left_by
  next_is m o e =
      rw (length-column_of t j m)
      (ap₂ floor_div
      (ap (λ (z : ℤ). H m j -ℤ z)
      (sum_ext m _ _ (λ k a. ap₂ (λ (u v : ℤ). u *ℤ v) (entries-columns_of t j k m (omega arith) o) (nth-column_of t j m k a))))
      (entries-columns_of t j m m (omega arith) o)
      ∙ sym e)

  -- the definition's column j after m rows
  column_at_lem : (m : ℕ) → m ≤ j → ColumnGoes H (upper t) j m →
      next_column H (columns_of t j) ≡ rows H (columns_of t j) j (j - m) (left_by H (upper t) m j j) (column_of t j m)
  column_at_lem zero o w =
      let z : j - 0 ≡ j = omega arith in
      rw (z, no_rows t j, left_by-none H (upper t) j j) (column_on H (columns_of t j) j (length-columns_of t j) (le_z_true w.top))
  column_at_lem (suc m) o w =
      let z : j - m ≡ suc (j - suc m) = omega arith in
      let r = next_is m (omega arith) (w.entries m (omega arith)) in
      (rw z at (column_at_lem m (omega arith) (goes_less (omega arith) w)))
      ∙ rows_on H (columns_of t j) j (j - suc m) (left_by H (upper t) m j j) (column_of t j m) (rw (r, ← left_by_suc H (upper t) m j j) (w.tests m (omega arith)))
      ∙ rw (r, column_of_suc t j m, left_by_suc H (upper t) m j j) refl

  -- it stops with no row
  pub unrolled_none : le_z (pos 1) (H j j) ≡ false → next_column H (columns_of t j) ≡ record { done = false; column = column_of t j 0 }
  unrolled_none e = rw (no_rows t j) (column_none H (columns_of t j) j (length-columns_of t j) e)

  -- it stops in row m
  pub unrolled_stop : (m : ℕ) → m < j → ColumnGoes H (upper t) j m → IsNext H (upper t) m j → goes_on (upper t m j) (left_by H (upper t) (suc m) j j) ≡ false →
      next_column H (columns_of t j) ≡ record { done = false; column = column_of t j (suc m) }
  unrolled_stop m o w e f =
      let z : j - m ≡ suc (j - suc m) = omega arith in
      let r = next_is m o e in
      (rw z at (column_at_lem m (omega arith) w))
      ∙ rows_stop H (columns_of t j) j (j - suc m) (left_by H (upper t) m j j) (column_of t j m) (rw (r, ← left_by_suc H (upper t) m j j) f)
      ∙ rw (r, column_of_suc t j m) refl

  pub unrolled_done : ColumnGoes H (upper t) j j → upper t j j ≡ whole_root (left_by H (upper t) j j j) →
      next_column H (columns_of t j) ≡ record { done = true; column = column_of t j (suc j) }
  unfolding rows
  unrolled_done w e = let z : j - j ≡ 0 = omega arith in (rw z at (column_at_lem j (omega arith) w)) ∙ rw (column_of_suc t j j, e) refl
