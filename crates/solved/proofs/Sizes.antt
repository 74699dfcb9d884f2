-- How large the numbers of a solved vector get: 64 bits hold them.
use mathlib.Core.Path.{◌≡◌, sym, ap, ◌∙◌}
use mathlib.Core.Logic.{by_cases}
use mathlib.Core.List.{List, [], ◌∷◌}
use Prim.Native.Nat.{ℕ, suc, ◌+◌, ◌*◌, ◌-◌, ◌≤◌, ◌<◌}
use native.Mathlib.Omega.{arith}
use native.Mathlib.Decide.{dec_lt}
use lib.IntN.{ℤ, pos, ◌+ℤ◌, ◌-ℤ◌, ◌*ℤ◌}
use lib.Signed.{◌≤ℤ◌}
use mir.Syntax.{w64}
use mir.Val.{SFits}
use Rattle.integers.specs.Numbers.{Within}
use Rattle.integers.specs.Division.{floor_div}
use Rattle.integers.proofs.Machine.{within_more, within-+, within--, within-*, within-sum, within_floor, fits_within}
use Rattle.integers.proofs.Solver.{order, solver}
use Rattle.integers.proofs.Sums.{sum_zero, sum_suc}
use Rattle.tables.specs.Ranges.{greatest_order, factor_range, vector_range}
use Rattle.tables.specs.Matrix.{nth}
use Rattle.cholesky.specs.Store.{upper}
use Rattle.solved.specs.Stopped.{stop_range, start_range, Ready, row_sum}

-- ---- the sum of a row, a term more at a time
module _ (t x : List ℤ) (i : ℕ) where
  pub row-sum-none : pos 0 ≡ row_sum t x i (suc i)
  unfolding row_sum
  row-sum-none = let e : suc i - suc i ≡ 0 = omega arith in rw e (sym (sum_zero _))

  pub row-sum_suc : (k : ℕ) → i < k → row_sum t x i k +ℤ upper t i k *ℤ nth x k ≡ row_sum t x i (suc k)
  unfolding row_sum
  row-sum_suc k h =
      let e : suc k - suc i ≡ suc (k - suc i) = omega arith in
      let p : k ≡ suc i + (k - suc i) = omega arith in
      rw e (ap (λ (l : ℕ). row_sum t x i k +ℤ upper t i l *ℤ nth x l) p ∙ sym (sum_suc (k - suc i) _))

numeral_within : (m : ℕ) → Within m (pos m)
numeral_within m = record { size = omega arith }

-- ---- sizes: a term before column j, and T
abbrev term_range : ℕ
term_range = factor_range * vector_range

abbrev sum_range : ℕ
sum_range = greatest_order * term_range + stop_range * start_range

module _ {t x : List ℤ} {i j : ℕ} (r : Ready t x i j) where
  small_product : (k : ℕ) → i < k → k < j → Within term_range (upper t i k *ℤ nth x k)
  small_product k h l = within-* (r.row k (omega arith) l) (r.entries k h l)

  product_within : (k : ℕ) → i < k → k ≤ j → Within (stop_range * start_range) (upper t i k *ℤ nth x k)
  product_within k h l =
      by_cases (dec_lt k j) (λ m. within_more (omega arith) (small_product k h m))
      (λ m. let e : k ≡ j = omega arith in rw e (within-* r.last r.start))

  pub product_fits : (k : ℕ) → i < k → k ≤ j → SFits w64 (upper t i k *ℤ nth x k)
  product_fits k h l = fits_within (product_within k h l) (omega arith)

  -- the sum before column k, and with it
  sum-within : (k : ℕ) → k ≤ j → Within (greatest_order * term_range) (row_sum t x i k)
  unfolding row_sum
  sum-within k l =
      let p = r.inside in
      within_more (omega arith)
      (within-sum (k - suc i) term_range _ (λ m q. small_product (suc i + m) (omega arith) (omega arith)))

  next-within : (k : ℕ) → i < k → k ≤ j → Within sum_range (row_sum t x i k +ℤ upper t i k *ℤ nth x k)
  next-within k h l = within-+ (sum-within k l) (product_within k h l)

  pub next_fits : (k : ℕ) → i < k → k ≤ j → SFits w64 (row_sum t x i k +ℤ upper t i k *ℤ nth x k)
  next_fits k h l = fits_within (next-within k h l) (omega arith)

  whole-within : Within sum_range (row_sum t x i (suc j))
  whole-within = rw (← row-sum_suc t x i j r.before) (next-within j r.before (omega arith))

  pub sum_fits : SFits w64 (row_sum t x i (suc j))
  sum_fits = fits_within whole-within (omega arith)

  twice_within : Within (2 * sum_range) (pos 2 *ℤ row_sum t x i (suc j))
  twice_within = within-* (numeral_within 2) whole-within

  pub twice_fits : SFits w64 (pos 2 *ℤ row_sum t x i (suc j))
  twice_fits = fits_within twice_within (omega arith)

  numerator_within : Within (2 * sum_range + factor_range) (pos 2 *ℤ row_sum t x i (suc j) +ℤ upper t i i)
  numerator_within = within-+ twice_within (r.row i (omega arith) r.before)

  pub numerator_fits : SFits w64 (pos 2 *ℤ row_sum t x i (suc j) +ℤ upper t i i)
  numerator_fits = fits_within numerator_within (omega arith)

  pub divisor_fits : SFits w64 (pos 2 *ℤ upper t i i)
  divisor_fits = fits_within (within-* (numeral_within 2) (r.row i (omega arith) r.before)) (omega arith)

  pub divisor_positive : pos 1 ≤ℤ (pos 2 *ℤ upper t i i)
  divisor_positive = order (upper t i i ∷ []) r.diagonal (search solver depth 40 fits 20000) (omega arith)

  quotient_within : Within (2 * sum_range + factor_range)
      (floor_div (pos 2 *ℤ row_sum t x i (suc j) +ℤ upper t i i) (pos 2 *ℤ upper t i i))
  quotient_within = within_floor (pos 2 *ℤ upper t i i) numerator_within

  pub quotient_fits : SFits w64 (floor_div (pos 2 *ℤ row_sum t x i (suc j) +ℤ upper t i i) (pos 2 *ℤ upper t i i))
  quotient_fits = fits_within quotient_within (omega arith)

  pub opposite_fits : SFits w64 (pos 0 -ℤ floor_div (pos 2 *ℤ row_sum t x i (suc j) +ℤ upper t i i) (pos 2 *ℤ upper t i i))
  opposite_fits = fits_within (within-- (numeral_within 0) quotient_within) (omega arith)
