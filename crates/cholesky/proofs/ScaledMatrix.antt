-- The matrix H that is factored: its entries, its symmetry, and how large its diagonal gets, for any order n and any take-off τ that suffices for it.
use mathlib.Core.Path.{◌≡◌, sym, ◌∙◌}
use mathlib.Core.Logic.{◌≢◌, by_cases}
use mathlib.Core.List.{[], ◌∷◌}
use Prim.Native.Nat.{ℕ, ◌≤◌, ◌<◌}
use native.Mathlib.Omega.{arith}
use native.Mathlib.Decide.{ℕ_discrete}
use lib.IntN.{ℤ, pos, ◌+ℤ◌, ◌-ℤ◌, ◌*ℤ◌, +ℤ_idr}
use lib.Signed.{◌≤ℤ◌}
use Rattle.integers.specs.Numbers.{Within}
use Rattle.integers.proofs.Parts.{≤_in, gap-nonneg}
use Rattle.integers.proofs.Solver.{◌&◌, order, solver}
use Rattle.integers.proofs.Sums.{sum_nonneg, only_same, only_other}
use Rattle.integers.proofs.Machine.{within-high}
use Rattle.tables.specs.Ranges.{greatest_order, entry_range}
use Rattle.tables.specs.Matrix.{Matrix, row_width}
use Rattle.tables.specs.Bounds.{Bounds}
use Rattle.cholesky.specs.Scale.{half_scale, take_off, scaled_by}
use Rattle.cholesky.specs.Rows.{product_range}
use Rattle.cholesky.proofs.Factored.{ρ}

-- (n - 1) ρ ≤ τ
pub record Suffices (τ : ℤ) (n : ℕ) : Type 0 where
  pub enough : ((pos n -ℤ pos 1) *ℤ ρ) ≤ℤ τ

pub order-positive : {i n : ℕ} → i < n → pos 1 ≤ℤ pos n
order-positive h = ≤_in (omega arith)

-- ---- H off the diagonal and on it
pub scaled_off : (τ : ℤ) (n : ℕ) (L U : Matrix) (i j : ℕ) → i ≢ j → scaled_by τ n L U i j ≡ half_scale *ℤ (L i j +ℤ U i j)
unfolding scaled_by
scaled_off τ n L U i j d = rw (only_other i j (τ +ℤ half_scale *ℤ row_width n L U i) d) (+ℤ_idr _)

pub scaled_on : (τ : ℤ) (n : ℕ) (L U : Matrix) (i : ℕ) →
    scaled_by τ n L U i i ≡ half_scale *ℤ (L i i +ℤ U i i) -ℤ (τ +ℤ half_scale *ℤ row_width n L U i)
unfolding scaled_by
scaled_on τ n L U i = rw (only_same i (τ +ℤ half_scale *ℤ row_width n L U i))

module _ (τ : ℤ) (n : ℕ) (L U : Matrix) (b : Bounds n L U) where
  abbrev H : Matrix
  H = scaled_by τ n L U

  pub scaled_symmetric : (i j : ℕ) → i < n → j < n → H i j ≡ H j i
  scaled_symmetric i j h k =
      by_cases (ℕ_discrete i j) (λ e. rw e)
      (λ d. scaled_off τ n L U i j d ∙ rw (b.low_symmetric i j h k, b.high_symmetric i j h k) (sym (scaled_off τ n L U j i (omega arith))))

  width_nonneg : (i : ℕ) → i < n → pos 0 ≤ℤ row_width n L U i
  unfolding row_width
  width_nonneg i h = sum_nonneg n _ (λ j k. gap-nonneg (b.ordered i j h k))

  module _ (s : Suffices τ n) where
    -- H(j,j) ≤ 2^31 2 2^20 = ρ²
    pub scaled_top : (j : ℕ) → j < n → H j j ≤ℤ (ρ *ℤ ρ)
    scaled_top j h =
        let high : U j j ≤ℤ pos entry_range = within-high (record { size = b.high_range j j h h }) in
        order (H j j ∷ L j j ∷ U j j ∷ row_width n L U j ∷ τ ∷ pos n ∷ [])
        (scaled_on τ n L U j & s.enough & order-positive h & width_nonneg j h & b.ordered j j h h & high)
        (search solver depth 40 fits 20000) (omega arith)

-- ---- the orders and the take-off of the rules: at least ρ for each row
pub take_off_within : (n : ℕ) → Within product_range (take_off n)
unfolding take_off
take_off_within n = record { size = omega arith }

pub take_off_nonneg : (n : ℕ) → pos 0 ≤ℤ take_off n
unfolding take_off
take_off_nonneg n = ≤_in (omega arith)

pub take_off_suffices : (n : ℕ) → n ≤ greatest_order → Suffices (take_off n) n
unfolding take_off
take_off_suffices n h = record {
  enough = order (pos n ∷ []) (≤_in {x = pos n} {y = pos greatest_order} (omega arith)) (search solver depth 40 fits 20000) (omega arith);
}
