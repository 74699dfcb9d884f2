-- D3.6 of docs/RULES.md: the residual test accepts the factor that
-- factoring ends with. For any order n and any take-off τ that suffices for it.
use mathlib.Core.Path.{◌≡◌, ap, ap₂, ◌∙◌}
use mathlib.Core.Logic.{◌≢◌, by_cases}
use mathlib.Core.List.{[], ◌∷◌}
use Prim.Native.Nat.{ℕ, suc, ◌<◌}
use native.Mathlib.Omega.{arith}
use native.Mathlib.Decide.{dec_lt}
use lib.Dec.{T}
use lib.IntN.{ℤ, pos, ◌+ℤ◌, ◌-ℤ◌, ◌*ℤ◌, zero-*ℤ}
use lib.Signed.{◌≤ℤ◌, ≤ℤ_refl}
use Rattle.integers.specs.Numbers.{abs_ℤ}
use Rattle.integers.specs.Sum.{sum, sum_except}
use Rattle.integers.proofs.Parts.{le_z_true}
use Rattle.integers.proofs.Solver.{◌&◌, order, solver}
use Rattle.integers.proofs.Order.{Between, abs-≤, max_by}
use Rattle.integers.proofs.Sums.{sum-+, sum-*, sum_const, sum_prefix, sum-at, sum_except_mono}
use Rattle.tables.specs.Matrix.{Matrix, gram, row_width}
use Rattle.tables.specs.Bounds.{Bounds}
use Rattle.tables.proofs.Checks.{of_true, all_of}
use Rattle.tables.proofs.Forms.{gram_symmetric}
use Rattle.tables.proofs.Triangular.{UpperTriangular}
use Rattle.cholesky.specs.Scale.{half_scale, scaled_by}
use Rattle.residual.specs.Residual.{residual, radius, row_passes, rows_pass, accepts}
use Rattle.cholesky.proofs.ScaledMatrix.{Suffices, order-positive, scaled_off, scaled_on, scaled_symmetric}
use Rattle.cholesky.proofs.Factored.{ρ, gap, Factored}

pub factored-upper : {n : ℕ} {H R : Matrix} → Factored n H R → UpperTriangular n R
factored-upper f = record { below = f.below; diagonal = λ j h. (f.on j h).one }

-- H - R'R is the gap that factoring leaves
pub gram-gap : {n : ℕ} (H R : Matrix) → UpperTriangular n R → (i j : ℕ) → i < n → H i j -ℤ gram n R i j ≡ gap H R i j
unfolding gram gap
gram-gap {n} H R up i j h =
    ap (λ (z : ℤ). H i j -ℤ z) (sum_prefix n (suc i) (λ k. R k i *ℤ R k j) h (λ k p q. rw (up.below k i p q) (zero-*ℤ (R k j))))

module _ (τ : ℤ) (n : ℕ) (L U : Matrix) (b : Bounds n L U) where
  abbrev H : Matrix
  H = scaled_by τ n L U

  module _ (s : Suffices τ n) where
    module _ (R : Matrix) (f : Factored n H R) where
      residue : (i j : ℕ) → i < n → H i j -ℤ gram n R i j ≡ gap H R i j
      residue = gram-gap H R (factored-upper f)

      above : (i j : ℕ) → i < j → j < n → Between (pos 0) (H i j -ℤ gram n R i j) (ρ -ℤ pos 1)
      above i j h k =
          let g = (f.off i j h k).gaps in
          rw (residue i j (omega arith)) (record {
            low = g.low;
            high =
                order (gap H R i j ∷ R i i ∷ []) (g.high & (f.on i (omega arith)).top) (search solver depth 40 fits 20000) (omega arith);
          })

      off-residue : (i j : ℕ) → i < n → j < n → i ≢ j → Between (pos 0) (H i j -ℤ gram n R i j) (ρ -ℤ pos 1)
      off-residue i j h k d =
          by_cases (dec_lt i j) (λ e. above i j e k) (λ e. rw (scaled_symmetric τ n L U b i j h k, gram_symmetric n R i j) (above j i (omega arith) h))

      on-residue : (i : ℕ) → i < n → pos 0 ≤ℤ (H i i -ℤ gram n R i i)
      on-residue i h = rw (residue i i h) (f.on i h).gaps.low

      -- (ρ - 1) + 2^31 (U - L)(i,j) is at least |2^32 M(i,j) - P(i,j)| for each M(i,j) from L(i,j) to U(i,j)
      limit : Matrix
      limit i j = ρ -ℤ pos 1 +ℤ half_scale *ℤ (U i j -ℤ L i j)

      residual-≤ : (M : Matrix) (i j : ℕ) → i < n → j < n → i ≢ j → L i j ≤ℤ M i j → M i j ≤ℤ U i j →
          abs_ℤ (residual n R M i j) ≤ℤ limit i j
      unfolding residual limit
      residual-≤ M i j h k d low high =
          let facts = (off-residue i j h k d).low & (off-residue i j h k d).high & scaled_off τ n L U i j d & low & high in
          abs-≤ (order (H i j ∷ L i j ∷ M i j ∷ U i j ∷ gram n R i j ∷ []) facts (search solver depth 40 fits 20000) (omega arith))
          (order (H i j ∷ L i j ∷ M i j ∷ U i j ∷ gram n R i j ∷ []) facts (search solver depth 40 fits 20000) (omega arith))

      abbrev radii : Matrix
      radii = radius (residual n R L) (residual n R U)

      radius-≤ : (i j : ℕ) → i < n → j < n → i ≢ j → radii i j ≤ℤ limit i j
      unfolding radius
      radius-≤ i j h k d =
          let o = b.ordered i j h k in
          max_by _ _ (λ z. z ≤ℤ limit i j)
          (λ e. residual-≤ U i j h k d o (≤ℤ_refl (U i j))) (λ e. residual-≤ L i j h k d (≤ℤ_refl (L i j)) o)

      -- Σ over j ≠ i of the limits is (n - 1) (ρ - 1) + 2^31 (w(i) - (U - L)(i,i))
      limits : (i : ℕ) → i < n →
          sum_except n i (limit i) ≡ (pos n -ℤ pos 1) *ℤ (ρ -ℤ pos 1) +ℤ half_scale *ℤ (row_width n L U i -ℤ (U i i -ℤ L i i))
      unfolding limit row_width
      limits i h =
          order (sum_except n i (limit i) ∷ sum n (limit i) ∷ pos n ∷ U i i ∷ L i i ∷ row_width n L U i ∷ [])
          (sum-at n i (limit i) h & all-terms) (search solver depth 40 fits 20000) (omega arith)
        where
          all-terms : sum n (limit i) ≡ pos n *ℤ (ρ -ℤ pos 1) +ℤ half_scale *ℤ row_width n L U i
          all-terms = sum-+ n _ _ ∙ ap₂ (λ (u v : ℤ). u +ℤ v) (sum_const n (ρ -ℤ pos 1)) (sum-* n half_scale _)

      row : (i : ℕ) → i < n → sum_except n i (radii i) ≤ℤ residual n R L i i
      unfolding residual
      row i h =
          order
          (sum_except n i (radii i) ∷ sum_except n i (limit i) ∷ pos n ∷ τ ∷ L i i ∷ U i i ∷ gram n R i i ∷ H i i ∷ row_width n L U i ∷ [])
          (sum_except_mono n i (radii i) (limit i) (λ j k d. radius-≤ i j h k d) & limits i h
          & on-residue i h & scaled_on τ n L U i & s.enough & order-positive h) (search solver depth 40 fits 20000) (omega arith)

      pub factored-accepted : T (accepts n R L U)
      unfolding accepts rows_pass row_passes
      factored-accepted = of_true (all_of (row_passes n (residual n R L) (residual n R U)) n (λ i h. le_z_true (row i h)))
