-- The trials of R12.1 are factorings of H with a lowered diagonal. The test of L's diagonal adds nothing: H(i,i) is below 1 where it fails.
use mathlib.Core.Path.{◌≡◌, refl, sym, ap, ◌∙◌, subst}
use mathlib.Core.Bool.{Bool, true, false}
use mathlib.Core.Logic.{by_cases}
use mathlib.Core.List.{[], ◌∷◌}
use Prim.Native.Nat.{ℕ, ◌<◌}
use native.Mathlib.Omega.{arith}
use native.Mathlib.Decide.{ℕ_discrete}
use lib.Dec.{T}
use lib.IntN.{ℤ, pos, ◌-ℤ◌, ◌*ℤ◌}
use lib.Signed.{◌≤ℤ◌, le_z}
use borrow.Table.Steps.{cases}
use Rattle.integers.specs.Sum.{only}
use Rattle.integers.proofs.Parts.{le_z_true, gap-nonneg}
use Rattle.integers.proofs.Solver.{◌&◌, order, ring, solver}
use Rattle.integers.proofs.Sums.{sum_ext, term_≤-sum}
use Rattle.tables.specs.Matrix.{Matrix, row_width}
use Rattle.tables.specs.Checks.{all}
use Rattle.tables.specs.Bounds.{Bounds}
use Rattle.tables.proofs.Checks.{false_of, all_of}
use Rattle.cholesky.specs.Scale.{scale, take_off, scaled}
use Rattle.cholesky.specs.Factoring.{Factoring, factoring, factored}
use Rattle.cholesky.proofs.Extensional.{factoring_ext}
use Rattle.cholesky.proofs.ScaledMatrix.{scaled_on, scaled_off, take_off_nonneg}
use Rattle.cholesky.proofs.Reduced.{factoring_by_rows, ends-diagonal}
use Rattle.steps.specs.Steps.{lowered, trial}
use Rattle.steps.proofs.Diagonals.{lowered_on, lowered_off}

-- ---- H of lowered tables
module _ (n : ℕ) (L U : Matrix) (d : ℕ → ℤ) where
  abbrev H : Matrix
  H = scaled n L U

  -- 2^32 d(i)
  abbrev pub scaled_step : ℕ → ℤ
  scaled_step i = scale *ℤ d i

  width_kept : (i : ℕ) → row_width n (lowered d L) (lowered d U) i ≡ row_width n L U i
  unfolding row_width lowered
  width_kept i =
      sum_ext n _ _ (λ j h. ring (L i j ∷ U i j ∷ only i j (d i) ∷ []) (search solver depth 40 fits 20000) refl)

  pub scaled-lowered : (i j : ℕ) → scaled n (lowered d L) (lowered d U) i j ≡ lowered scaled_step H i j
  scaled-lowered i j =
      by_cases (ℕ_discrete i j)
      (λ e. rw (← e) (scaled_on (take_off n) n (lowered d L) (lowered d U) i
      ∙ rw (width_kept i, lowered_on d L i, lowered_on d U i, lowered_on scaled_step H i, scaled_on (take_off n) n L U i)
      (ring (L i i ∷ U i i ∷ d i ∷ row_width n L U i ∷ take_off n ∷ []) (search solver depth 40 fits 20000) refl)))
      (λ e. scaled_off (take_off n) n (lowered d L) (lowered d U) i j e
      ∙ rw (lowered_off d L i j e, lowered_off d U i j e, lowered_off scaled_step H i j e) (sym (scaled_off (take_off n) n L U i j e)))

  decided : Bool → Bool
  decided b = elim b [ true ↦ (factored n (lowered d L) (lowered d U)).ends | false ↦ false ]

  ends-lowered : (factored n (lowered d L) (lowered d U)).ends ≡ (factoring n (lowered scaled_step H)).ends
  ends-lowered = ap (λ (f : Factoring). f.ends) (factoring_ext n _ _ (λ i j h k. scaled-lowered i j))

  module _ (b : Bounds n L U) where
    -- where factoring ends, so much is left of L's diagonal
    left-low : (factoring n (lowered scaled_step H)).ends ≡ true → (i : ℕ) → i < n → pos 1 ≤ℤ lowered d L i i
    unfolding row_width
    left-low e i h =
        let one =
        ends-diagonal (lowered scaled_step H) n 0 i (sym (factoring_by_rows (lowered scaled_step H) n) ∙ e) (omega arith) (omega arith) in
        let width : (U i i -ℤ L i i) ≤ℤ row_width n L U i =
        term_≤-sum n i (λ j. U i j -ℤ L i j) h (λ j k. gap-nonneg (b.ordered i j h k)) in
        order (L i i ∷ U i i ∷ d i ∷ row_width n L U i ∷ lowered d L i i ∷ lowered scaled_step H i i ∷ H i i ∷ take_off n ∷ [])
        (one & width & lowered_on d L i & lowered_on scaled_step H i & scaled_on (take_off n) n L U i & take_off_nonneg n)
        (search solver depth 40 fits 20000) (omega arith)

    pub trial_is : trial n L U d ≡ (factoring n (lowered scaled_step H)).ends
    unfolding trial decided
    trial_is =
        cases (all n (λ i. le_z (pos 1) (lowered d L i i))) (λ e. ap decided e ∙ ends-lowered)
        (λ e. ap decided e ∙ sym (false_of _ (λ q. absurd (subst T (sym (all_of _ n (λ i h. le_z_true (left-low q i h))) ∙ e) tt))))
