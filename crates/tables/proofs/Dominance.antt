-- Gerschgorin, for any order: where each diagonal entry of a symmetric matrix F has v over the rest of its row, x'Fx ≥ v x'x.
use mathlib.Core.Path.{◌≡◌, ap, ◌∙◌}
use mathlib.Core.List.{[], ◌∷◌}
use Prim.Native.Nat.{ℕ, ◌<◌}
use native.Mathlib.Omega.{arith}
use lib.IntN.{ℤ, pos, ◌+ℤ◌, ◌-ℤ◌, ◌*ℤ◌}
use lib.Signed.{◌≤ℤ◌}
use Rattle.integers.specs.Numbers.{abs_ℤ}
use Rattle.integers.specs.Sum.{sum, except, sum_except}
use Rattle.integers.proofs.Parts.{*ℤ-nonneg, square_nonneg, gap-nonneg}
use Rattle.integers.proofs.Solver.{◌&◌, none, order, solver}
use Rattle.integers.proofs.Order.{≤-abs, neg-≤-abs}
use Rattle.integers.proofs.Sums.{sum_ext, sum-+, sum-*, sum_*ʳ, sum_swap, sum_mono, sum_nonneg, except_by, except_sym, sum-at}
use Rattle.tables.specs.Matrix.{Matrix, form, norm_squared}
use Rattle.tables.proofs.Forms.{double_sum, double_sum-*}

-- F is symmetric, and F(i,i) is at least v and the sum of |F(i,j)| over j ≠ i
pub record Dominant (n : ℕ) (F : Matrix) (v : ℤ) : Type 0 where
  pub symmetric : (i j : ℕ) → i < n → j < n → F i j ≡ F j i
  pub dominates : (i : ℕ) → i < n → (v +ℤ sum_except n i (λ j. abs_ℤ (F i j))) ≤ℤ F i i

-- -2 a e b ≤ |e| (a² + b²)
pair : (a b e : ℤ) → pos 0 ≤ℤ (pos 2 *ℤ (a *ℤ e *ℤ b) +ℤ abs_ℤ e *ℤ (a *ℤ a) +ℤ abs_ℤ e *ℤ (b *ℤ b))
pair a b e =
    order (a ∷ b ∷ e ∷ abs_ℤ e ∷ [])
    (*ℤ-nonneg (gap-nonneg (≤-abs e)) (square_nonneg (a -ℤ b)) & *ℤ-nonneg (gap-nonneg (neg-≤-abs e)) (square_nonneg (a +ℤ b)))
    (search solver depth 40 fits 20000) (omega arith)

module _ (n : ℕ) (F : Matrix) (v : ℤ) (d : Dominant n F v) (x : ℕ → ℤ) where
  -- |F(i,j)| off the diagonal, and a row's sum of these
  weight : Matrix
  weight i j = except i j (abs_ℤ (F i j))

  weights : ℕ → ℤ
  weights i = sum n (weight i)

  twice : Matrix
  twice i j = pos 2 *ℤ (x i *ℤ F i j *ℤ x j)

  pair-at : (i j : ℕ) → pos 0 ≤ℤ (except i j (twice i j) +ℤ weight i j *ℤ (x i *ℤ x i) +ℤ weight i j *ℤ (x j *ℤ x j))
  unfolding weight twice
  pair-at i j =
      except_by i j (twice i j) (abs_ℤ (F i j)) (λ t w. pos 0 ≤ℤ (t +ℤ w *ℤ (x i *ℤ x i) +ℤ w *ℤ (x j *ℤ x j)))
      (λ e. order (x i ∷ x j ∷ []) none (search solver depth 40 fits 20000) (omega arith)) (λ e. pair (x i) (x j) (F i j))

  row : (i : ℕ) → i < n → (pos 2 *ℤ v *ℤ (x i *ℤ x i) +ℤ weights i *ℤ (x i *ℤ x i)) ≤ℤ (sum n (twice i) +ℤ sum n (λ j. weight i j *ℤ (x j *ℤ x j)))
  unfolding weights weight twice
  row i h =
      order (x i ∷ v ∷ weights i ∷ F i i ∷ sum n (twice i) ∷ sum_except n i (twice i) ∷ sum n (λ j. weight i j *ℤ (x j *ℤ x j)) ∷ [])
      (pairs & sum-at n i (twice i) h & *ℤ-nonneg (gap-nonneg (d.dominates i h)) (square_nonneg (x i)))
      (search solver depth 40 fits 20000) (omega arith)
    where
      pairs : pos 0 ≤ℤ (sum_except n i (twice i) +ℤ weights i *ℤ (x i *ℤ x i) +ℤ sum n (λ j. weight i j *ℤ (x j *ℤ x j)))
      pairs = rw (← sum_*ʳ n (weight i) (x i *ℤ x i), ← sum-+, ← sum-+) (sum_nonneg n _ (λ j k. pair-at i j))

  weight_symmetric : (i j : ℕ) → i < n → j < n → weight i j ≡ weight j i
  unfolding weight
  weight_symmetric i j h k = except_sym i j _ ∙ ap (λ (z : ℤ). except j i (abs_ℤ z)) (d.symmetric i j h k)

  -- so the sum along a column is the sum along its row
  columns : sum n (λ i. sum n (λ j. weight i j *ℤ (x j *ℤ x j))) ≡ sum n (λ j. weights j *ℤ (x j *ℤ x j))
  unfolding weights
  columns =
      sum_swap n n (λ i j. weight i j *ℤ (x j *ℤ x j))
      ∙ sum_ext n _ _ (λ j k. sum_*ʳ n (λ i. weight i j) (x j *ℤ x j)
      ∙ ap (λ (z : ℤ). z *ℤ (x j *ℤ x j)) (sum_ext n _ _ (λ i h. weight_symmetric i j h k)))

  pub dominant_above : (v *ℤ norm_squared n x) ≤ℤ form n F x
  unfolding form norm_squared double_sum twice
  dominant_above =
      order (v ∷ sum n (λ i. x i *ℤ x i) ∷ form n F x ∷ sum n (λ i. sum n (twice i)) ∷ sum n (λ i. weights i *ℤ (x i *ℤ x i)) ∷ [])
      (rows & double_sum-* n (pos 2) (λ i j. x i *ℤ F i j *ℤ x j)) (search solver depth 40 fits 20000) (omega arith)
    where
      left : sum n (λ i. pos 2 *ℤ v *ℤ (x i *ℤ x i) +ℤ weights i *ℤ (x i *ℤ x i)) ≡
          pos 2 *ℤ v *ℤ sum n (λ i. x i *ℤ x i) +ℤ sum n (λ i. weights i *ℤ (x i *ℤ x i))
      left = sum-+ n _ _ ∙ ap (λ (z : ℤ). z +ℤ sum n (λ i. weights i *ℤ (x i *ℤ x i))) (sum-* n (pos 2 *ℤ v) (λ i. x i *ℤ x i))

      rows : (pos 2 *ℤ v *ℤ sum n (λ i. x i *ℤ x i) +ℤ sum n (λ i. weights i *ℤ (x i *ℤ x i)))
          ≤ℤ (sum n (λ i. sum n (twice i)) +ℤ sum n (λ i. weights i *ℤ (x i *ℤ x i)))
      rows = rw (← left, ← columns, ← sum-+) (sum_mono n _ _ row)
