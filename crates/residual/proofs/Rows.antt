-- Laws of the row test: the radius as the code works it out, what a row has over, and the least over all rows.
use mathlib.Core.Path.{◌≡◌, refl, sym, ap, ap₂, ◌∙◌}
use mathlib.Core.List.{[], ◌∷◌}
use Prim.Native.Nat.{ℕ, zero, suc, ◌-◌, ◌≤◌, ◌<◌}
use native.Mathlib.Omega.{arith}
use lib.IntN.{ℤ, pos, neg_ℤ, ◌+ℤ◌, ◌-ℤ◌}
use lib.Signed.{◌≤ℤ◌, ≤ℤ_refl, le_z}
use mir.Syntax.{w64}
use mir.Val.{SFits}
use Rattle.integers.specs.Numbers.{Within, abs_ℤ, min_ℤ, max_ℤ, least_of}
use Rattle.integers.specs.Sum.{sum, except, sum_except}
use Rattle.integers.proofs.Parts.{≤ℤ_trans, ≤ℤ_antisym, le_z_true}
use Rattle.integers.proofs.Solver.{◌&◌, order, solver}
use Rattle.integers.proofs.Order.{abs-≤, ≤-abs, neg-≤-abs, abs-nonneg, max_≤, ≤_maxˡ, ≤_maxʳ}
use Rattle.integers.proofs.Extremes.{least_by, least-≤, least_ext}
use Rattle.integers.proofs.Sums.{sum_zero, sum_suc, sum_ext, sum-at, except_by}
use Rattle.integers.proofs.Machine.{within_more, within-neg, within-+, within--, within_in, within-high, within-sum, fits_within}
use Rattle.tables.specs.Matrix.{Matrix}
use Rattle.tables.proofs.Checks.{all_of, all-at, all_ext, bool_ext, le_of}
use Rattle.residual.specs.Residual.{radius, row_passes, rows_pass, row_over, least_over, over_limit}
use Rattle.residual.specs.Scratch.{residual_range, over_range, Ranged}

-- ---- the greater of |a| and |b|, for a ≤ b
module _ {a b : ℤ} (h : a ≤ℤ b) where
  -- it is what bounds both b and -a
  radius_is : (m : ℤ) → b ≤ℤ m → neg_ℤ a ≤ℤ m → max_ℤ (abs_ℤ a) (abs_ℤ b) ≤ℤ m
  radius_is m p q =
      max_≤ (abs-≤ (≤ℤ_trans h p) q) (abs-≤ p (order (a ∷ b ∷ m ∷ []) (h & q) (search solver depth 40 fits 20000) (omega arith)))

  pub radius-above : neg_ℤ a ≤ℤ b → b ≡ max_ℤ (abs_ℤ a) (abs_ℤ b)
  radius-above q = ≤ℤ_antisym (≤ℤ_trans (≤-abs b) (≤_maxʳ (abs_ℤ a) (abs_ℤ b))) (radius_is b (≤ℤ_refl b) q)

  pub radius-below : b ≤ℤ neg_ℤ a → neg_ℤ a ≡ max_ℤ (abs_ℤ a) (abs_ℤ b)
  radius-below p = ≤ℤ_antisym (≤ℤ_trans (neg-≤-abs a) (≤_maxˡ (abs_ℤ a) (abs_ℤ b))) (radius_is (neg_ℤ a) p (≤ℤ_refl (neg_ℤ a)))

pub radius-within : {a b : ℤ} → a ≤ℤ b → Within residual_range a → Within residual_range b →
    Within residual_range (max_ℤ (abs_ℤ a) (abs_ℤ b))
radius-within {a} {b} h v w =
    within_in (≤ℤ_trans (record { le = tt }) (≤ℤ_trans (abs-nonneg a) (≤_maxˡ (abs_ℤ a) (abs_ℤ b))))
    (radius_is h (pos residual_range) (within-high w) (within-high (within-neg v)))

-- ---- what is left of row i after the columns before j: its diagonal entry and radius, less the radii so far
abbrev pub left : Matrix → Matrix → ℕ → ℕ → ℤ
left A B i j = (A i i +ℤ radius A B i i) -ℤ sum j (radius A B i)

module _ (A B : Matrix) (i : ℕ) where
  pub left-none : A i i +ℤ radius A B i i ≡ left A B i 0
  left-none =
      order (A i i ∷ radius A B i i ∷ sum 0 (radius A B i) ∷ []) (sum_zero (radius A B i)) (search solver depth 40 fits 20000) (omega arith)

  pub left-more : (j : ℕ) → left A B i j -ℤ radius A B i j ≡ left A B i (suc j)
  left-more j =
      order (A i i ∷ radius A B i i ∷ sum j (radius A B i) ∷ sum (suc j) (radius A B i) ∷ radius A B i j ∷ [])
      (sum_suc j (radius A B i)) (search solver depth 40 fits 20000) (omega arith)

  pub left-all : (n : ℕ) → i < n → left A B i n ≡ row_over n A B i
  unfolding row_over
  left-all n h =
      order (A i i ∷ radius A B i i ∷ sum n (radius A B i) ∷ sum_except n i (radius A B i) ∷ []) (sum-at n i (radius A B i) h)
      (search solver depth 40 fits 20000) (omega arith)

-- a row passes where it has not less than 0 over
pub row-passes : (n : ℕ) (A B : Matrix) (i : ℕ) → row_passes n A B i ≡ le_z (pos 0) (row_over n A B i)
unfolding row_passes row_over
row-passes n A B i = moved (A i i) (sum_except n i (radius A B i))
  where
    moved : (a b : ℤ) → le_z b a ≡ le_z (pos 0) (a -ℤ b)
    moved a b =
        bool_ext (le_z b a) (le_z (pos 0) (a -ℤ b))
        (λ e. le_z_true {x = pos 0} {y = a -ℤ b} (order (a ∷ b ∷ []) (le_of b a e) (search solver depth 40 fits 20000) (omega arith)))
        (λ e. le_z_true {x = b} {y = a} (order (a ∷ b ∷ []) (le_of (pos 0) (a -ℤ b) e) (search solver depth 40 fits 20000) (omega arith)))

-- ---- the least over all rows
-- it is that of a row
pub over_by : (n : ℕ) (A B : Matrix) (P : ℤ → Type 0) → P (pos 0) → ((i : ℕ) → i < n → P (row_over n A B i)) → P (least_over n A B)
unfolding least_over
over_by zero A B P o h = o
over_by (suc m) A B P o h = least_by m (row_over (suc m) A B) P (λ i k. h i (omega arith))

-- and no row has less over
pub least-over-≤ : (n : ℕ) (A B : Matrix) (i : ℕ) → i < n → least_over n A B ≤ℤ row_over n A B i
unfolding least_over
least-over-≤ zero A B i h = absurd (omega arith)
least-over-≤ (suc m) A B i h = least-≤ m (row_over (suc m) A B) i (omega arith)

-- R7.7: all rows pass where it is 0 or more, and only there
pub rows-over : (n : ℕ) (A B : Matrix) → rows_pass n A B ≡ le_z (pos 0) (least_over n A B)
unfolding rows_pass
rows-over n A B =
    bool_ext (rows_pass n A B) (le_z (pos 0) (least_over n A B))
    (λ e. le_z_true {x = pos 0} {y = least_over n A B}
    (over_by n A B (λ z. pos 0 ≤ℤ z) (≤ℤ_refl (pos 0))
    (λ i h. le_of (pos 0) (row_over n A B i) (sym (row-passes n A B i) ∙ all-at _ n e i h))))
    (λ e. all_of _ n (λ i h. row-passes n A B i
    ∙ le_z_true {x = pos 0} {y = row_over n A B i} (≤ℤ_trans (le_of (pos 0) (least_over n A B) e) (least-over-≤ n A B i h))))

-- ---- the least over the rows before i
abbrev pub so_far : ℕ → Matrix → Matrix → ℕ → ℤ
so_far n A B i = least_of (i - 1) (row_over n A B)

pub so_far_more : (n : ℕ) (A B : Matrix) (i : ℕ) → 1 ≤ i → min_ℤ (so_far n A B i) (row_over n A B i) ≡ so_far n A B (suc i)
unfolding least_of
so_far_more n A B zero h = absurd (omega arith)
so_far_more n A B (suc j) h =
    let e : suc j - 1 ≡ j = omega arith in
    let d : suc (suc j) - 1 ≡ suc j = omega arith in
    rw (e, d) refl

-- ---- sizes
module _ {n : ℕ} {A B : Matrix} (r : Ranged n A B) {i : ℕ} (hi : i < n) where
  each_within : (j : ℕ) → j < n → Within residual_range (radius A B i j)
  unfolding radius
  each_within j h = radius-within (r.ordered i j hi h) (r.low i j hi h) (r.high i j hi h)

  pub first_fits : SFits w64 (A i i +ℤ radius A B i i)
  first_fits = fits_within (within-+ (r.low i i hi hi) (each_within i hi)) (omega arith)

  pub left_fits : {j : ℕ} → j < n → SFits w64 (left A B i j -ℤ radius A B i j)
  left_fits {j} h =
      let small = r.order in
      fits_within (within--
      (within-- (within-+ (r.low i i hi hi) (each_within i hi)) (within-sum j residual_range _ (λ k l. each_within k (omega arith))))
      (each_within j h)) (omega arith)

  row-over-within : Within over_range (row_over n A B i)
  unfolding row_over
  row-over-within =
      let small = r.order in
      within_more (omega arith)
      (within-- (r.low i i hi hi)
      (within-sum n residual_range _
      (λ j h. except_by i j (radius A B i j) (pos 0) (λ z w. Within residual_range z) (λ e. record { size = omega arith })
      (λ e. each_within j h))))

-- R7.7: the size of what the rows have over, and that this is below 2^60
pub least-over-within : {n : ℕ} {A B : Matrix} → Ranged n A B → Within over_range (least_over n A B)
least-over-within {n} {A} {B} r = over_by n A B (Within over_range) (record { size = omega arith }) (λ i h. row-over-within r h)

pub over_below : over_range < over_limit
over_below = omega arith

-- ---- the rows read the first n rows and columns alone
module _ (n : ℕ) (A B C D : Matrix) (f : (i j : ℕ) → i < n → j < n → A i j ≡ C i j) (g : (i j : ℕ) → i < n → j < n → B i j ≡ D i j) where
  radii_ext : (i : ℕ) → i < n → sum_except n i (radius A B i) ≡ sum_except n i (radius C D i)
  unfolding radius
  radii_ext i h = sum_ext n _ _ (λ j k. ap (except i j) (ap₂ (λ (u v : ℤ). max_ℤ (abs_ℤ u) (abs_ℤ v)) (f i j h k) (g i j h k)))

  pub rows_ext : rows_pass n A B ≡ rows_pass n C D
  unfolding rows_pass row_passes
  rows_ext = all_ext n _ _ (λ i h. ap₂ le_z (radii_ext i h) (f i i h h))

  row-over_ext : (i : ℕ) → i < n → row_over n A B i ≡ row_over n C D i
  unfolding row_over
  row-over_ext i h = ap₂ (λ (u v : ℤ). u -ℤ v) (f i i h h) (radii_ext i h)

pub least-over_ext : (n : ℕ) (A B C D : Matrix) → ((i j : ℕ) → i < n → j < n → A i j ≡ C i j) →
    ((i j : ℕ) → i < n → j < n → B i j ≡ D i j) →
    least_over n A B ≡ least_over n C D
unfolding least_over
least-over_ext zero A B C D f g = refl
least-over_ext (suc m) A B C D f g = least_ext m _ _ (λ i h. row-over_ext (suc m) A B C D f g i (omega arith))
