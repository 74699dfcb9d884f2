-- D3.8 and D3.1 of docs/RULES.md: what the rows of a residual have over bounds the forms of all members from below; and where the residual
-- test accepts an upper triangular matrix, from any source, x'Mx > 0 for all members M and all x but 0. For any order n.
use mathlib.Core.Path.{◌≡◌, sym, ap, ap₂, ◌∙◌}
use mathlib.Core.Logic.{◌≢◌}
use mathlib.Core.List.{[], ◌∷◌}
use Prim.Native.Nat.{ℕ, zero, suc, ◌≤◌, ◌<◌}
use native.Mathlib.Omega.{arith}
use lib.Dec.{T}
use lib.IntN.{ℤ, pos, neg_ℤ, ◌+ℤ◌, ◌*ℤ◌, ℤ_discrete, *ℤ-zero, zero-*ℤ, +ℤ_idr}
use lib.Signed.{◌≤ℤ◌}
use Rattle.integers.specs.Numbers.{abs_ℤ}
use Rattle.integers.specs.Sum.{sum_except}
use Rattle.integers.proofs.Parts.{≤ℤ_trans, pos_nonneg}
use Rattle.integers.proofs.Solver.{◌&◌, order, solver}
use Rattle.integers.proofs.Order.{product_mono, *ℤ_mono, square_positive, ≤-abs, neg-≤-abs, abs-≤, ≤_maxˡ, ≤_maxʳ}
use Rattle.integers.proofs.Sums.{sum_suc, sum_single, sum_except_mono, sum_except-*}
use Rattle.tables.specs.Matrix.{Matrix, form, image, norm_squared, gram}
use Rattle.tables.specs.Members.{Member, Nonzero, PositiveDefinite}
use Rattle.tables.proofs.Checks.{true_of, all-at, le_of}
use Rattle.tables.proofs.Forms.{form-+, form-*, gram_symmetric, form-gram, norm_positive}
use Rattle.tables.proofs.Dominance.{Dominant, dominant_above}
use Rattle.tables.proofs.Triangular.{UpperTriangular}
use Rattle.cholesky.specs.Scale.{scale}
use Rattle.residual.specs.Residual.{residual, radius, row_passes, rows_pass, accepts, row_over, over, FormBound}
use Rattle.residual.proofs.Rows.{row-passes, least-over-≤}

pub upper_prefix : {m n : ℕ} {R : Matrix} → m ≤ n → UpperTriangular n R → UpperTriangular m R
upper_prefix h up = record { below = λ i j k l. up.below i j k (omega arith); diagonal = λ j k. up.diagonal j (omega arith) }

-- ---- Rx is nonzero for a nonzero x: at the last index k with x(k) ≠ 0, entry k of Rx is R(k,k) x(k)
image-nonzero : (n : ℕ) (R : Matrix) → UpperTriangular n R → (x : ℕ → ℤ) → Nonzero n x → Nonzero n (image n R x)
unfolding image
image-nonzero zero R up x z = absurd (omega (arith, z.inside))
image-nonzero (suc n) R up x z =
    go (ℤ_discrete (x n) (pos 0)) (image-nonzero n R (upper_prefix (omega arith) up) x)
  where
    go : Dec (x n ≡ pos 0) → (Nonzero n x → Nonzero n (image n R x)) → Nonzero (suc n) (image (suc n) R x)
    go (yes e) ih =
        let w = ih (record { index = z.index; inside = inside; differs = z.differs }) in
        record { index = w.index; inside = omega (arith, w.inside); differs = λ q. w.differs (sym (same w.index) ∙ q) }
      where
        inside : z.index < n
        inside = let d : z.index ≢ n = λ q. z.differs (ap x q ∙ e) in omega (arith, z.inside)

        same : (k : ℕ) → image (suc n) R x k ≡ image n R x k
        same k = sum_suc n _ ∙ rw (e, *ℤ-zero (R k n)) (+ℤ_idr _)
    go (no e) ih = record { index = n; inside = omega arith; differs = λ q. absurd (none q).le }
      where
        last : image (suc n) R x n ≡ R n n *ℤ x n
        last =
            sum_single (suc n) n (λ i. R n i *ℤ x i) (omega arith)
            (λ i h d. rw (up.below n i (omega arith) (omega arith)) (zero-*ℤ (x i)))

        none : image (suc n) R x n ≡ pos 0 → pos 1 ≤ℤ pos 0
        none q =
            let p = pos_nonneg 1 in
            let r = up.diagonal n (omega arith) in
            order (R n n ∷ x n ∷ []) (product_mono p p (product_mono p p r r) (square_positive e) & ap (λ (z : ℤ). z *ℤ z) (sym last ∙ q))
            (search solver depth 40 fits 20000) (omega arith)

-- ---- a member N over q: the diagonal of the residual F = 2^32 N - q P has q v over the rest of each row, where no row has less
-- than v over
module _ (n : ℕ) (R L U : Matrix) (v : ℤ) (least : (i : ℕ) → i < n → v ≤ℤ row_over n (residual n R L) (residual n R U) i) where
  abbrev radii : Matrix
  radii = radius (residual n R L) (residual n R U)

  row-least : (i : ℕ) → i < n → (v +ℤ sum_except n i (radii i)) ≤ℤ residual n R L i i
  unfolding row_over
  row-least i h =
      order (v ∷ sum_except n i (radii i) ∷ residual n R L i i ∷ []) (least i h) (search solver depth 40 fits 20000) (omega arith)

  module _ (N : Matrix) (q : ℤ) (m : Member n L U N q) where
    F : Matrix
    F i j = scale *ℤ N i j +ℤ neg_ℤ q *ℤ gram n R i j

    q-nonneg : pos 0 ≤ℤ q
    q-nonneg = ≤ℤ_trans (pos_nonneg 1) m.whole

    -- |F(i,j)| is at most q times the greater of |2^32 L(i,j) - P(i,j)| and |2^32 U(i,j) - P(i,j)|
    F-radius : (i j : ℕ) → i < n → j < n → abs_ℤ (F i j) ≤ℤ (q *ℤ radii i j)
    unfolding F residual radius
    F-radius i j h k =
        let low = abs_ℤ (residual n R L i j) in
        let high = abs_ℤ (residual n R U i j) in
        abs-≤
        (order (N i j ∷ q ∷ gram n R i j ∷ U i j ∷ radii i j ∷ [])
        (m.high i j h k & *ℤ_mono q-nonneg (≤ℤ_trans (≤-abs (residual n R U i j)) (≤_maxʳ low high)))
        (search solver depth 40 fits 20000) (omega arith))
        (order (N i j ∷ q ∷ gram n R i j ∷ L i j ∷ radii i j ∷ [])
        (m.low i j h k & *ℤ_mono q-nonneg (≤ℤ_trans (neg-≤-abs (residual n R L i j)) (≤_maxˡ low high)))
        (search solver depth 40 fits 20000) (omega arith))

    F-row : (i : ℕ) → i < n → sum_except n i (λ j. abs_ℤ (F i j)) ≤ℤ (q *ℤ sum_except n i (radii i))
    F-row i h = rw (← sum_except-* n i q (radii i)) (sum_except_mono n i _ _ (λ j k e. F-radius i j h k))

    F-dominant : Dominant n F (q *ℤ v)
    unfolding F residual
    F-dominant = record {
      symmetric = λ i j h k. ap₂ (λ (u v : ℤ). scale *ℤ u +ℤ neg_ℤ q *ℤ v) (m.symmetric i j h k) (gram_symmetric n R i j);
      dominates = λ i h.
          order (sum_except n i (λ j. abs_ℤ (F i j)) ∷ q ∷ v ∷ sum_except n i (radii i) ∷ N i i ∷ L i i ∷ gram n R i i ∷ [])
          (F-row i h & *ℤ_mono q-nonneg (row-least i h) & m.low i i h h) (search solver depth 40 fits 20000) (omega arith);
    }

    -- x'Fx = 2^32 x'Nx - q |Rx|²
    form-F : (x : ℕ → ℤ) → form n F x ≡ scale *ℤ form n N x +ℤ neg_ℤ q *ℤ norm_squared n (image n R x)
    unfolding F
    form-F x =
        form-+ n _ _ x
        ∙ ap₂ (λ (u v : ℤ). u +ℤ v) (form-* n scale N x) (form-* n (neg_ℤ q) (gram n R) x ∙ ap (λ (z : ℤ). neg_ℤ q *ℤ z) (form-gram n R x))

  -- D3.8
  pub form-bound : FormBound n R L U v
  form-bound = record {
    bound = λ N q m x.
        order (q ∷ v ∷ form n N x ∷ form n (F N q m) x ∷ norm_squared n x ∷ norm_squared n (image n R x) ∷ [])
        (dominant_above n (F N q m) (q *ℤ v) (F-dominant N q m) x & form-F N q m x) (search solver depth 40 fits 20000) (omega arith);
  }

-- what the rows have over
pub over-bound : (n : ℕ) (R L U : Matrix) → FormBound n R L U (over n R L U)
unfolding over
over-bound n R L U = form-bound n R L U (over n R L U) (least-over-≤ n (residual n R L) (residual n R U))

-- D3.1: with 0 over, 2^32 x'Nx ≥ q |Rx|² ≥ 1
pub accepted-definite : (n : ℕ) (R L U : Matrix) → T (accepts n R L U) → UpperTriangular n R → PositiveDefinite n L U
unfolding accepts rows_pass
accepted-definite n R L U t up = record {
  positive = λ N q m x z.
      order (form n N x ∷ q ∷ norm_squared n x ∷ norm_squared n (image n R x) ∷ [])
      (none-lacking.bound N q m x & product_mono (pos_nonneg 1) (pos_nonneg 1) m.whole (norm_positive (image-nonzero n R up x z)))
      (search solver depth 40 fits 20000) (omega arith);
}
  where
    none-lacking : FormBound n R L U (pos 0)
    none-lacking =
        form-bound n R L U (pos 0)
        (λ i h. le_of _ _ (sym (row-passes n (residual n R L) (residual n R U) i)
        ∙ all-at (row_passes n (residual n R L) (residual n R U)) n (true_of (accepts n R L U) t) i h))
