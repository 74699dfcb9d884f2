-- Double sums, the quadratic forms x'Mx, and x'x, for any order n.
use mathlib.Core.Path.{◌≡◌, refl, sym, ap, ap₂, ◌∙◌}
use mathlib.Core.List.{[], ◌∷◌}
use Prim.Native.Nat.{ℕ, suc, ◌≤◌, ◌<◌}
use native.Mathlib.Omega.{arith}
use lib.IntN.{ℤ, pos, ◌+ℤ◌, ◌*ℤ◌, *ℤ-zero, *ℤ_comm}
use lib.Signed.{◌≤ℤ◌}
use Rattle.integers.specs.Sum.{sum}
use Rattle.integers.proofs.Parts.{≤ℤ_trans, square_nonneg}
use Rattle.integers.proofs.Solver.{◌&◌, ring, order, solver}
use Rattle.integers.proofs.Order.{square_positive}
use Rattle.integers.proofs.Sums.{sum_suc, sum_ext, sum-none, sum-+, sum-*, sum_*ʳ, sum_swap, sum_product, sum_prefix, term_≤-sum}
use Rattle.tables.specs.Matrix.{Matrix, form, image, norm_squared, gram}
use Rattle.tables.specs.Members.{Nonzero}

-- ---- double sums
module _ (n : ℕ) where
  unfoldable pub double_sum : Matrix → ℤ
  double_sum f = sum n (λ i. sum n (λ j. f i j))

  pub double_sum_ext : (f g : Matrix) → ((i j : ℕ) → i < n → j < n → f i j ≡ g i j) → double_sum f ≡ double_sum g
  unfolding double_sum
  double_sum_ext f g h = sum_ext n _ _ (λ i k. sum_ext n _ _ (λ j l. h i j k l))

  pub double_sum-+ : (f g : Matrix) → double_sum (λ i j. f i j +ℤ g i j) ≡ double_sum f +ℤ double_sum g
  unfolding double_sum
  double_sum-+ f g = sum_ext n _ _ (λ i h. sum-+ n (f i) (g i)) ∙ sum-+ n _ _

  pub double_sum-* : (c : ℤ) (f : Matrix) → double_sum (λ i j. c *ℤ f i j) ≡ c *ℤ double_sum f
  unfolding double_sum
  double_sum-* c f = sum_ext n _ _ (λ i h. sum-* n c (f i)) ∙ sum-* n c _

  pub double_sum_swap : (f : Matrix) → double_sum f ≡ double_sum (λ i j. f j i)
  unfolding double_sum
  double_sum_swap f = sum_swap n n f

-- ---- forms: equal matrices, sums and multiples of matrices
pub form_matrix_ext : (n : ℕ) (A B : Matrix) (x : ℕ → ℤ) → ((i j : ℕ) → i < n → j < n → A i j ≡ B i j) → form n A x ≡ form n B x
unfolding form
form_matrix_ext n A B x h = sum_ext n _ _ (λ i p. sum_ext n _ _ (λ j q. ap (λ (z : ℤ). x i *ℤ z *ℤ x j) (h i j p q)))

pub form-+ : (n : ℕ) (A B : Matrix) (x : ℕ → ℤ) → form n (λ i j. A i j +ℤ B i j) x ≡ form n A x +ℤ form n B x
unfolding form double_sum
form-+ n A B x =
    double_sum_ext n _ (λ i j. x i *ℤ A i j *ℤ x j +ℤ x i *ℤ B i j *ℤ x j)
    (λ i j h k. ring (x i ∷ x j ∷ A i j ∷ B i j ∷ []) (search solver depth 40 fits 20000) refl) ∙ double_sum-+ n _ _

pub form-* : (n : ℕ) (c : ℤ) (A : Matrix) (x : ℕ → ℤ) → form n (λ i j. c *ℤ A i j) x ≡ c *ℤ form n A x
unfolding form double_sum
form-* n c A x =
    double_sum_ext n _ (λ i j. c *ℤ (x i *ℤ A i j *ℤ x j))
    (λ i j h k. ring (x i ∷ x j ∷ A i j ∷ c ∷ []) (search solver depth 40 fits 20000) refl) ∙ double_sum-* n c _

-- ---- R'R is symmetric, and x'R'Rx = |Rx|²
pub gram_symmetric : (n : ℕ) (R : Matrix) (i j : ℕ) → gram n R i j ≡ gram n R j i
unfolding gram
gram_symmetric n R i j = sum_ext n _ _ (λ k h. *ℤ_comm (R k i) (R k j))

pub form-gram : (n : ℕ) (R : Matrix) (x : ℕ → ℤ) → form n (gram n R) x ≡ norm_squared n (image n R x)
unfolding form gram image norm_squared
form-gram n R x =
    sum_ext n _ _ (λ i h. sum_ext n _ _ (λ j k.
    ap (λ (z : ℤ). z *ℤ x j) (sym (sum-* n (x i) _)) ∙ sym (sum_*ʳ n _ (x j))
    ∙ sum_ext n _ (λ k. (R k i *ℤ x i) *ℤ (R k j *ℤ x j))
    (λ k l. ring (x i ∷ x j ∷ R k i ∷ R k j ∷ []) (search solver depth 40 fits 20000) refl)))
    ∙ sum_ext n _ _ (λ i h. sum_swap n n (λ j k. (R k i *ℤ x i) *ℤ (R k j *ℤ x j)))
    ∙ sum_swap n n (λ i k. sum n (λ j. (R k i *ℤ x i) *ℤ (R k j *ℤ x j)))
    ∙ sum_ext n _ _ (λ k h. sym (sum_product n n (λ i. R k i *ℤ x i) (λ j. R k j *ℤ x j)))

-- ---- x'x ≥ 1 for a nonzero x of whole numbers
pub norm_positive : {n : ℕ} {x : ℕ → ℤ} → Nonzero n x → pos 1 ≤ℤ norm_squared n x
unfolding norm_squared
norm_positive {n} {x} z =
    ≤ℤ_trans (square_positive z.differs) (term_≤-sum n z.index (λ i. x i *ℤ x i) z.inside (λ i h. square_nonneg (x i)))

-- ---- a form at v + p c: v'Mv + 2 p (Mc)'v + p² c'Mc
module _ (n : ℕ) (M : Matrix) (v c : ℕ → ℤ) (p : ℤ) (symmetric : (i j : ℕ) → i < n → j < n → M i j ≡ M j i) where
  crossed : double_sum n (λ i j. v i *ℤ M i j *ℤ c j) ≡ sum n (λ k. image n M c k *ℤ v k)
  unfolding double_sum image
  crossed =
      sum_ext n _ _ (λ k h. sum_ext n _ (λ j. M k j *ℤ c j *ℤ v k)
      (λ j l. ring (v k ∷ M k j ∷ c j ∷ []) (search solver depth 40 fits 20000) refl) ∙ sum_*ʳ n _ (v k))

  turned : double_sum n (λ i j. c i *ℤ M i j *ℤ v j) ≡ double_sum n (λ i j. v i *ℤ M i j *ℤ c j)
  turned =
      double_sum_swap n _
      ∙ double_sum_ext n _ _ (λ i j h k. rw (symmetric j i k h) (ring (v i ∷ M i j ∷ c j ∷ []) (search solver depth 40 fits 20000) refl))

  both : double_sum n (λ i j. v i *ℤ M i j *ℤ c j +ℤ c i *ℤ M i j *ℤ v j) ≡ pos 2 *ℤ sum n (λ k. image n M c k *ℤ v k)
  both =
      double_sum-+ n _ _ ∙ ap₂ (λ (y z : ℤ). y +ℤ z) crossed (turned ∙ crossed)
      ∙ ring (sum n (λ k. image n M c k *ℤ v k) ∷ []) (search solver depth 40 fits 20000) refl

  pub form-shift : form n M (λ i. v i +ℤ p *ℤ c i) ≡ form n M v +ℤ pos 2 *ℤ p *ℤ sum n (λ k. image n M c k *ℤ v k) +ℤ p *ℤ p *ℤ form n M c
  unfolding form double_sum
  form-shift =
      double_sum_ext n _
      (λ i j. v i *ℤ M i j *ℤ v j +ℤ (p *ℤ (v i *ℤ M i j *ℤ c j +ℤ c i *ℤ M i j *ℤ v j) +ℤ p *ℤ p *ℤ (c i *ℤ M i j *ℤ c j)))
      (λ i j h k. ring (v i ∷ v j ∷ c i ∷ c j ∷ p ∷ M i j ∷ []) (search solver depth 40 fits 20000) refl)
      ∙ double_sum-+ n _ _
      ∙ ap (λ (z : ℤ). form n M v +ℤ z) (double_sum-+ n _ _
      ∙ ap₂ (λ (y z : ℤ). y +ℤ z) (double_sum-* n p _ ∙ ap (λ (z : ℤ). p *ℤ z) both) (double_sum-* n (p *ℤ p) _))
      ∙ ring (form n M v ∷ form n M c ∷ p ∷ sum n (λ k. image n M c k *ℤ v k) ∷ []) (search solver depth 40 fits 20000) refl

-- ---- a form cut to a prefix of which the rest is 0, and a form of one order more
pub form_prefix : (n m : ℕ) (M : Matrix) (x : ℕ → ℤ) → m ≤ n → ((k : ℕ) → m ≤ k → k < n → x k ≡ pos 0) → form n M x ≡ form m M x
unfolding form
form_prefix n m M x h z =
    sum_prefix n m (λ i. sum n (λ j. x i *ℤ M i j *ℤ x j)) h
    (λ i p q. sum-none n _ (λ j l. rw (z i p q) (ring (M i j ∷ x j ∷ []) (search solver depth 40 fits 20000) refl)))
    ∙ sum_ext m _ _ (λ i l. sum_prefix n m (λ j. x i *ℤ M i j *ℤ x j) h (λ j p q. rw (z j p q) (*ℤ-zero (x i *ℤ M i j))))

pub form_suc : (m : ℕ) (M : Matrix) (x : ℕ → ℤ) → ((k : ℕ) → k < m → M m k ≡ M k m) →
    form (suc m) M x ≡ form m M x +ℤ pos 2 *ℤ x m *ℤ sum m (λ k. M k m *ℤ x k) +ℤ M m m *ℤ (x m *ℤ x m)
unfolding form
form_suc m M x symmetric =
    order (form (suc m) M x ∷ form m M x ∷ column ∷ row ∷ rows ∷ M m m ∷ x m ∷ sum m (λ k. M k m *ℤ x k) ∷ [])
    (whole & split & column-is & row_is) (search solver depth 40 fits 20000) (omega arith)
  where
    column : ℤ
    column = sum m (λ i. x i *ℤ M i m *ℤ x m)

    row : ℤ
    row = sum m (λ j. x m *ℤ M m j *ℤ x j)

    rows : ℤ
    rows = sum m (λ i. sum (suc m) (λ j. x i *ℤ M i j *ℤ x j))

    whole : form (suc m) M x ≡ rows +ℤ (row +ℤ x m *ℤ M m m *ℤ x m)
    whole = sum_suc m _ ∙ ap (λ (z : ℤ). rows +ℤ z) (sum_suc m _)

    split : rows ≡ form m M x +ℤ column
    split = sum_ext m _ _ (λ i h. sum_suc m (λ j. x i *ℤ M i j *ℤ x j)) ∙ sum-+ m _ _

    column-is : column ≡ sum m (λ k. M k m *ℤ x k) *ℤ x m
    column-is =
        sum_ext m _ (λ k. M k m *ℤ x k *ℤ x m) (λ k h. ring (x k ∷ M k m ∷ x m ∷ []) (search solver depth 40 fits 20000) refl)
        ∙ sum_*ʳ m _ (x m)

    row_is : row ≡ sum m (λ k. M k m *ℤ x k) *ℤ x m
    row_is =
        sum_ext m _ (λ k. M k m *ℤ x k *ℤ x m)
        (λ k h. rw (symmetric k h) (ring (x k ∷ M k m ∷ x m ∷ []) (search solver depth 40 fits 20000) refl))
        ∙ sum_*ʳ m _ (x m)
