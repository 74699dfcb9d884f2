-- Enough margin means that factoring ends: no test of a row or a column fails.
use mathlib.Core.Path.{◌≡◌, refl, sym, ap, ap₂, ◌∙◌, subst}
use mathlib.Core.Logic.{by_cases}
use mathlib.Core.Bool.{not}
use mathlib.Core.List.{List, [], ◌∷◌, ◌++◌}
use Prim.Native.Nat.{ℕ, zero, suc, ◌≤◌, ◌<◌}
use native.Mathlib.Omega.{arith}
use native.Mathlib.Decide.{ℕ_discrete, dec_lt}
use lib.Dec.{T}
use lib.IntN.{ℤ, pos, negsuc, neg_ℤ, nat_abs, ◌+ℤ◌, ◌-ℤ◌, ◌*ℤ◌, *ℤ-zero}
use lib.Signed.{◌≤ℤ◌, ≤ℤ_refl}
use lib.ListN.{length, get_or}
use Rattle.integers.specs.Numbers.{abs_ℤ}
use Rattle.integers.specs.Sum.{sum, only}
use Rattle.integers.proofs.Parts.{≤_in, ≤_out, +ℤ_mono, *ℤ-nonneg, square_nonneg, gap-nonneg, pos_nonneg, le_z_true}
use Rattle.integers.proofs.Solver.{◌&◌, ring, order, solver}
use Rattle.integers.proofs.Order.{Between, product_mono, *ℤ_cancel, square_cancel, abs-≤}
use Rattle.integers.proofs.Division.{floor_rest}
use Rattle.integers.proofs.Sums.{sum_zero, sum_suc, sum_ext, sum-+, sum-*, sum_const, sum_mono, sum_nonneg, sum_single, sum-only, only_by, only_same, only_other}
use Rattle.tables.specs.Ranges.{greatest_order, factor_range}
use Rattle.tables.specs.Matrix.{Matrix, nth, form, gram, row_width}
use Rattle.tables.specs.Members.{MarginOf}
use Rattle.tables.proofs.Forms.{form_matrix_ext, form-+, form-*, form_suc, gram_symmetric}
use Rattle.tables.proofs.Triangular.{UpperTriangular, NullVector, null_vector, null_form}
use Rattle.cholesky.specs.Scale.{half_scale, take_off, scaled_by}
use Rattle.cholesky.specs.Factoring.{entries, next_entry, next_column, factoring}
use Rattle.cholesky.proofs.Factored.{ρ, gap, Factored}
use Rattle.residual.proofs.Definite.{upper_prefix}
use Rattle.theorems.proofs.Accepted.{factored-upper, gram-gap}
use Rattle.cholesky.proofs.Lists.{nth-before, nth_last, nth_past, entries-before, entries-last}
use Rattle.cholesky.proofs.Loops.{Passes, rows-done, column_ind, columns_end}
use Rattle.cholesky.proofs.Columns.{keep_off, keep_on, Done, Making, row_step, started, column_step}

-- Σ x(k)²
abbrev pub squares : ℕ → (ℕ → ℤ) → ℤ
squares n x = sum n (λ k. x k *ℤ x k)

-- x'Hx ≥ μ |x|² for every whole-number x
pub record Coercive (n : ℕ) (μ : ℤ) (H : Matrix) : Type 0 where
  pub bound : (x : ℕ → ℤ) → (μ *ℤ squares n x) ≤ℤ form n H x

-- ---- a form whose terms off the diagonal are small: x'Mx ≤ (n + 1) r |x|² + Σ (M(k,k) - 2 r) x(k)²
form-bound : (n : ℕ) (M : Matrix) (x : ℕ → ℤ) (r : ℤ) → ((a b : ℕ) → a < n → b < n → M a b ≡ M b a) →
    ((a b : ℕ) → a < b → b < n → (pos 2 *ℤ x b *ℤ (M a b *ℤ x a)) ≤ℤ (r *ℤ (x a *ℤ x a) +ℤ r *ℤ (x b *ℤ x b))) →
    form n M x ≤ℤ (r *ℤ (pos n +ℤ pos 1) *ℤ squares n x +ℤ sum n (λ k. (M k k -ℤ pos 2 *ℤ r) *ℤ (x k *ℤ x k)))
unfolding form
form-bound zero M x r symmetric pairs =
    rw (sum_zero, sum_zero, sum_zero, *ℤ-zero (r *ℤ (pos 0 +ℤ pos 1))) (≤ℤ_refl (pos 0))
form-bound (suc n) M x r symmetric pairs =
    rw (sum_suc n (λ k. x k *ℤ x k), sum_suc n (λ k. (M k k -ℤ pos 2 *ℤ r) *ℤ (x k *ℤ x k)))
    (order (form (suc n) M x ∷ form n M x ∷ r ∷ M n n ∷ x n ∷ pos n ∷ squares n x ∷ sum n (λ k. M k n *ℤ x k) ∷ diagonal ∷ [])
    (form-bound n M x r (λ a b h k. symmetric a b (omega arith) (omega arith)) (λ a b h k. pairs a b h (omega arith))
    & form_suc n M x (λ k h. symmetric n k (omega arith) (omega arith)) & column)
    (search solver depth 40 fits 20000) (omega arith))
  where
    diagonal : ℤ
    diagonal = sum n (λ k. (M k k -ℤ pos 2 *ℤ r) *ℤ (x k *ℤ x k))

    column : (pos 2 *ℤ x n *ℤ sum n (λ k. M k n *ℤ x k)) ≤ℤ (r *ℤ squares n x +ℤ pos n *ℤ (r *ℤ (x n *ℤ x n)))
    column =
        rw (← sum-* n (pos 2 *ℤ x n) (λ k. M k n *ℤ x k), ← sum-* n r (λ k. x k *ℤ x k), ← sum_const n (r *ℤ (x n *ℤ x n)), ← sum-+)
        (sum_mono n _ _ (λ k h. pairs k n h (omega arith)))

-- r² ≤ m² gives |r| ≤ m
square_small : (r : ℤ) (m : ℕ) → (r *ℤ r) ≤ℤ (pos m *ℤ pos m) → nat_abs r ≤ m
unfolding abs_ℤ
square_small r m h =
    let k = order (r ∷ pos m ∷ []) {G = (neg_ℤ r *ℤ neg_ℤ r) ≤ℤ (pos m *ℤ pos m)} h (search solver depth 40 fits 20000) (omega arith) in
    let a = abs-≤ {x = r} (square_cancel (pos_nonneg m) h) (square_cancel (pos_nonneg m) k) in
    omega (arith, ≤_out a)

-- ---- columns 0, .., j - 1 of R are done, and rows 0, .., i - 1 of its column j
record Known (H R : Matrix) (i j : ℕ) : Type 0 where
  columns : Factored j H R
  rows : (a : ℕ) → a < i → Between (pos 0) (gap H R a j) (R a a -ℤ pos 1)

-- ---- H is symmetric, and x'Hx ≥ (n + 1) ρ |x|²
-- Some x with x(j) ≥ 1 is 0 outside 0, .., i - 1 and j, and is taken to 0 by the first i rows of R.
-- So x'Hx is x'Ex for E = H - R'R over these rows: off the diagonal E is small, and E(j,j) is the rest. Hence
-- (n + 1) ρ |x|² ≤ x'Hx = x'Ex ≤ (n + 1) ρ |x|² + (rest - 2 ρ) x(j)², and the rest is at least 2 ρ.
module _ (n : ℕ) (H : Matrix) (symmetric : (a b : ℕ) → a < n → b < n → H a b ≡ H b a)
    (coercive : Coercive n ((pos n +ℤ pos 1) *ℤ ρ) H) where
  module _ (R : Matrix) (i j : ℕ) (hi : i ≤ j) (hj : j < n) (known : Known H R i j) where
    upper : UpperTriangular i R
    upper = upper_prefix hi (factored-upper known.columns)

    z : NullVector n i j R
    z = null_vector n i j R hi hj upper

    abbrev x : ℕ → ℤ
    x = z.vector

    abbrev E : Matrix
    E a b = H a b -ℤ gram i R a b

    E-gap : (a b : ℕ) → a < i → E a b ≡ gap H R a b
    E-gap = gram-gap H R upper

    E-symmetric : (a b : ℕ) → a < n → b < n → E a b ≡ E b a
    E-symmetric a b h k = ap₂ (λ (u v : ℤ). u -ℤ v) (symmetric a b h k) (gram_symmetric i R a b)

    same-form : form n H x ≡ form n E x
    same-form =
        form_matrix_ext n H (λ a b. E a b +ℤ gram i R a b) x
        (λ a b h k. ring (H a b ∷ gram i R a b ∷ []) (search solver depth 40 fits 20000) refl)
        ∙ form-+ n E (gram i R) x
        ∙ rw (null_form n i j R z) (ring (form n E x ∷ []) (search solver depth 40 fits 20000) refl)

    -- the terms of a and b are at most ρ x(a)² + ρ x(b)²: E(a,b) lies from 0 to ρ, or x(a) or x(b) is 0
    abbrev Small : ℕ → ℕ → Type 0
    Small a b = (pos 2 *ℤ x b *ℤ (E a b *ℤ x a)) ≤ℤ (ρ *ℤ (x a *ℤ x a) +ℤ ρ *ℤ (x b *ℤ x b))

    small : (a b : ℕ) → a < i → Between (pos 0) (gap H R a b) (R a a -ℤ pos 1) → Small a b
    small a b h e =
        let q : pos 0 ≤ℤ (x a *ℤ x a +ℤ x b *ℤ x b) = +ℤ_mono (square_nonneg (x a)) (square_nonneg (x b)) in
        rw (E-gap a b h) (order (x a ∷ x b ∷ gap H R a b ∷ R a a ∷ [])
        (*ℤ-nonneg e.low (square_nonneg (x a -ℤ x b)) & *ℤ-nonneg (gap-nonneg e.high) q
        & *ℤ-nonneg (gap-nonneg (known.columns.on a (omega arith)).top) q & q)
        (search solver depth 40 fits 20000) (omega arith))

    pairs : (a b : ℕ) → a < b → b < n → Small a b
    pairs a b h k = go (dec_lt a i) (dec_lt b j) (ℕ_discrete j a) (ℕ_discrete j b)
      where
        zero_a : x a ≡ pos 0 → Small a b
        zero_a e =
            rw e (order (x b ∷ H a b ∷ gram i R a b ∷ []) (square_nonneg (x b)) (search solver depth 40 fits 20000) (omega arith))

        zero-b : x b ≡ pos 0 → Small a b
        zero-b e =
            rw e (order (x a ∷ H a b ∷ gram i R a b ∷ []) (square_nonneg (x a)) (search solver depth 40 fits 20000) (omega arith))

        go : Dec (a < i) → Dec (b < j) → Dec (j ≡ a) → Dec (j ≡ b) → Small a b
        go (yes p) (yes q) c d = small a b p (known.columns.off a b h q).gaps
        go (yes p) (no q) c (yes d) = small a b p (rw (← d) (known.rows a p))
        go (yes p) (no q) c (no d) = zero-b (z.beyond b (omega arith) d)
        go (no p) q (yes c) d = zero-b (z.beyond b (omega arith) (omega arith))
        go (no p) q (no c) d = zero_a (z.beyond a (omega arith) c)

    diagonal : sum n (λ k. (E k k -ℤ pos 2 *ℤ ρ) *ℤ (x k *ℤ x k)) ≤ℤ ((E j j -ℤ pos 2 *ℤ ρ) *ℤ (x j *ℤ x j))
    diagonal =
        rw (← sum-only n j (λ k. (E k k -ℤ pos 2 *ℤ ρ) *ℤ (x k *ℤ x k)) hj)
        (sum_mono n _ _ (λ k h.
        only_by j k _ (λ y. ((E k k -ℤ pos 2 *ℤ ρ) *ℤ (x k *ℤ x k)) ≤ℤ y) (λ e. ≤ℤ_refl _)
        (λ d. by_cases (dec_lt k i)
        (λ h. let on = known.columns.on k (omega arith) in
        rw (E-gap k k h) (order (gap H R k k ∷ R k k ∷ x k ∷ [])
        (*ℤ-nonneg (gap-nonneg on.gaps.high) (square_nonneg (x k)) & *ℤ-nonneg (gap-nonneg on.top) (square_nonneg (x k)))
        (search solver depth 40 fits 20000) (omega arith)))
        (λ h. rw (z.beyond k (omega arith) d, *ℤ-zero (E k k -ℤ pos 2 *ℤ ρ)) (≤ℤ_refl (pos 0))))))

    -- the rest of column j after i rows
    rest-bound : (pos 2 *ℤ ρ) ≤ℤ (H j j -ℤ squares i (λ k. R k j))
    unfolding gram
    rest-bound =
        *ℤ_cancel (x j *ℤ x j) (product_mono (pos_nonneg 1) (pos_nonneg 1) z.positive z.positive)
        (order (form n H x ∷ form n E x ∷ squares n x ∷ pos n ∷ x j ∷ H j j ∷ gram i R j j
        ∷ sum n (λ k. (E k k -ℤ pos 2 *ℤ ρ) *ℤ (x k *ℤ x k)) ∷ [])
        (coercive.bound x & same-form & diagonal & form-bound n E x ρ E-symmetric pairs)
        (search solver depth 40 fits 20000) (omega arith))

  -- ---- so each test of factoring passes: cs are the columns that are done, and c is column j so far
  module _ (top : (j : ℕ) → j < n → H j j ≤ℤ (ρ *ℤ ρ)) (cs : List (List ℤ)) (hj : length cs < n) (d : Done H cs) where
    abbrev j : ℕ
    j = length cs

    abbrev with : List ℤ → Matrix
    with c = entries (cs ++ (c ∷ []))

    columns : (c : List ℤ) → Factored j H (with c)
    unfolding entries
    columns c =
        record {
          off = λ a b h k.
              keep_off H (entries cs) _ a b (λ l m. sym (entries-before cs c l a (omega arith)))
              (λ l m. sym (entries-before cs c l b k)) (d.off a b h k);
          on = λ b k. keep_on H (entries cs) _ b (λ l m. sym (entries-before cs c l b k)) (d.on b k);
          below = λ a b h k.
              entries-before cs c a b (omega arith) ∙ nth_past (get_or cs b []) a (omega (arith, d.lengths b (omega arith)));
        }

    -- the test of H(j,j) before the first row
    first_rest : pos 1 ≤ℤ H j j
    first_rest =
        order (H j j ∷ squares 0 (λ k. with [] k j) ∷ [])
        (rest-bound (with []) 0 j (omega arith) hj (record { columns = columns []; rows = λ a h. absurd (omega arith) })
        & sum_zero (λ k. with [] k j *ℤ with [] k j)) (search solver depth 40 fits 20000) (omega arith)

    module _ (rest : ℤ) (c : List ℤ) (hi : length c < j) (m : Making H cs rest c) where
      abbrev i : ℕ
      i = length c

      abbrev r : ℤ
      r = next_entry H cs j c

      abbrev R : Matrix
      R = with (c ++ (r ∷ []))

      above : (k : ℕ) → k < i → R k j ≡ nth c k
      above k h = entries-last cs _ k ∙ nth-before c r k h

      new : R i j ≡ r
      new = entries-last cs _ i ∙ nth_last c r

      old : (k l : ℕ) → l < j → R k l ≡ entries cs k l
      old k l h = entries-before cs _ k l h

      -- floor division by r(i,i)
      new-gap : gap H R i j ≡ H i j -ℤ sum i (λ k. entries cs k i *ℤ nth c k) -ℤ entries cs i i *ℤ r
      unfolding gap
      new-gap =
          ap (λ (y : ℤ). H i j -ℤ y) (sum_suc i _
          ∙ ap₂ (λ (u v : ℤ). u +ℤ v) (sum_ext i _ _ (λ k h. ap₂ (λ (u v : ℤ). u *ℤ v) (old k i hi) (above k h)))
          (ap₂ (λ (u v : ℤ). u *ℤ v) (old i i hi) new))
          ∙ ring (H i j ∷ sum i (λ k. entries cs k i *ℤ nth c k) ∷ entries cs i i ∷ r ∷ []) (search solver depth 40 fits 20000) refl

      rows : (a : ℕ) → a < suc i → Between (pos 0) (gap H R a j) (R a a -ℤ pos 1)
      unfolding next_entry
      rows a h =
          by_cases (ℕ_discrete a i)
          (λ e. rw (e, new-gap, old i i hi) (floor_rest (H i j -ℤ sum i (λ k. entries cs k i *ℤ nth c k)) (entries cs i i) (d.on i hi).one))
          (λ k. (keep_off H (with c) R a j (λ l q. entries-before cs c l a (omega arith) ∙ sym (old l a (omega arith)))
          (λ l q. entries-last cs c l ∙ sym (above l (omega arith))) (m.now a (omega arith))).gaps)

      room : (pos 2 *ℤ ρ) ≤ℤ (rest -ℤ r *ℤ r)
      room =
          order (rest ∷ r ∷ H j j ∷ squares i (nth c) ∷ squares (suc i) (λ k. R k j) ∷ [])
          (rest-bound R (suc i) j hi hj (record { columns = columns _; rows = rows }) & m.rest_is
          & (sum_suc i (λ k. R k j *ℤ R k j)
          ∙ ap₂ (λ (u v : ℤ). u +ℤ v *ℤ v) (sum_ext i _ _ (λ k h. ap (λ (y : ℤ). y *ℤ y) (above k h))) new))
          (search solver depth 40 fits 20000) (omega arith)

      -- both tests after a row: the rest is at least 1, and so r² < H(j,j) ≤ ρ²
      row-passes : Passes r (rest -ℤ r *ℤ r)
      row-passes =
          record {
            small =
                square_small r factor_range
                (order (rest ∷ r ∷ H j j ∷ squares i (nth c) ∷ [])
                (room & m.rest_is & top j hj & sum_nonneg i _ (λ k h. square_nonneg (nth c k)))
                (search solver depth 40 fits 20000) (omega arith));
            some = order (rest ∷ r ∷ []) room (search solver depth 40 fits 20000) (omega arith);
          }

    column-done : T (next_column H cs).done
    column-done =
        column_ind H cs (λ o. T o.done)
        (λ h. rows-done H cs j (Making H cs) (row_step H cs d) row-passes j (H j j) [] (omega arith) (started H cs d h))
        (λ g. subst T (ap not (le_z_true first_rest)) g)

  -- no test of a column or a row fails
  pub coercive_ends : ((j : ℕ) → j < n → H j j ≤ℤ (ρ *ℤ ρ)) → T (factoring n H).ends
  unfolding factoring
  coercive_ends top =
      columns_end H n (Done H) (λ cs h d t. column_step H cs d (top (length cs) h) t) (column-done top) n [] (omega arith)
      (record { lengths = λ l k. absurd (omega arith); off = λ a b k l. absurd (omega arith); on = λ b k. absurd (omega arith) })

-- ---- the margin of bounds L and U
pub form-diagonal : (n : ℕ) (t x : ℕ → ℤ) → form n (λ i j. only i j (t i)) x ≡ sum n (λ i. t i *ℤ (x i *ℤ x i))
unfolding form
form-diagonal n t x =
    sum_ext n _ _ (λ i h.
    sum_single n i (λ j. x i *ℤ only i j (t i) *ℤ x j) h
    (λ j k d. rw (only_other i j (t i) d) (ring (x i ∷ x j ∷ []) (search solver depth 40 fits 20000) refl))
    ∙ rw (only_same i (t i)) (ring (x i ∷ t i ∷ []) (search solver depth 40 fits 20000) refl))

-- ---- what a margin leaves after τ: (n + 1) ρ ≤ 2^31 m/k - τ
pub record Leaves (τ : ℤ) (m k n : ℕ) : Type 0 where
  pub some : 1 ≤ k
  pub enough : (pos k *ℤ ((pos n +ℤ pos 1) *ℤ ρ)) ≤ℤ (half_scale *ℤ pos m -ℤ pos k *ℤ τ)

module _ (τ : ℤ) (n : ℕ) (L U : Matrix) where
  abbrev sums : Matrix
  sums i j = L i j +ℤ U i j

  abbrev taken : ℕ → ℤ
  taken i = τ +ℤ half_scale *ℤ row_width n L U i

  -- Σ w(i) x(i)²
  abbrev widths : (ℕ → ℤ) → ℤ
  widths x = sum n (λ i. row_width n L U i *ℤ (x i *ℤ x i))

  weighted : (m k : ℤ) (x : ℕ → ℤ) → sum n (λ i. (m +ℤ k *ℤ row_width n L U i) *ℤ (x i *ℤ x i)) ≡ m *ℤ squares n x +ℤ k *ℤ widths x
  weighted m k x =
      sum_ext n _ (λ i. m *ℤ (x i *ℤ x i) +ℤ k *ℤ (row_width n L U i *ℤ (x i *ℤ x i)))
      (λ i h. ring (x i ∷ row_width n L U i ∷ m ∷ k ∷ []) (search solver depth 40 fits 20000) refl)
      ∙ sum-+ n _ _ ∙ ap₂ (λ (u v : ℤ). u +ℤ v) (sum-* n m _) (sum-* n k _)

  form-scaled : (x : ℕ → ℤ) →
      form n (scaled_by τ n L U) x ≡ half_scale *ℤ form n sums x +ℤ negsuc 0 *ℤ (τ *ℤ squares n x +ℤ half_scale *ℤ widths x)
  unfolding scaled_by
  form-scaled x =
      form_matrix_ext n _ (λ i j. half_scale *ℤ sums i j +ℤ negsuc 0 *ℤ only i j (taken i)) x
      (λ i j h k. ring (L i j ∷ U i j ∷ only i j (taken i) ∷ []) (search solver depth 40 fits 20000) refl)
      ∙ form-+ n _ _ x
      ∙ ap₂ (λ (u v : ℤ). u +ℤ v) (form-* n half_scale sums x)
      (form-* n (negsuc 0) _ x ∙ ap (λ (z : ℤ). negsuc 0 *ℤ z) (form-diagonal n taken x ∙ weighted τ half_scale x))

  -- so the margin (m, k) gives x'Hx ≥ (n + 1) ρ |x|²
  pub margin_coercive : {m k : ℕ} → Leaves τ m k n → MarginOf m k n L U → Coercive n ((pos n +ℤ pos 1) *ℤ ρ) (scaled_by τ n L U)
  margin_coercive {m} {k} l margin =
      record {
        bound = λ x.
            *ℤ_cancel (pos k) (≤_in (omega (arith, l.some)))
            (order (form n (scaled_by τ n L U) x ∷ form n sums x ∷ squares n x ∷ widths x ∷ τ ∷ pos m ∷ pos k ∷ pos n ∷ [])
            (ap (λ (z : ℤ). pos k *ℤ z) (form-scaled x) & (rw (weighted (pos m) (pos k) x) at (margin.room x))
            & *ℤ-nonneg (gap-nonneg l.enough) (sum_nonneg n _ (λ i h. square_nonneg (x i))))
            (search solver depth 40 fits 20000) (omega arith));
      }

-- demand 3's margin, the orders and the take-off of the rules: 2^31 less the take-off is at least (n + 1) ρ
pub take_off_leaves : (n : ℕ) → n ≤ greatest_order → Leaves (take_off n) 1 1 n
unfolding take_off
take_off_leaves n h = record {
  some = omega arith;
  enough = order (pos n ∷ []) (≤_in {x = pos n} {y = pos greatest_order} (omega arith)) (search solver depth 40 fits 20000) (omega arith);
}
