-- Laws of the scaled tables, R29.2 of docs/RULES.md: their members, their forms, and that they are positive definite only where the bounds
-- are.
use mathlib.Core.Path.{◌≡◌, refl, sym, ap, ◌∙◌}
use mathlib.Core.Bool.{true}
use mathlib.Core.List.{[], ◌∷◌}
use Prim.Native.Nat.{ℕ, ◌+◌, ◌-◌, ◌^◌, ◌≤◌, ◌<◌}
use native.Mathlib.Nat.{add_comm}
use native.Mathlib.Omega.{arith}
use lib.IntN.{ℤ, pos, nat_abs, ◌*ℤ◌}
use lib.Pow.{pow_pos, pow-add}
use lib.Signed.{◌≤ℤ◌, ◌<ℤ◌}
use Rattle.integers.proofs.Parts.{≤_in, ≤ℤ_antisym, *ℤ_assoc, pos_nonneg}
use Rattle.integers.proofs.Solver.{ring, order, solver}
use Rattle.integers.proofs.Order.{*ℤ_mono, *ℤ_cancel}
use Rattle.tables.specs.Ranges.{entry_range}
use Rattle.tables.specs.Matrix.{Matrix, form}
use Rattle.tables.specs.Members.{Member, Nonzero, PositiveDefinite}
use Rattle.tables.specs.Bounds.{Bounds}
use Rattle.tables.proofs.Checks.{all-at, within_of}
use Rattle.tables.proofs.Forms.{double_sum, double_sum_ext, form_matrix_ext, form-*}
use Rattle.scaling.specs.Scaling.{greatest_exponent, rescaled, entries_within}

entries_at : (n : ℕ) (M : Matrix) → entries_within n M ≡ true → (i j : ℕ) → i < n → j < n → nat_abs (M i j) ≤ entry_range
unfolding entries_within
entries_at n M e i j h l = (within_of entry_range (M i j) (all-at _ n (all-at _ n e i h) j l)).size

module _ (n : ℕ) (k : ℕ → ℕ) where
  -- ---- entries
  rescaled_symmetric : {M : Matrix} → ((i j : ℕ) → i < n → j < n → M i j ≡ M j i) → (i j : ℕ) → i < n → j < n →
      rescaled k M i j ≡ rescaled k M j i
  unfolding rescaled
  rescaled_symmetric s i j h l = rw (add_comm (k i) (k j), s i j h l)

  pub rescaled-bounds : {L U : Matrix} → Bounds n L U → entries_within n (rescaled k L) ≡ true → entries_within n (rescaled k U) ≡ true →
      Bounds n (rescaled k L) (rescaled k U)
  unfolding rescaled
  rescaled-bounds {L} {U} b e f = record {
    low_range = entries_at n (rescaled k L) e;
    high_range = entries_at n (rescaled k U) f;
    ordered = λ i j h l. *ℤ_mono (pos_nonneg _) (b.ordered i j h l);
    low_symmetric = rescaled_symmetric b.low_symmetric;
    high_symmetric = rescaled_symmetric b.high_symmetric;
  }

  -- where each k is 0, nothing is scaled
  pub rescaled-none : ((i : ℕ) → i < n → k i ≡ 0) → (M : Matrix) (i j : ℕ) → i < n → j < n → rescaled k M i j ≡ M i j
  unfolding rescaled
  rescaled-none z M i j h l = rw (z i h, z j l) (ring (M i j ∷ []) (search solver depth 40 fits 20000) refl)

  -- ---- members
  multiple : (q : ℤ) (M : Matrix) (i j : ℕ) → q *ℤ rescaled k M i j ≡ rescaled k (λ a b. q *ℤ M a b) i j
  unfolding rescaled
  multiple q M i j = ring (q ∷ pos (2 ^ (k i + k j)) ∷ M i j ∷ []) (search solver depth 40 fits 20000) refl

  pub rescaled_member : {L U N : Matrix} {q : ℤ} → Member n L U N q → Member n (rescaled k L) (rescaled k U) (rescaled k N) q
  unfolding rescaled
  rescaled_member {L} {U} {N} {q} b = record {
    whole = b.whole;
    symmetric = rescaled_symmetric b.symmetric;
    low = λ i j h l. rw (multiple q L i j) (*ℤ_mono (pos_nonneg _) (b.low i j h l));
    high = λ i j h l. rw (multiple q U i j) (*ℤ_mono (pos_nonneg _) (b.high i j h l));
  }

  -- ---- forms
  pub form-rescaled : (N : Matrix) (x : ℕ → ℤ) → form n (rescaled k N) x ≡ form n N (λ i. pos (2 ^ k i) *ℤ x i)
  unfolding form double_sum rescaled
  form-rescaled N x =
      double_sum_ext n _ _ (λ i j h l. rw (pow-add 2 (k i) (k j))
      (ring (pos (2 ^ k i) ∷ pos (2 ^ k j) ∷ N i j ∷ x i ∷ x j ∷ []) (search solver depth 40 fits 20000) refl))

-- ---- positive definiteness
-- 2^k x is 0 for x = 0 alone
power_zero : (k : ℕ) (x : ℤ) → pos (2 ^ k) *ℤ x ≡ pos 0 → x ≡ pos 0
power_zero k x e =
    let c = pos (2 ^ k) in
    let one : pos 1 ≤ℤ c = ≤_in (omega (arith, pow_pos k)) in
    ≤ℤ_antisym (*ℤ_cancel c one (order (c ∷ x ∷ []) e (search solver depth 40 fits 20000) (omega arith)))
    (*ℤ_cancel c one (order (c ∷ x ∷ []) e (search solver depth 40 fits 20000) (omega arith)))

-- scaled by k, and then by what each k leaves to the greatest, all entries are scaled by one power
module _ (n : ℕ) (k : ℕ → ℕ) (small : (i : ℕ) → i < n → k i ≤ greatest_exponent) where
  abbrev rest : ℕ → ℕ
  rest i = greatest_exponent - k i

  abbrev power : ℤ
  power = pos (2 ^ (greatest_exponent + greatest_exponent))

  rescaled_twice : (M : Matrix) (i j : ℕ) → i < n → j < n → rescaled rest (rescaled k M) i j ≡ power *ℤ M i j
  unfolding rescaled
  rescaled_twice M i j h l =
      let e : rest i + rest j + (k i + k j) ≡ greatest_exponent + greatest_exponent = omega (arith, small i h, small j l) in
      sym (*ℤ_assoc (pos (2 ^ (rest i + rest j))) (pos (2 ^ (k i + k j))) (M i j))
      ∙ ap (λ (z : ℕ). pos z *ℤ M i j) (sym (pow-add 2 (rest i + rest j) (k i + k j)) ∙ ap (λ (z : ℕ). 2 ^ z) e)

  form_twice : (N : Matrix) (x : ℕ → ℤ) → form n (rescaled k N) (λ i. pos (2 ^ rest i) *ℤ x i) ≡ power *ℤ form n N x
  form_twice N x = sym (form-rescaled n rest (rescaled k N) x) ∙ form_matrix_ext n _ _ x (rescaled_twice N) ∙ form-* n power N x

  nonzero-rest : {x : ℕ → ℤ} → Nonzero n x → Nonzero n (λ i. pos (2 ^ rest i) *ℤ x i)
  nonzero-rest {x} z = record { index = z.index; inside = z.inside; differs = λ e. z.differs (power_zero (rest z.index) _ e) }

  pub rescaled-definite : {L U : Matrix} → PositiveDefinite n (rescaled k L) (rescaled k U) → PositiveDefinite n L U
  rescaled-definite d = record {
    positive = λ N q b x z.
        let h : pos 0 <ℤ (power *ℤ form n N x) =
        rw (← form_twice N x) (d.positive (rescaled k N) q (rescaled_member n k b) _ (nonzero-rest z)) in
        order (form n N x ∷ []) h (search solver depth 40 fits 20000) (omega arith);
  }
