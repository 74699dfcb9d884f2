-- What a step says of the members M: x'Mx ≥ t·x'x and x'Mx ≥ t(k)·x(k)² for every x, where t and t(k) are above 0; and where the tables
-- themselves are factored to the end, x'Mx > t·x'x for every x but 0.
use mathlib.Core.Path.{◌≡◌, refl, sym, ap, ◌∙◌}
use mathlib.Core.Bool.{Bool, true, false, false≢true, not}
use mathlib.Core.List.{[], ◌∷◌}
use Prim.Native.Nat.{ℕ, ◌≤◌, ◌<◌}
use native.Mathlib.Omega.{arith}
use native.Mathlib.Decide.{ℕ_discrete}
use lib.IntN.{ℤ, pos, negsuc, nat_abs, ◌+ℤ◌, ◌-ℤ◌, ◌*ℤ◌, *ℤ-zero, zero-*ℤ}
use lib.Signed.{◌≤ℤ◌, ◌<ℤ◌, le_z, ≤ℤ_refl}
use Rattle.integers.specs.Sum.{sum, only}
use Rattle.integers.proofs.Parts.{*ℤ_assoc, ≤ℤ_trans, pos_nonneg}
use Rattle.integers.proofs.Solver.{◌&◌, ring, order, solver}
use Rattle.integers.proofs.Order.{<-≤}
use Rattle.integers.proofs.Sums.{sum_zero, sum_ext, sum-*, sum_single, eqb_by, only_by, only_same, only_other}
use Rattle.integers.proofs.Machine.{within_in, within-high}
use Rattle.tables.specs.Ranges.{greatest_order, entry_range}
use Rattle.tables.specs.Matrix.{Matrix, form, norm_squared}
use Rattle.tables.specs.Members.{Member, Nonzero, PositiveDefinite}
use Rattle.tables.specs.Bounds.{Bounds}
use Rattle.tables.specs.Checks.{all, same}
use Rattle.tables.proofs.Checks.{of_true, all-at, le_of, same_of}
use Rattle.tables.proofs.Forms.{form_matrix_ext, form-+, form-*, form_prefix}
use Rattle.cholesky.specs.Factoring.{factored}
use Rattle.theorems.proofs.Margin.{form-diagonal}
use Rattle.theorems.proofs.Theorems.{ends-definite-take_off}
use Rattle.vectors.specs.Least.{nonzero}
use Rattle.vectors.proofs.Showing.{nonzero-of}
use Rattle.steps.specs.Steps.{lowered, trial, step_bits, step, step_at}
use Rattle.steps.proofs.Bits.{bits_by}
use Rattle.steps.proofs.Diagonals.{lowered_on, lowered_off}

-- ---- where every member is positive definite, no form is negative: at x = 0 it is 0
zero_form : (n : ℕ) (N : Matrix) (x : ℕ → ℤ) → ((k : ℕ) → k < n → x k ≡ pos 0) → form n N x ≡ pos 0
unfolding form
zero_form n N x z = form_prefix n 0 N x (omega arith) (λ k a. z k) ∙ sum_zero _

pub definite-nonneg : {n : ℕ} {L U N : Matrix} {q : ℤ} → PositiveDefinite n L U → Member n L U N q → (x : ℕ → ℤ) → pos 0 ≤ℤ form n N x
unfolding nonzero
definite-nonneg {n} {L} {U} {N} {q} p m x = go (all n (λ i. same (x i) (pos 0))) refl
  where
    go : (b : Bool) → all n (λ i. same (x i) (pos 0)) ≡ b → pos 0 ≤ℤ form n N x
    go true e = rw (zero_form n N x (λ k h. same_of (x k) (pos 0) (all-at _ n e k h))) (≤ℤ_refl (pos 0))
    go false e = <-≤ (p.positive N q m x (nonzero-of (ap not e)))

-- ---- a matrix with d(i) taken off diagonal entry i
module _ (d : ℕ → ℤ) (M : Matrix) where
  lowered_symmetric : (i j : ℕ) → M i j ≡ M j i → lowered d M i j ≡ lowered d M j i
  lowered_symmetric i j s = go (ℕ_discrete i j)
    where
      go : Dec (i ≡ j) → lowered d M i j ≡ lowered d M j i
      go (yes e) = rw e
      go (no e) = lowered_off d M i j e ∙ s ∙ sym (lowered_off d M j i (omega arith))

  -- entries keep their range where no diagonal entry falls below 1
  lowered_range : (i j : ℕ) → pos 0 ≤ℤ d i → (i ≡ j → pos 1 ≤ℤ lowered d M i i) → nat_abs (M i j) ≤ entry_range →
      nat_abs (lowered d M i j) ≤ entry_range
  lowered_range i j z one r = go (ℕ_discrete i j)
    where
      go : Dec (i ≡ j) → nat_abs (lowered d M i j) ≤ entry_range
      go (yes e) =
          let high : M i j ≤ℤ pos entry_range = within-high (record { size = r }) in
          rw (← e)
          (within_in {m = entry_range} {x = lowered d M i i}
          (order (lowered d M i i ∷ []) (one e) (search solver depth 40 fits 20000) (omega arith))
          (order (lowered d M i i ∷ M i i ∷ d i ∷ []) (lowered_on d M i & z & (rw (← e) at high)) (search solver depth 40 fits 20000)
          (omega arith))).size
      go (no e) = rw (lowered_off d M i j e) r

  -- x'Mx loses Σ d(i)·x(i)²
  form-lowered : (n : ℕ) (x : ℕ → ℤ) → form n (lowered d M) x ≡ form n M x +ℤ negsuc 0 *ℤ sum n (λ i. d i *ℤ (x i *ℤ x i))
  unfolding lowered
  form-lowered n x =
      form_matrix_ext n _ (λ i j. M i j +ℤ negsuc 0 *ℤ only i j (d i)) x
      (λ i j h k. ring (M i j ∷ only i j (d i) ∷ []) (search solver depth 40 fits 20000) refl)
      ∙ form-+ n M (λ i j. negsuc 0 *ℤ only i j (d i)) x
      ∙ ap (λ (z : ℤ). form n M x +ℤ z)
      (form-* n (negsuc 0) (λ i j. only i j (d i)) x ∙ ap (λ (z : ℤ). negsuc 0 *ℤ z) (form-diagonal n d x))

only-* : (i j : ℕ) (c x : ℤ) → only i j (c *ℤ x) ≡ c *ℤ only i j x
unfolding only
only-* i j c x =
    eqb_by i j (λ b. (elim b as (λ z. ℤ) [ true ↦ c *ℤ x | false ↦ pos 0 ]) ≡ c *ℤ elim b as (λ z. ℤ) [ true ↦ x | false ↦ pos 0 ])
    (λ e. refl) (λ e. sym (*ℤ-zero c))

-- ---- a trial that ended, with d(i) taken off entry (i,i): x'Mx ≥ Σ d(i)·x(i)² for every member M, and x'Mx > Σ d(i)·x(i)² for x but 0
module _ (n : ℕ) (order-ok : n ≤ greatest_order) (L U : Matrix) (b : Bounds n L U) (d : ℕ → ℤ) (nonneg : (i : ℕ) → pos 0 ≤ℤ d i)
    (e : trial n L U d ≡ true) where
  abbrev positive : Bool
  positive = all n (λ i. le_z (pos 1) (lowered d L i i))

  abbrev ends : Bool
  ends = (factored n (lowered d L) (lowered d U)).ends

  trial_says : (positive ≡ true) × (ends ≡ true)
  unfolding trial
  trial_says = go positive refl e
    where
      go : (c : Bool) → positive ≡ c → (elim c as (λ z. Bool) [ true ↦ ends | false ↦ false ]) ≡ true → (positive ≡ true) × (ends ≡ true)
      go true h k = (h, k)
      go false h k = absurd (false≢true k)

  low-one : (i : ℕ) → i < n → pos 1 ≤ℤ lowered d L i i
  low-one i h = le_of (pos 1) (lowered d L i i) (all-at _ n trial_says.0 i h)

  lowered-ordered : (i j : ℕ) → i < n → j < n → lowered d L i j ≤ℤ lowered d U i j
  unfolding lowered
  lowered-ordered i j h k =
      order (L i j ∷ U i j ∷ only i j (d i) ∷ []) (b.ordered i j h k) (search solver depth 40 fits 20000) (omega arith)

  -- the tables that were tried are bounds
  lowered-bounds : Bounds n (lowered d L) (lowered d U)
  lowered-bounds = record {
    low_range = λ i j h k. lowered_range d L i j (nonneg i) (λ e. low-one i h) (b.low_range i j h k);
    high_range = λ i j h k. lowered_range d U i j (nonneg i) (λ e. ≤ℤ_trans (low-one i h) (lowered-ordered i i h h)) (b.high_range i j h k);
    ordered = lowered-ordered;
    low_symmetric = λ i j h k. lowered_symmetric d L i j (b.low_symmetric i j h k);
    high_symmetric = λ i j h k. lowered_symmetric d U i j (b.high_symmetric i j h k);
  }

  lowered-definite : PositiveDefinite n (lowered d L) (lowered d U)
  lowered-definite = ends-definite-take_off n order-ok (lowered d L) (lowered d U) lowered-bounds (of_true trial_says.1)

  module _ (N : Matrix) (q : ℤ) (m : Member n L U N q) where
    -- what is taken off N, which is over q
    abbrev taken : ℕ → ℤ
    taken i = q *ℤ d i

    lowered-member : Member n (lowered d L) (lowered d U) (lowered taken N) q
    unfolding lowered
    lowered-member = record {
      whole = m.whole;
      symmetric = λ i j h k. lowered_symmetric taken N i j (m.symmetric i j h k);
      low = λ i j h k.
          order (q ∷ L i j ∷ N i j ∷ only i j (d i) ∷ only i j (taken i) ∷ []) (m.low i j h k & only-* i j q (d i))
          (search solver depth 40 fits 20000) (omega arith);
      high = λ i j h k.
          order (q ∷ U i j ∷ N i j ∷ only i j (d i) ∷ only i j (taken i) ∷ []) (m.high i j h k & only-* i j q (d i))
          (search solver depth 40 fits 20000) (omega arith);
    }

    -- q Σ d(i)·x(i)²
    abbrev off : (ℕ → ℤ) → ℤ
    off x = q *ℤ sum n (λ i. d i *ℤ (x i *ℤ x i))

    -- the lowered member's form is what is left of N's
    form-left : (x : ℕ → ℤ) → form n (lowered taken N) x ≡ form n N x -ℤ off x
    form-left x =
        order (q ∷ form n N x ∷ form n (lowered taken N) x ∷ sum n (λ i. taken i *ℤ (x i *ℤ x i)) ∷ sum n (λ i. d i *ℤ (x i *ℤ x i)) ∷ [])
        (form-lowered taken N n x & scaled-sum) (search solver depth 40 fits 20000) (omega arith)
      where
        scaled-sum : sum n (λ i. taken i *ℤ (x i *ℤ x i)) ≡ off x
        scaled-sum =
            sum_ext n _ (λ i. q *ℤ (d i *ℤ (x i *ℤ x i))) (λ i h. ring (q ∷ d i ∷ x i ∷ []) (search solver depth 40 fits 20000) refl)
            ∙ sum-* n q _

    pub trial_strong : (x : ℕ → ℤ) → off x ≤ℤ form n N x
    trial_strong x =
        order (form n N x ∷ form n (lowered taken N) x ∷ off x ∷ []) (definite-nonneg lowered-definite lowered-member x & form-left x)
        (search solver depth 40 fits 20000) (omega arith)

    pub trial-above : (x : ℕ → ℤ) → Nonzero n x → off x <ℤ form n N x
    trial-above x z =
        order (form n N x ∷ form n (lowered taken N) x ∷ off x ∷ []) (lowered-definite.positive _ q lowered-member x z & form-left x)
        (search solver depth 40 fits 20000) (omega arith)

-- ---- t and t(k)
-- the same number taken off all entries
all-lowered : (n : ℕ) (q t : ℤ) (x : ℕ → ℤ) → q *ℤ sum n (λ i. t *ℤ (x i *ℤ x i)) ≡ q *ℤ t *ℤ sum n (λ i. x i *ℤ x i)
all-lowered n q t x = ap (λ (z : ℤ). q *ℤ z) (sum-* n t (λ i. x i *ℤ x i)) ∙ sym (*ℤ_assoc q t _)

module _ (n : ℕ) (order-ok : n ≤ greatest_order) (L U : Matrix) (b : Bounds n L U) where
  -- t is found: x'Mx ≥ t·x'x for every member M = N over q
  pub step_strong : pos 1 ≤ℤ step n L U → (N : Matrix) (q : ℤ) → Member n L U N q → (x : ℕ → ℤ) →
      (q *ℤ step n L U *ℤ sum n (λ i. x i *ℤ x i)) ≤ℤ form n N x
  unfolding step
  step_strong one N q m x =
      bits_by (λ t. trial n L U (λ i. t)) (λ t. pos 1 ≤ℤ t → (q *ℤ t *ℤ sum n (λ i. x i *ℤ x i)) ≤ℤ form n N x)
      (λ t z e h. rw (all-lowered n q t x) at (trial_strong n order-ok L U b (λ i. t) (λ i. z) e N q m x))
      step_bits (pos 0) (pos_nonneg 0) (λ h. absurd h.le) one

  -- the tables are factored to the end: x'Mx > t·x'x for x but 0, whether t is found or 0
  pub step-above : (factored n L U).ends ≡ true → (N : Matrix) (q : ℤ) → Member n L U N q → (x : ℕ → ℤ) → Nonzero n x →
      (q *ℤ step n L U *ℤ norm_squared n x) <ℤ form n N x
  unfolding step norm_squared
  step-above ended N q m x z =
      bits_by (λ t. trial n L U (λ i. t)) (λ t. (q *ℤ t *ℤ sum n (λ i. x i *ℤ x i)) <ℤ form n N x)
      (λ t h e. rw (all-lowered n q t x) at (trial-above n order-ok L U b (λ i. t) (λ i. h) e N q m x z))
      step_bits (pos 0) (pos_nonneg 0)
      (order (q ∷ sum n (λ i. x i *ℤ x i) ∷ form n N x ∷ []) ((ends-definite-take_off n order-ok L U b (of_true ended)).positive N q m x z)
      (search solver depth 40 fits 20000) (omega arith))

  -- t(k) is found: x'Mx ≥ t(k)·x(k)²
  pub step-at_strong : (k : ℕ) → k < n → pos 1 ≤ℤ step_at n L U k → (N : Matrix) (q : ℤ) → Member n L U N q → (x : ℕ → ℤ) →
      (q *ℤ step_at n L U k *ℤ (x k *ℤ x k)) ≤ℤ form n N x
  unfolding step_at
  step-at_strong k l one N q m x =
      bits_by (λ t. trial n L U (λ i. only i k t)) (λ t. pos 1 ≤ℤ t → (q *ℤ t *ℤ (x k *ℤ x k)) ≤ℤ form n N x)
      (λ t z e h. order (q ∷ t ∷ form n N x ∷ x k ∷ [])
      (rw (at-k t) at
      (trial_strong n order-ok L U b (λ i. only i k t) (λ i. only_by i k t (λ y. pos 0 ≤ℤ y) (λ s. z) (λ s. pos_nonneg 0)) e N q m x))
      (search solver depth 40 fits 20000) (omega arith))
      step_bits (pos 0) (pos_nonneg 0) (λ h. absurd h.le) one
    where
      at-k : (t : ℤ) → sum n (λ i. only i k t *ℤ (x i *ℤ x i)) ≡ t *ℤ (x k *ℤ x k)
      at-k t = sum_single n k _ l (λ i h e. rw (only_other i k t (omega arith)) (zero-*ℤ (x i *ℤ x i))) ∙ rw (only_same k t)
