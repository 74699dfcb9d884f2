-- Upper triangular systems solved in whole numbers over a common denominator, and vectors that some rows of a matrix take to 0.
use mathlib.Core.Path.{◌≡◌, refl, sym, ap, ◌∙◌}
use mathlib.Core.Logic.{◌≢◌}
use mathlib.Core.List.{[], ◌∷◌}
use Prim.Native.Nat.{ℕ, zero, suc, ◌≤◌, ◌<◌}
use native.Mathlib.Omega.{arith}
use native.Mathlib.Decide.{dec_lt}
use lib.IntN.{ℤ, pos, neg_ℤ, ◌+ℤ◌, ◌-ℤ◌, ◌*ℤ◌, +ℤ_idr, *ℤ-zero, zero-*ℤ}
use lib.Signed.{◌≤ℤ◌, ≤ℤ_refl}
use Rattle.integers.specs.Sum.{sum, only}
use Rattle.integers.proofs.Parts.{*ℤ-nonneg, gap-nonneg}
use Rattle.integers.proofs.Solver.{◌&◌, ring, order, solver}
use Rattle.integers.proofs.Sums.{sum_suc, sum_ext, sum-none, sum-+, sum-*, sum_swap, sum_prefix, sum_single, only_same, only_other}
use Rattle.tables.specs.Matrix.{Matrix, form, gram}

-- ---- a vector with v added to entry i
unfoldable add_at : (ℕ → ℤ) → ℕ → ℤ → ℕ → ℤ
add_at x i v k = x k +ℤ only i k v

add_at-same : (x : ℕ → ℤ) (i : ℕ) (v : ℤ) → add_at x i v i ≡ x i +ℤ v
unfolding add_at
add_at-same x i v = rw (only_same i v)

add_at_other : (x : ℕ → ℤ) (i : ℕ) (v : ℤ) (k : ℕ) → i ≢ k → add_at x i v k ≡ x k
unfolding add_at
add_at_other x i v k h = rw (only_other i k v h) (+ℤ_idr (x k))

sum-add_at : (n : ℕ) (f x : ℕ → ℤ) (i : ℕ) (v : ℤ) → i < n → sum n (λ k. f k *ℤ add_at x i v k) ≡ sum n (λ k. f k *ℤ x k) +ℤ f i *ℤ v
unfolding add_at
sum-add_at n f x i v h =
    sum_ext n _ (λ k. f k *ℤ x k +ℤ f k *ℤ only i k v)
    (λ k l. ring (f k ∷ x k ∷ only i k v ∷ []) (search solver depth 40 fits 20000) refl)
    ∙ sum-+ n _ _
    ∙ ap (λ (z : ℤ). sum n (λ k. f k *ℤ x k) +ℤ z)
    (sum_single n i (λ k. f k *ℤ only i k v) h (λ k l d. rw (only_other i k v d) (*ℤ-zero (f k))) ∙ rw (only_same i v))

-- ---- R Y = d b, where R is upper triangular with a diagonal from 1 up
pub record UpperTriangular (n : ℕ) (R : Matrix) : Type 0 where
  pub below : (k l : ℕ) → l < k → k < n → R k l ≡ pos 0
  pub diagonal : (k : ℕ) → k < n → pos 1 ≤ℤ R k k

pub record Solved (n : ℕ) (R : Matrix) (b : ℕ → ℤ) : Type 0 where
  pub denominator : ℤ
  pub solution : ℕ → ℤ
  pub positive : pos 1 ≤ℤ denominator
  pub beyond : (k : ℕ) → n ≤ k → solution k ≡ pos 0
  pub solves : (k : ℕ) → k < n → sum n (λ l. R k l *ℤ solution l) ≡ denominator *ℤ b k

-- the last row gives the last entry, d b(n) over d R(n,n), and the rows before it are solved for what is then left of b
pub solve : (n : ℕ) (R : Matrix) (b : ℕ → ℤ) → UpperTriangular n R → Solved n R b
solve zero R b t =
    record {
      denominator = pos 1;
      solution = λ k. pos 0;
      positive = ≤ℤ_refl (pos 1);
      beyond = λ k h. refl;
      solves = λ k h. absurd (omega arith);
    }
solve (suc n) R b t =
    go (solve n R (λ k. R n n *ℤ b k -ℤ R k n *ℤ b n)
    (record { below = λ k l h m. t.below k l h (omega arith); diagonal = λ k h. t.diagonal k (omega arith) }))
  where
    go : Solved n R (λ k. R n n *ℤ b k -ℤ R k n *ℤ b n) → Solved (suc n) R b
    go s =
        record {
          denominator = d *ℤ R n n;
          solution = add_at Y n (d *ℤ b n);
          positive =
              order (d ∷ R n n ∷ []) (*ℤ-nonneg (gap-nonneg s.positive) (gap-nonneg last) & s.positive & last)
              (search solver depth 40 fits 20000) (omega arith);
          beyond = λ k h. add_at_other Y n (d *ℤ b n) k (omega arith) ∙ s.beyond k (omega arith);
          solves = λ k h.
              sum-add_at (suc n) (R k) Y n (d *ℤ b n) (omega arith)
              ∙ rw (sum_suc, s.beyond n (omega arith)) (row k h (dec_lt k n));
        }
      where
        d : ℤ
        d = s.denominator

        Y : ℕ → ℤ
        Y = s.solution

        last : pos 1 ≤ℤ R n n
        last = t.diagonal n (omega arith)

        row : (k : ℕ) → k < suc n → Dec (k < n) →
            sum n (λ l. R k l *ℤ Y l) +ℤ R k n *ℤ pos 0 +ℤ R k n *ℤ (d *ℤ b n) ≡ d *ℤ R n n *ℤ b k
        row k h (yes c) =
            rw (s.solves k c) (ring (d ∷ R n n ∷ R k n ∷ b k ∷ b n ∷ []) (search solver depth 40 fits 20000) refl)
        row k h (no c) =
            let e : k ≡ n = omega arith in
            rw (e, sum-none n (λ l. R n l *ℤ Y l) (λ l m. rw (t.below n l m (omega arith)) (zero-*ℤ (Y l))))
            (ring (d ∷ R n n ∷ b n ∷ []) (search solver depth 40 fits 20000) refl)

-- ---- a vector that the first i rows of R take to 0: from i on it is 0, but for the entry at j
pub record NullVector (n i j : ℕ) (R : Matrix) : Type 0 where
  pub vector : ℕ → ℤ
  pub positive : pos 1 ≤ℤ vector j
  pub beyond : (k : ℕ) → i ≤ k → j ≢ k → vector k ≡ pos 0
  pub null : (k : ℕ) → k < i → sum n (λ l. R k l *ℤ vector l) ≡ pos 0

pub null_vector : (n i j : ℕ) (R : Matrix) → i ≤ j → j < n → UpperTriangular i R → NullVector n i j R
null_vector n i j R hi hj t = go (solve i R (λ k. neg_ℤ (R k j)) t)
  where
    go : Solved i R (λ k. neg_ℤ (R k j)) → NullVector n i j R
    go s =
        record {
          vector = add_at Y j d;
          positive = rw (add_at-same Y j d, s.beyond j hi) (order (d ∷ []) s.positive (search solver depth 40 fits 20000) (omega arith));
          beyond = λ k h e. add_at_other Y j d k e ∙ s.beyond k h;
          null = λ k h.
              sum-add_at n (R k) Y j d hj
              ∙ rw (sum_prefix n i (λ l. R k l *ℤ Y l) (omega arith) (λ l p q. rw (s.beyond l p) (*ℤ-zero (R k l))), s.solves k h)
              (ring (d ∷ R k j ∷ []) (search solver depth 40 fits 20000) refl);
        }
      where
        d : ℤ
        d = s.denominator

        Y : ℕ → ℤ
        Y = s.solution

-- x'(R'R)x is 0 then, R'R summed over those rows
pub null_form : (n i j : ℕ) (R : Matrix) (z : NullVector n i j R) → form n (gram i R) z.vector ≡ pos 0
unfolding form gram
null_form n i j R z =
    sum-none n _ (λ a h.
    sum_ext n _ (λ b. sum i (λ k. x a *ℤ R k a *ℤ (R k b *ℤ x b))) (λ b l. sym (term a b))
    ∙ sum_swap n i _ ∙ sum-none i _ (λ k l. sum-* n (x a *ℤ R k a) _ ∙ rw (z.null k l) (*ℤ-zero (x a *ℤ R k a))))
  where
    x : ℕ → ℤ
    x = z.vector

    term : (a b : ℕ) → sum i (λ k. x a *ℤ R k a *ℤ (R k b *ℤ x b)) ≡ x a *ℤ sum i (λ k. R k a *ℤ R k b) *ℤ x b
    term a b =
        sum_ext i _ (λ k. x a *ℤ x b *ℤ (R k a *ℤ R k b))
        (λ k h. ring (x a ∷ x b ∷ R k a ∷ R k b ∷ []) (search solver depth 40 fits 20000) refl)
        ∙ sum-* i (x a *ℤ x b) _
        ∙ ring (x a ∷ x b ∷ sum i (λ k. R k a *ℤ R k b) ∷ []) (search solver depth 40 fits 20000) refl
