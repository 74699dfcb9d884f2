-- Laws of the mended tables, R2.10 of docs/RULES.md: they are symmetric, symmetric tables are mended already, mending twice is mending once, zeros
-- behind a table play no part, and the members of tables are the members of the mended ones.
use mathlib.Core.Path.{◌≡◌, refl, sym, ap, ◌∙◌}
use mathlib.Core.List.{List, ◌++◌, append-nil}
use Prim.Native.Nat.{ℕ, ◌+◌, ◌*◌, ◌/◌, ◌%◌, ◌≤◌, ◌<◌}
use native.Mathlib.Omega.{arith}
use lib.IntN.{ℤ, pos, ◌*ℤ◌}
use lib.Signed.{◌≤ℤ◌}
use lib.ListN.{length, take, drop, take-append-drop, length-append, length-drop, drop_of_length-le, get_or-append}
use lib.Seq.{ext_get_or, get_or-take, length-take-le, drop_at}
use Rattle.integers.specs.Numbers.{min_ℤ, max_ℤ}
use Rattle.integers.proofs.Parts.{≤ℤ_antisym, ≤ℤ_trans, pos_nonneg}
use Rattle.integers.proofs.Order.{*ℤ_mono, min_by, max_by, min_≤ˡ, min_≤ʳ, ≤_maxˡ, ≤_maxʳ, max_≤}
use Rattle.tables.specs.Matrix.{Matrix, at, table}
use Rattle.tables.specs.Mending.{mended_by, mended_low, mended_high, Symmetric}
use Rattle.tables.specs.Members.{Member, PositiveDefinite}
use Rattle.tables.specs.Entering.{low_bounds, high_bounds}
use Rattle.tables.proofs.Matrix.{inside, row_inside, column_inside, nth-at, nth-tabulate, length-table, at_table}

-- ---- the greater and the smaller of two: in either order, and of equal ones
pub record Pairing (m : ℤ → ℤ → ℤ) : Type 0 where
  pub turned : (x y : ℤ) → m x y ≡ m y x
  pub equal : (x : ℤ) → m x x ≡ x

pub greater_pairing : Pairing max_ℤ
greater_pairing = record { turned = λ x y. ≤ℤ_antisym (one x y) (one y x); equal = λ x. max_by x x (λ z. z ≡ x) (λ h. refl) (λ h. refl) }
  where
    one : (x y : ℤ) → max_ℤ x y ≤ℤ max_ℤ y x
    one x y = max_≤ (≤_maxʳ y x) (≤_maxˡ y x)

pub smaller_pairing : Pairing min_ℤ
smaller_pairing = record { turned = λ x y. ≤ℤ_antisym (one x y) (one y x); equal = λ x. min_by x x (λ z. z ≡ x) (λ h. refl) (λ h. refl) }
  where
    one : (x y : ℤ) → min_ℤ x y ≤ℤ min_ℤ y x
    one x y = min_by y x (λ z. min_ℤ x y ≤ℤ z) (λ h. min_≤ʳ x y) (λ h. min_≤ˡ x y)

-- ---- a table is its entries, and what stands behind them
table-whole : (n : ℕ) (t : List ℤ) (M : Matrix) → n * n ≤ length t → ((i j : ℕ) → i < n → j < n → at n t i j ≡ M i j) →
    t ≡ table n M ++ drop (n * n) t
unfolding table
table-whole n t M h e = sym (take-append-drop (n * n) t) ∙ ap (λ (z : List ℤ). z ++ drop (n * n) t) front
  where
    front : take (n * n) t ≡ table n M
    front =
        ext_get_or (pos 0) (take (n * n) t) (table n M) (length-take-le (n * n) t h ∙ sym (length-table n M))
        (λ k l. let q : k < n * n = omega (arith, l, length-take-le (n * n) t h) in
        get_or-take (n * n) t k (pos 0) q ∙ nth-at n k t ∙ e (k / n) (k % n) (row_inside n k q) (column_inside n k q) ∙ sym (nth-tabulate (n * n) _ k q))

at_front : (n : ℕ) (M : Matrix) (r : List ℤ) (i j : ℕ) → i < n → j < n → at n (table n M ++ r) i j ≡ M i j
unfolding at
at_front n M r i j h k = get_or-append (table n M) r (pos 0) (i * n + j) (omega (arith, inside h k, length-table n M)) ∙ at_table n M i j h k

-- ---- a table mended by any pairing
module _ (m : ℤ → ℤ → ℤ) (n : ℕ) where
  pub at-mended : (t : List ℤ) (i j : ℕ) → i < n → j < n → at n (mended_by m n t) i j ≡ m (at n t i j) (at n t j i)
  unfolding mended_by
  at-mended t i j h k = at_front n _ (drop (n * n) t) i j h k

  pub mended-length : (t : List ℤ) → n * n ≤ length t → length (mended_by m n t) ≡ length t
  unfolding mended_by
  mended-length t h = rw (length-append, length-table, length-drop) (omega arith)

  -- what stands behind the n² numbers of x plays no part
  pub mended-over : (x r : List ℤ) → length x ≡ n * n → at n (x ++ r) ≡ at n x → mended_by m n (x ++ r) ≡ mended_by m n x ++ r
  unfolding mended_by
  mended-over x r e f =
      let end : length x ≤ n * n = omega arith in
      rw (f, drop_at x r (n * n) e, drop_of_length-le x end, append-nil)

  module _ (p : Pairing m) where
    pub mended_symmetric : (t : List ℤ) (i j : ℕ) → i < n → j < n → at n (mended_by m n t) i j ≡ at n (mended_by m n t) j i
    mended_symmetric t i j h k = at-mended t i j h k ∙ p.turned _ _ ∙ sym (at-mended t j i k h)

    -- a table t whose entries are those of the mended one of s, and what stands behind them too
    pub mended_as : (s t : List ℤ) → n * n ≤ length t → drop (n * n) t ≡ drop (n * n) s →
        ((i j : ℕ) → i < n → j < n → at n t i j ≡ m (at n s i j) (at n s j i)) → t ≡ mended_by m n s
    unfolding mended_by
    mended_as s t h e f = table-whole n t _ h f ∙ ap (λ (z : List ℤ). table n (λ i j. m (at n s i j) (at n s j i)) ++ z) e

    pub symmetric_mended : (t : List ℤ) → n * n ≤ length t → ((i j : ℕ) → i < n → j < n → at n t i j ≡ at n t j i) → mended_by m n t ≡ t
    symmetric_mended t h e = sym (mended_as t t h refl (λ i j k l. sym (ap (m (at n t i j)) (sym (e i j k l)) ∙ p.equal _)))

    pub mended_twice : (t : List ℤ) → n * n ≤ length t → mended_by m n (mended_by m n t) ≡ mended_by m n t
    mended_twice t h = symmetric_mended (mended_by m n t) (omega (arith, mended-length t h)) (mended_symmetric t)

-- both tables
module _ (n : ℕ) (l u : List ℤ) where
  pub both_symmetric : Symmetric n (mended_low n l) (mended_high n u)
  both_symmetric = record { low = mended_symmetric max_ℤ n greater_pairing l; high = mended_symmetric min_ℤ n smaller_pairing u }

  -- ---- members
  pub member_mended : {N : Matrix} {q : ℤ} → Member n (at n l) (at n u) N q → Member n (low_bounds n l) (high_bounds n u) N q
  member_mended {N} {q} b = record {
    whole = b.whole;
    symmetric = b.symmetric;
    low = λ i j h k. rw (at-mended max_ℤ n l i j h k)
        (max_by (at n l i j) (at n l j i) (λ z. (q *ℤ z) ≤ℤ N i j) (λ e. rw (b.symmetric i j h k) (b.low j i k h)) (λ e. b.low i j h k));
    high = λ i j h k. rw (at-mended min_ℤ n u i j h k)
        (min_by (at n u i j) (at n u j i) (λ z. N i j ≤ℤ (q *ℤ z)) (λ e. b.high i j h k) (λ e. rw (b.symmetric i j h k) (b.high j i k h)));
  }

  pub mended_member : {N : Matrix} {q : ℤ} → Member n (low_bounds n l) (high_bounds n u) N q → Member n (at n l) (at n u) N q
  mended_member {N} {q} b =
      let nonneg : pos 0 ≤ℤ q = ≤ℤ_trans (pos_nonneg 1) b.whole in
      record {
        whole = b.whole;
        symmetric = b.symmetric;
        low = λ i j h k. ≤ℤ_trans (*ℤ_mono nonneg (rw (at-mended max_ℤ n l i j h k) (≤_maxˡ (at n l i j) (at n l j i)))) (b.low i j h k);
        high = λ i j h k. ≤ℤ_trans (b.high i j h k) (*ℤ_mono nonneg (rw (at-mended min_ℤ n u i j h k) (min_≤ˡ (at n u i j) (at n u j i))));
      }

  pub definite-handed : PositiveDefinite n (low_bounds n l) (high_bounds n u) → PositiveDefinite n (at n l) (at n u)
  definite-handed d = record { positive = λ N q b. d.positive N q (member_mended b) }
