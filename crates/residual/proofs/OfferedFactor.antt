-- Laws of check 6, of an offered factor.
use mathlib.Core.Path.{◌≡◌, refl, sym, ◌∙◌}
use mathlib.Core.Bool.{true, ◌&&◌}
use mathlib.Core.Logic.{by_cases}
use Prim.Native.Nat.{ℕ, ◌≤◌, ◌<◌, compare, Ordering}
use native.Mathlib.Decide.{ℕ_discrete, dec_lt}
use native.Mathlib.Omega.{arith}
use lib.Dec.{T, is_le, compare_is_eq, leb→le, le→leb, eqb→eq, eqb_refl}
use lib.IntN.{ℤ, pos}
use lib.Signed.{◌≤ℤ◌, le_z}
use Rattle.integers.specs.Numbers.{Within}
use Rattle.integers.proofs.Parts.{≤ℤ_trans}
use Rattle.integers.proofs.Machine.{within_in}
use Rattle.tables.specs.Ranges.{factor_range}
use Rattle.tables.specs.Matrix.{Matrix}
use Rattle.tables.specs.Checks.{within, same}
use Rattle.tables.proofs.Checks.{all-at, and_left, and_right, le_of, within_of, same_of}
use Rattle.residual.specs.FactorTest.{factor_entry, factor_shape}

-- ---- an entry, by where it stands
module _ (i j : ℕ) (x : ℤ) where
  pub factor-entry-above : i < j → factor_entry i j x ≡ within factor_range x
  unfolding factor_entry
  factor-entry-above h = rw (go (compare i j) (le→leb i j (omega arith)) (eqb→eq i j), factor_entry)
    where
      go : (o : Ordering) → T (is_le o) → (T (compare_is_eq o) → i ≡ j) → o ≡ Ordering.lt
      go Ordering.lt l f = refl
      go Ordering.eq l f = absurd (omega (arith, f tt))
      go Ordering.gt l f = absurd l

  pub factor-entry_on : i ≡ j → factor_entry i j x ≡ (le_z (pos 1) x && le_z x (pos factor_range))
  unfolding factor_entry
  factor-entry_on h = rw (h, go (compare j j) (eqb_refl j), factor_entry)
    where
      go : (o : Ordering) → T (compare_is_eq o) → o ≡ Ordering.eq
      go Ordering.lt t = absurd t
      go Ordering.eq t = refl
      go Ordering.gt t = absurd t

  pub factor-entry-below : j < i → factor_entry i j x ≡ same x (pos 0)
  unfolding factor_entry
  factor-entry-below h = rw (go (compare i j) (leb→le i j), factor_entry)
    where
      go : (o : Ordering) → (T (is_le o) → i ≤ j) → o ≡ Ordering.gt
      go Ordering.lt f = absurd (omega (arith, f tt))
      go Ordering.eq f = absurd (omega (arith, f tt))
      go Ordering.gt f = refl

-- ---- what check 6 says of a factor
module _ (n : ℕ) (R : Matrix) (e : factor_shape n R ≡ true) where
  entry_ok : (i j : ℕ) → i < n → j < n → factor_entry i j (R i j) ≡ true
  unfolding factor_shape
  entry_ok i j h k = all-at _ n (all-at _ n e i h) j k

  pub factor-below : (i j : ℕ) → j < i → i < n → R i j ≡ pos 0
  factor-below i j h k = same_of (R i j) (pos 0) (sym (factor-entry-below i j (R i j) h) ∙ entry_ok i j k (omega arith))

  on_diagonal : (j : ℕ) → j < n → (le_z (pos 1) (R j j) && le_z (R j j) (pos factor_range)) ≡ true
  on_diagonal j h = sym (factor-entry_on j j (R j j) refl) ∙ entry_ok j j h h

  pub factor-diagonal : (j : ℕ) → j < n → pos 1 ≤ℤ R j j
  factor-diagonal j h = le_of (pos 1) (R j j) (and_left (le_z (pos 1) (R j j)) _ (on_diagonal j h))

  pub factor-diagonal_range : (j : ℕ) → j < n → R j j ≤ℤ pos factor_range
  factor-diagonal_range j h = le_of (R j j) (pos factor_range) (and_right (le_z (pos 1) (R j j)) _ (on_diagonal j h))

  pub factor-within : (i j : ℕ) → i < n → j < n → Within factor_range (R i j)
  factor-within i j h k =
      by_cases (dec_lt i j) (λ l. within_of factor_range (R i j) (sym (factor-entry-above i j (R i j) l) ∙ entry_ok i j h k))
      (λ l. by_cases (ℕ_discrete i j)
      (λ d. rw d (within_in (≤ℤ_trans (record { le = tt }) (factor-diagonal j k)) (factor-diagonal_range j k)))
      (λ d. rw (factor-below i j (omega arith) h) (record { size = omega arith })))
