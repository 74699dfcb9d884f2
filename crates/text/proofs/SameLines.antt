-- Lines rest on the numbers that they print alone: a table or a vector may stand at the front of a longer array.
use mathlib.Core.Path.{◌≡◌, refl, sym, ap₂}
use mathlib.Core.List.{List, ◌∷◌, ◌++◌}
use Prim.Native.Nat.{ℕ, zero, suc, ◌+◌, ◌*◌, ◌≤◌, ◌<◌}
use native.Mathlib.Nat.{suc-mul}
use native.Mathlib.Omega.{arith}
use lib.IntN.{ℤ}
use Rattle.tables.specs.Matrix.{nth, tabulate}
use Rattle.tables.proofs.Matrix.{nth-tabulate}
use Rattle.text.specs.Text.{space, decimal, numbers, line, lines}

pub numbers_ext : (f g : ℕ → ℤ) (n : ℕ) → ((k : ℕ) → k < n → f k ≡ g k) → numbers f n ≡ numbers g n
unfolding numbers
numbers_ext f g zero h = refl
numbers_ext f g (suc n) h =
    ap₂ (λ (s : List ℕ) (z : ℤ). s ++ (space ∷ decimal z)) (numbers_ext f g n (λ k l. h k (omega arith))) (h n (omega arith))

module _ (word : List ℕ) where
  line_ext : (f g : ℕ → ℤ) (n : ℕ) → ((k : ℕ) → k < n → f k ≡ g k) → line word f n ≡ line word g n
  unfolding line
  line_ext f g n h = rw (numbers_ext f g n h)

  pub lines_ext : (x y : List ℤ) (d n : ℕ) → ((k : ℕ) → k < n * d → nth x k ≡ nth y k) → lines word x d n ≡ lines word y d n
  unfolding lines
  lines_ext x y d zero h = refl
  lines_ext x y d (suc n) h =
      ap₂ (λ (s t : List ℕ). s ++ t) (lines_ext x y d n (λ k l. h k (omega (arith, suc-mul n d))))
      (line_ext (λ k. nth x (n * d + k)) (λ k. nth y (n * d + k)) d (λ k l. h (n * d + k) (omega (arith, suc-mul n d))))

  -- the first m numbers of an array
  pub first-lines : (x : List ℤ) (d n m : ℕ) → n * d ≤ m → lines word x d n ≡ lines word (tabulate m (nth x)) d n
  first-lines x d n m l = lines_ext x (tabulate m (nth x)) d n (λ k h. sym (nth-tabulate m (nth x) k (omega arith)))
