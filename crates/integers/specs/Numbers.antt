-- The size of an integer (R1.5 of docs/RULES.md), the smaller and the greater of two, and the least of finitely many.
use Rattle.std.specs.Prelude.{true, false, ℕ, zero, suc, ◌≤◌, ℤ, pos, nat_abs}
use Rattle.std.specs.Int.Signed.{le_z}

-- |x|
unfoldable pub abs_ℤ : ℤ → ℤ
abs_ℤ x = pos (nat_abs x)

-- |x| ≤ m, in ℕ
pub record Within (m : ℕ) (x : ℤ) : Type 0 where
  pub size : nat_abs x ≤ m

unfoldable pub min_ℤ : ℤ → ℤ → ℤ
min_ℤ x y = elim (le_z x y) [ true ↦ x | false ↦ y ]

unfoldable pub max_ℤ : ℤ → ℤ → ℤ
max_ℤ x y = elim (le_z x y) [ true ↦ y | false ↦ x ]

-- the least of f 0, .., f n
unfoldable pub least_of : ℕ → (ℕ → ℤ) → ℤ
least_of zero f = f 0
least_of (suc n) f = min_ℤ (least_of n f) (f (suc n))
