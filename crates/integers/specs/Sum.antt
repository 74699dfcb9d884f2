-- Finite sums over ℤ (R3.3 of docs/RULES.md).
use Rattle.std.specs.Prelude.{true, false, ℕ, zero, suc, eqb, ℤ, pos, ◌+ℤ◌}

-- f 0 + .. + f (n - 1)
unfoldable pub sum : ℕ → (ℕ → ℤ) → ℤ
sum zero f = pos 0
sum (suc n) f = sum n f +ℤ f n

-- x where i = j, and 0 elsewhere
unfoldable pub only : ℕ → ℕ → ℤ → ℤ
only i j x = elim (eqb i j) [ true ↦ x | false ↦ pos 0 ]

-- x where i ≠ j, and 0 elsewhere
unfoldable pub except : ℕ → ℕ → ℤ → ℤ
except i j x = elim (eqb i j) [ true ↦ pos 0 | false ↦ x ]

-- the sum of f j over the j ≠ i below n
abbrev pub sum_except : ℕ → ℕ → (ℕ → ℤ) → ℤ
sum_except n i f = sum n (λ j. except i j (f j))
