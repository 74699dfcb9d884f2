-- What factoring leaves behind where it ends, entry by entry: all that the theorems ask of it.
use mathlib.Core.Path.{◌≡◌}
use Prim.Native.Nat.{ℕ, suc, ◌≤◌, ◌<◌}
use lib.IntN.{ℤ, pos, nat_abs, ◌-ℤ◌, ◌*ℤ◌}
use lib.Signed.{◌≤ℤ◌}
use Rattle.integers.specs.Sum.{sum}
use Rattle.integers.proofs.Order.{Between}
use Rattle.tables.specs.Ranges.{factor_range}
use Rattle.tables.specs.Matrix.{Matrix}

-- ρ bounds the entries of a factor
abbrev pub ρ : ℤ
ρ = pos factor_range

-- H(i,j) - Σ over k ≤ i of R(k,i) R(k,j)
unfoldable pub gap : Matrix → Matrix → Matrix
gap H R i j = H i j -ℤ sum (suc i) (λ k. R k i *ℤ R k j)

-- an entry above the diagonal, from floor division
pub record OffDiagonal (H R : Matrix) (i j : ℕ) : Type 0 where
  pub gaps : Between (pos 0) (gap H R i j) (R i i -ℤ pos 1)
  pub small : nat_abs (R i j) ≤ factor_range

-- an entry on it, from the whole root
pub record OnDiagonal (H R : Matrix) (j : ℕ) : Type 0 where
  pub gaps : Between (pos 0) (gap H R j j) (pos 2 *ℤ R j j)
  pub one : pos 1 ≤ℤ R j j
  pub top : R j j ≤ℤ ρ

pub record Factored (n : ℕ) (H R : Matrix) : Type 0 where
  pub off : (i j : ℕ) → i < j → j < n → OffDiagonal H R i j
  pub on : (j : ℕ) → j < n → OnDiagonal H R j
  pub below : (i j : ℕ) → j < i → i < n → R i j ≡ pos 0
