-- R12 of docs/RULES.md: the step t of all diagonal entries, and the step t(k) of entry (k,k) alone.
use Rattle.std.specs.Prelude.{Bool, true, false, ℕ, zero, suc, ◌^◌, ℤ, pos, ◌+ℤ◌, ◌-ℤ◌}
use Rattle.std.specs.Int.Signed.{le_z}
use Rattle.integers.specs.Sum.{only}
use Rattle.tables.specs.Matrix.{Matrix}
use Rattle.tables.specs.Checks.{all}
use Rattle.cholesky.specs.Factoring.{factored}

-- M with d(i) taken off diagonal entry i
unfoldable pub lowered : (ℕ → ℤ) → Matrix → Matrix
lowered d M i j = M i j -ℤ only i j (d i)

-- R12.1: a trial, with d(i) taken off L(i,i) and U(i,i): L's diagonal stays positive, and the lowered tables are factored to the end
unfoldable pub trial : ℕ → Matrix → Matrix → (ℕ → ℤ) → Bool
trial n L U d =
    elim (all n (λ i. le_z (pos 1) (lowered d L i i))) [
      | true ↦ (factored n (lowered d L) (lowered d U)).ends
      | false ↦ false
    ]

-- the bits b - 1 down to 0: each is added to t if p says so
unfoldable pub bits : (ℤ → Bool) → ℕ → ℤ → ℤ
bits p zero t = t
bits p (suc b) t =
    elim (p (t +ℤ pos (2 ^ b))) [ true ↦ bits p b (t +ℤ pos (2 ^ b)) | false ↦ bits p b t ]

-- a step's bits, the highest of them 2^19
abbrev pub step_bits : ℕ
step_bits = 20

-- R12.2: t, of all diagonal entries
unfoldable pub step : ℕ → Matrix → Matrix → ℤ
step n L U = bits (λ t. trial n L U (λ i. t)) step_bits (pos 0)

-- R12.3: t(k), of entry (k,k) alone
unfoldable pub step_at : ℕ → Matrix → Matrix → ℕ → ℤ
step_at n L U k = bits (λ t. trial n L U (λ i. only i k t)) step_bits (pos 0)
