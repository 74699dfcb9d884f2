-- R3 of docs/RULES.md: the members of bounds, linear terms between their ends, positive definiteness, and the margin.
-- R3.1: fractions are whole numbers over a single denominator, at least 1, and statements have it multiplied away.
use Rattle.std.specs.Prelude.{◌≡◌, ◌≢◌, ℕ, ◌<◌, ℤ, pos, ◌+ℤ◌, ◌*ℤ◌, ◌≤ℤ◌, ◌<ℤ◌}
use Rattle.integers.specs.Sum.{sum}
use Rattle.tables.specs.Matrix.{Matrix, form, row_width}

-- R3.2: N over q is a member, where q ≥ 1, N is symmetric, and q L ≤ N ≤ q U
pub record Member (n : ℕ) (L U N : Matrix) (q : ℤ) : Type 0 where
  pub whole : pos 1 ≤ℤ q
  pub symmetric : (i j : ℕ) → i < n → j < n → N i j ≡ N j i
  pub low : (i j : ℕ) → i < n → j < n → (q *ℤ L i j) ≤ℤ N i j
  pub high : (i j : ℕ) → i < n → j < n → N i j ≤ℤ (q *ℤ U i j)

-- R2.4: linear terms are known between two ends
pub record Ends : Type 0 where
  pub low : ℕ → ℤ
  pub high : ℕ → ℤ

-- R3.8: A over s lies between them, where s ≥ 1 and s low ≤ A ≤ s high
pub record Between (n : ℕ) (e : Ends) (A : ℕ → ℤ) (s : ℤ) : Type 0 where
  pub whole : pos 1 ≤ℤ s
  pub low : (k : ℕ) → k < n → (s *ℤ e.low k) ≤ℤ A k
  pub high : (k : ℕ) → k < n → A k ≤ℤ (s *ℤ e.high k)

-- x is not the zero vector
pub record Nonzero (n : ℕ) (x : ℕ → ℤ) : Type 0 where
  pub index : ℕ
  pub inside : index < n
  pub differs : x index ≢ pos 0

-- R3.4: x'Mx > 0 for every member M and every nonzero x. For X over p the factor p² drops out of the sign: so X stands for it.
pub record PositiveDefinite (n : ℕ) (L U : Matrix) : Type 0 where
  pub positive : (N : Matrix) (q : ℤ) → Member n L U N q → (x : ℕ → ℤ) → Nonzero n x → pos 0 <ℤ form n N x

-- a margin, with its two numbers: k x'(L+U)x ≥ Σ (m + k w(i)) x(i)² for every whole-number x
pub record MarginOf (m k n : ℕ) (L U : Matrix) : Type 0 where
  pub room : (x : ℕ → ℤ) →
      sum n (λ i. (pos m +ℤ pos k *ℤ row_width n L U i) *ℤ (x i *ℤ x i)) ≤ℤ (pos k *ℤ form n (λ i j. L i j +ℤ U i j) x)

-- demand 3's margin: x'(L+U)x ≥ Σ (1 + w(i)) x(i)²
abbrev pub Margin : ℕ → Matrix → Matrix → Type 0
Margin n L U = MarginOf 1 1 n L U
