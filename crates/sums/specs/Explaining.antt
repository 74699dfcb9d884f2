-- R23.3 of docs/RULES.md: which points running sums explain, by how much.
use Rattle.std.specs.Prelude.{ℕ, ℤ, pos, ◌+ℤ◌, ◌*ℤ◌, ◌≤ℤ◌}
use Rattle.integers.specs.Sum.{sum}
use Rattle.tables.specs.Matrix.{Matrix, at, form}
use Rattle.tables.specs.Members.{Member, Ends, Between}
use Rattle.tables.specs.Problem.{ends_in}
use Rattle.tables.specs.declared.problem.Constraint.{Constraint}

-- sums with bounds L and U, linear terms between the ends e and a running limit explain X over p up to u over v, which is not negative:
-- some member M and some a between the ends have x'Mx + 2a'x ≤ u/v + limit, multiplied out
pub record Explains (n : ℕ) (L U : Matrix) (e : Ends) (limit u v : ℤ) (X : ℕ → ℤ) (p : ℤ) : Type 0 where
  pub nonneg : pos 0 ≤ℤ u
  pub matrix : Matrix
  pub denominator : ℤ
  pub member : Member n L U matrix denominator
  pub terms : ℕ → ℤ
  pub scale : ℤ
  pub between : Between n e terms scale
  pub under :
      (v *ℤ (scale *ℤ form n matrix X +ℤ pos 2 *ℤ p *ℤ denominator *ℤ sum n (λ k. terms k *ℤ X k)))
      ≤ℤ ((u +ℤ limit *ℤ v) *ℤ (p *ℤ p) *ℤ denominator *ℤ scale)

-- the same of running sums
abbrev pub Explained : Constraint → ℤ → ℤ → (ℕ → ℤ) → ℤ → Type 0
Explained c u v X p = Explains c.order (at c.order c.low) (at c.order c.high) (ends_in c) c.limit u v X p
