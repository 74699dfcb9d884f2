-- R3.6 and R3.7 of docs/RULES.md: the points of the ellipsoid, and those that a box contains.
use Rattle.std.specs.Prelude.{List, ℕ, ◌+◌, ◌<◌, ℤ, pos, ◌+ℤ◌, ◌*ℤ◌, ◌≤ℤ◌}
use Rattle.integers.specs.Sum.{sum}
use Rattle.tables.specs.Matrix.{Matrix, at, nth, form}
use Rattle.tables.specs.Members.{Member, Ends, Between}
use Rattle.tables.specs.Problem.{ends_in}
use Rattle.tables.specs.declared.problem.Constraint.{Constraint}

-- R3.6: X over p, where x'Mx + 2a'x ≤ α for some member M = N over q and some linear terms a = A over s between the ends e, multiplied
-- out: s X'NX + 2 p q A'X ≤ α p² q s
pub record Point (n : ℕ) (L U : Matrix) (e : Ends) (α : ℤ) (X : ℕ → ℤ) (p : ℤ) : Type 0 where
  pub matrix : Matrix
  pub denominator : ℤ
  pub member : Member n L U matrix denominator
  pub terms : ℕ → ℤ
  pub scale : ℤ
  pub between : Between n e terms scale
  pub whole : pos 1 ≤ℤ p
  pub inside :
      (scale *ℤ form n matrix X +ℤ pos 2 *ℤ p *ℤ denominator *ℤ sum n (λ k. terms k *ℤ X k))
      ≤ℤ (α *ℤ (p *ℤ p) *ℤ denominator *ℤ scale)

-- the same of a constraint
abbrev pub Allowed : Constraint → (ℕ → ℤ) → ℤ → Type 0
Allowed c X p = Point c.order (at c.order c.low) (at c.order c.high) (ends_in c) c.limit X p

-- R3.7: the sides s contain X over p, multiplied out: p low ≤ X(k) ≤ p high
abbrev pub Contains : ℕ → List ℤ → (ℕ → ℤ) → ℤ → Type 0
Contains n s X p = (k : ℕ) → k < n → ((p *ℤ nth s (k + k)) ≤ℤ X k) × (X k ≤ℤ (p *ℤ nth s (k + k + 1)))
