-- R15.3 of docs/RULES.md: running sums in five lent buffers, and how an act that adds to them leaves these.
use Rattle.std.specs.Prelude.{List, ℕ, ℤ, pos, Ok, Err}
use Rattle.tables.specs.Matrix.{nth}
use Rattle.tables.specs.Checks.{Checked}
use Rattle.tables.specs.Answers.{answer_code}
use Rattle.tables.specs.Problem.{constraint_of}
use Rattle.tables.specs.declared.problem.Constraint.{Constraint}
use Rattle.sums.specs.Sums.{Outcome}

-- the five lent buffers: lists of numbers, or of their bytes
pub record Lent (A : Type 0) : Type 0 where
  pub low : A
  pub high : A
  pub from : A
  pub to : A
  pub limit : A

-- the answer, and the buffers as they are left
pub record Left (A : Type 0) : Type 0 where
  pub answer : Checked
  pub sums : Lent A

-- only what is taken is written. T lays a table into a buffer, X the linear terms, and N a number.
abbrev pub laid_sums : {A : Type 0} → (List ℤ → A) → (List ℤ → A) → (ℤ → A) → Outcome → Lent A → Left A
laid_sums T X N (Ok c) b = record {
  answer = Ok tt;
  sums = record { low = T c.low; high = T c.high; from = X c.linear.low; to = X c.linear.high; limit = N c.limit };
}
laid_sums T X N (Err r) b = record { answer = Err r; sums = b }

-- the sums that lists of numbers are
abbrev pub sums_of : ℕ → Lent (List ℤ) → Constraint
sums_of n b = constraint_of n b.low b.high b.from b.to (nth b.limit 0)

-- R15.4: the number at the C entry, 0, or the refusal's
abbrev pub gathered_code : Checked → ℤ
gathered_code = answer_code (λ _. pos 0)
