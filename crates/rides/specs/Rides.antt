-- R23 of docs/RULES.md: samples gathered one after the other.
use Rattle.std.specs.Prelude.{List, [], ◌∷◌, ℕ, ℤ, pos, ◌+ℤ◌, ◌*ℤ◌, true, Ok, Err}
use Rattle.tables.specs.Matrix.{table, tabulate}
use Rattle.tables.specs.Problem.{constraint_of}
use Rattle.tables.specs.declared.problem.Constraint.{Constraint}
use Rattle.sums.specs.Sums.{Outcome}
use Rattle.samples.specs.declared.sample.Sample.{Sample}
use Rattle.samples.specs.Samples.{factor_count}
use Rattle.samples.specs.Gathering.{gathering}
use Rattle.samples.specs.Explaining.{misfit}

-- sums of no sample
unfoldable pub no_sums : Constraint
no_sums =
    let n : ℕ = factor_count in
    let t = table n (λ i j. pos 0) in
    let x = tabulate n (λ i. pos 0) in
    constraint_of n t t x x (pos 0)

-- one sample, for sums of its order
abbrev pub gathered : Sample → Constraint → Outcome
gathered s c = gathering s (pos factor_count) true c

-- the sums as a sample leaves them: a refused one leaves them as they are
unfoldable pub sums_after : Constraint → Outcome → Constraint
sums_after c (Ok d) = d
sums_after c (Err r) = c

-- the sums after samples, one after the other
unfoldable pub gathered_all : List Sample → Constraint → Constraint
gathered_all [] c = c
gathered_all (s ∷ ss) c = gathered_all ss (sums_after c (gathered s c))

-- x where the sample was taken, and 0 where it was refused
unfoldable pub if_taken : Outcome → ℤ → ℤ
if_taken (Ok d) x = x
if_taken (Err r) x = pos 0

-- the squares of 16·draw − 16·factors·x of all samples that were taken, added up, times the square of `sixteenth` and of p
unfoldable pub squares : List Sample → Constraint → (ℕ → ℤ) → ℤ → ℤ
squares [] c X p = pos 0
squares (s ∷ ss) c X p = if_taken (gathered s c) (misfit s X p *ℤ misfit s X p) +ℤ squares ss (sums_after c (gathered s c)) X p
