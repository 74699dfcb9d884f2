-- R23.4 of docs/RULES.md: reading running sums with an allowance K: the checks, and the limit of the constraint that they give.
use Rattle.std.specs.Prelude.{◌≡◌, Bool, ◌&&◌, List, ℕ, ◌*◌, ◌^◌, ℤ, pos, ◌+ℤ◌, ◌*ℤ◌, ◌≤ℤ◌, Result, Ok, Err}
use Rattle.std.specs.Int.Signed.{le_z}
use Rattle.tables.specs.Ranges.{limit_range}
use Rattle.tables.specs.Checks.{within, first_refusal}
use Rattle.tables.specs.Answers.{after, answer_code}
use Rattle.tables.specs.Problem.{constraint_of, constraint_sized, constraint_entered}
use Rattle.tables.specs.declared.Refusal.{Refusal}
use Rattle.tables.specs.declared.problem.Constraint.{Constraint}
use Rattle.tables.specs.declared.problem.Lengths.{Lengths}
use Rattle.enclosure.specs.Points.{Allowed}
use Rattle.sums.specs.Sums.{terms_in, sums_checks, allowing}
use Rattle.sums.specs.Explaining.{Explained}

-- the sums of order n that buffers hold, with a running limit α: `numbers` are those of a buffer
abbrev pub held_sums : {A : Type 0} → (List A → ℕ → List ℤ) → ℕ → List A → List A → List A → List A → ℤ → Constraint
held_sums numbers n l u a b α = constraint_of n (numbers l (n * n)) (numbers u (n * n)) (numbers a n) (numbers b n) α

-- 2, R4.2: each lent buffer has the size that belongs to n, where so many numbers take `taken` elements
abbrev pub reading_sizes : (ℕ → ℕ) → ℕ → Lengths → Bool
reading_sizes taken n = constraint_sized (record { table = taken (n * n); vector = taken n })

-- K is from 0 to this
abbrev pub allowance_range : ℕ
allowance_range = 2 ^ 40

-- 3, R4.3, of the limits: the running limit α is in its range, K in its own, and K + α in that of a limit
unfoldable pub limits_in : ℤ → ℤ → Bool
limits_in K α =
    within limit_range α && (le_z (pos 0) K && (le_z K (pos allowance_range) && within limit_range (K +ℤ α)))

-- the limit that is handed out: that of the constraint which the sums give with the allowance K
abbrev pub read_limit : ℤ → Constraint → Result ℤ Refusal
read_limit K c = Ok (allowing K c).limit

-- 3, 4, 5 and 16
unfoldable pub checked_reading : ℤ → Constraint → Result ℤ Refusal
checked_reading K c = after Err (first_refusal (sums_checks (limits_in K c.limit) c)) (read_limit K c)

-- 1 and 2 before them, where check 2 finds `sized`
unfoldable pub read_sums : ℤ → Bool → ℤ → Constraint → Result ℤ Refusal
read_sums n sized K c = constraint_entered Err n sized (terms_in (limits_in K c.limit) c) c (read_limit K c)

-- R15.4: the number at the C entry, 0, or the refusal's
abbrev pub reading_code : Result ℤ Refusal → ℤ
reading_code = answer_code (λ _. pos 0)

-- what an answer means of the sums c: a point that they explain up to K is allowed by the constraint with the limit that is handed out
pub record ReadingMeaning (r : Result ℤ Refusal) (K : ℤ) (c : Constraint) : Type 0 where
  pub allows : (α : ℤ) → r ≡ Ok α → (u v : ℤ) → pos 1 ≤ℤ v → u ≤ℤ (K *ℤ v) →
      (X : ℕ → ℤ) (p : ℤ) → pos 1 ≤ℤ p →
      Explained c u v X p → Allowed (record { order = c.order; low = c.low; high = c.high; linear = c.linear; limit = α }) X p
