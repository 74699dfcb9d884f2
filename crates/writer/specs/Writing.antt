-- The writer's act, R24 of docs/RULES.md: what it answers, what it writes, and what its answer means.
use Rattle.std.specs.Prelude.{◌≡◌, Bool, ◌&&◌, List, ℕ, ◌*◌, eqb, ℤ, length, Ok, Err}
use Rattle.tables.specs.Checks.{Checked, order_of, first_refusal}
use Rattle.tables.specs.Answers.{after}
use Rattle.tables.specs.Problem.{problem_of, lengths_of, constraint_sized, problem_within, problem_checks, constraint_entered}
use Rattle.tables.specs.Problem.{mended_problem}
use Rattle.tables.specs.declared.Refusal.{Refusal}
use Rattle.tables.specs.declared.problem.Problem.{Problem}
use Rattle.tables.specs.declared.problem.Sizes.{Sizes}
use Rattle.tables.specs.declared.problem.Lengths.{Lengths}
use Rattle.summary.specs.Problems.{file_size, file_of, padded, reading, SymmetricTables}

-- ---- the answer, and the buffer as it is left
pub record Written : Type 0 where
  pub answer : Checked
  pub file : List ℕ

-- D1.3: a refusal keeps the buffer s
abbrev pub kept : List ℕ → Refusal → Written
kept s r = record { answer = Err r; file = s }

-- R24.1: the file of a problem, with its tables mended (R2.10)
abbrev pub written : Problem → Written
written p = record { answer = Ok tt; file = file_of (mended_problem p) }

-- 3, 4, 5 and 16 of a problem, and the file of the mended one
unfoldable pub checked_writing : Problem → List ℕ → Written
checked_writing p s = after (kept s) (first_refusal (problem_checks p)) (written p)

-- R24.4: checks 1 to 5 and 16, where check 2 finds `sized`, and the file of the mended problem, of a problem whose order is that of n
unfoldable pub writing : ℤ → Bool → Problem → List ℕ → Written
writing n sized p s = constraint_entered (kept s) n sized (problem_within p) p.constraint (written p)

-- 2, R4.2: each lent buffer has the size that belongs to n: the constraint's, the centre's of a vector, and that of the file
unfoldable pub write_sizes : ℕ → Sizes → Lengths → ℕ → ℕ → Bool
write_sizes n z lengths c s = constraint_sized z lengths && (eqb c z.vector && eqb s (file_size n))

-- the writer, of the numbers that buffers of any length hold, and a file's buffer that holds anything: so many numbers take `taken`
-- elements, and `numbers` are those of a buffer
unfoldable pub write_act : {A : Type 0} → (ℕ → ℕ) → (List A → ℕ → List ℤ) → ℤ →
    List A → List A → List A → List A → ℤ → List A → List ℕ → Written
write_act taken numbers n l u a b α c s =
    let k : ℕ = order_of n in
    let z : Sizes = record { table = taken (k * k); vector = taken k } in
    let lengths : Lengths = lengths_of (length l) (length u) (length a) (length b) in
    writing n (write_sizes k z lengths (length c) (length s))
    (problem_of k (numbers l (k * k)) (numbers u (k * k)) (numbers a k) (numbers b k) α (numbers c k))
    s

-- of numbers themselves
unfoldable pub write : ℤ → List ℤ → List ℤ → List ℤ → List ℤ → ℤ → List ℤ → List ℕ → Written
write n l u a b α c s = write_act (λ k. k) (λ x k. x) n l u a b α c s

-- ---- what an answer means of a problem p; s is the buffer as it is left
pub record Meaning (r : Checked) (p : Problem) (s : List ℕ) : Type 0 where
  -- R24.2: the file is read as the mended problem
  pub back : r ≡ Ok tt → reading s ≡ Ok (padded (mended_problem p))
  -- R24.3: where the tables handed in are symmetric it is the file of the problem as it was handed in
  pub file : r ≡ Ok tt → SymmetricTables p → s ≡ file_of p
