-- R27.5, R27.6 and R15 of docs/RULES.md: the pool's act over the lent sums and lists: what it answers, how it leaves each buffer, and what
-- that means.
use Rattle.std.specs.Prelude.{◌≡◌, Bool, ◌&&◌, List, ℕ, ◌*◌, ◌<◌, eqb, ℤ, pos, ◌≤ℤ◌, length, Ok}
use Rattle.tables.specs.Matrix.{tabulate}
use Rattle.tables.specs.Checks.{Checked, order_of}
use Rattle.tables.specs.Problem.{lengths_of, constraint_sized}
use Rattle.tables.specs.declared.problem.Constraint.{Constraint}
use Rattle.tables.specs.declared.problem.Lengths.{Lengths}
use Rattle.enclosure.specs.Points.{Allowed}
use Rattle.sums.specs.Sums.{Outcome, allowing}
use Rattle.sums.specs.Lent.{Lent, Left, laid_sums, sums_of}
use Rattle.sums.specs.Explaining.{Explained}
use Rattle.pool.specs.Pool.{count_of, Problems, problem_at, problems_of, pooling}

-- 2, R15.3: the five sums, of order n, and the lists of m problems have their sizes, where a number takes `unit`
unfoldable pub pool_sized : ℕ → ℕ → ℕ → Lengths → ℕ → Lengths → ℕ → Bool
pool_sized unit n m sums limit problems limits =
    constraint_sized (record { table = n * n * unit; vector = n * unit }) sums
    && (eqb limit unit
    && (constraint_sized (record { table = m * (n * n) * unit; vector = m * n * unit }) problems && eqb limits (m * unit)))

-- the lengths of lent sums, and of the lists of problems
abbrev pub sums_lengths : {A : Type 0} → Lent (List A) → Lengths
sums_lengths b = lengths_of (length b.low) (length b.high) (length b.from) (length b.to)

abbrev pub problems_lengths : {A : Type 0} → Problems (List A) → Lengths
problems_lengths q = lengths_of (length q.lows) (length q.highs) (length q.froms) (length q.tos)

-- lent sums of order n, as numbers
abbrev pub lent_of : {A : Type 0} → (List A → ℕ → List ℤ) → ℕ → Lent (List A) → Lent (List ℤ)
lent_of numbers n b = record {
  low = numbers b.low (n * n);
  high = numbers b.high (n * n);
  from = numbers b.from n;
  to = numbers b.to n;
  limit = numbers b.limit 1;
}

-- sums of order n, written as elements: or all five buffers are kept
abbrev pub laid_out : {A : Type 0} → (List ℤ → ℕ → List A) → ℕ → Outcome → Lent (List A) → Left (List A)
laid_out elements n = laid_sums (λ t. elements t (n * n)) (λ x. elements x n) (λ α. elements (tabulate 1 (λ i. α)) 1)

-- pooling what lists of any lengths hold: `taken` says how many elements so many numbers take, `numbers` gives the numbers of a list, and
-- `elements` the elements of so many numbers
unfoldable pub pool_act : {A : Type 0} → (ℕ → ℕ) → (List A → ℕ → List ℤ) → (List ℤ → ℕ → List A) → ℤ → List A →
    Problems (List A) → Lent (List A) → Left (List A)
pool_act taken numbers elements n orders q b =
    let k : ℕ = order_of n in
    let m : ℕ = count_of (taken 1) (length orders) in
    laid_out elements k
    (pooling n m (numbers orders m) (pool_sized (taken 1) k m (sums_lengths b) (length b.limit) (problems_lengths q) (length q.limits))
    (sums_of k (lent_of numbers k b))
    (problem_at k (problems_of numbers k m q)))
    b

-- pooling lists of numbers
unfoldable pub pool : ℤ → List ℤ → Problems (List ℤ) → Lent (List ℤ) → Left (List ℤ)
pool n orders q b = pool_act (λ k. k) (λ x k. x) (λ x k. x) n orders q b

-- D3.10: what sums c explain at a point that m problems allow, the sums d explain
abbrev pub Explaining : (ℕ → Constraint) → ℕ → Constraint → Constraint → Type 0
Explaining p m c d =
    (u v : ℤ) → pos 0 ≤ℤ v → (X : ℕ → ℤ) (q : ℤ) → ((k : ℕ) → k < m → Allowed (p k) X q) →
    Explained c u v X q → Explained d u v X q

-- a point that m problems, and sums c read with K, allow, the sums d read with K allow
abbrev pub Allowing : (ℕ → Constraint) → ℕ → Constraint → Constraint → Type 0
Allowing p m c d =
    (K : ℤ) → pos 0 ≤ℤ K → (X : ℕ → ℤ) (q : ℤ) → ((k : ℕ) → k < m → Allowed (p k) X q) →
    Allowed (allowing K c) X q → Allowed (allowing K d) X q

-- what an answer means of the problems, and of the sums c before it and d after it
pub record Meaning (r : Checked) (p : ℕ → Constraint) (m : ℕ) (c d : Constraint) : Type 0 where
  pub explains : r ≡ Ok tt → Explaining p m c d
  pub allows : r ≡ Ok tt → Allowing p m c d
