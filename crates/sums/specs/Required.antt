-- What the code asks of sums at the front of lists, and what it states of them.
use Rattle.std.specs.Prelude.{◌≡◌, true, List, ℕ, ◌*◌, ◌≤◌, ◌<◌, ℤ, length, Ok, Err}
use Rattle.integers.specs.Numbers.{Within}
use Rattle.tables.specs.Matrix.{nth, tabulate}
use Rattle.tables.specs.Checks.{Checked}
use Rattle.tables.specs.Problem.{constraint_of}
use Rattle.tables.specs.declared.Refusal.{Refusal}
use Rattle.tables.specs.declared.problem.Constraint.{Constraint}
use Rattle.sums.specs.Sums.{Outcome, sums_within}
use Rattle.sums.specs.Halving.{added_in}

-- the first m numbers of x
abbrev pub front : ℕ → List ℤ → List ℤ
front m x = tabulate m (nth x)

-- sums of order n at the front of lists
abbrev pub sums_at : ℕ → List ℤ → List ℤ → List ℤ → List ℤ → ℤ → Constraint
sums_at n l u a b α = constraint_of n (front (n * n) l) (front (n * n) u) (front n a) (front n b) α

-- lists that have room for them
pub record Rooms (n : ℕ) (l u a b : List ℤ) : Type 0 where
  pub low : n * n ≤ length l
  pub high : n * n ≤ length u
  pub linear_low : n ≤ length a
  pub linear_high : n ≤ length b

-- sums in their ranges, at the front of lists with room for them
pub record Ranged (n : ℕ) (l u a b : List ℤ) (α : ℤ) : Type 0 where
  pub rooms : Rooms n l u a b
  pub within : sums_within (sums_at n l u a b α) ≡ true

-- the first m numbers of a list are within ±b
pub record FrontWithin (m b : ℕ) (x : List ℤ) : Type 0 where
  pub room : m ≤ length x
  pub small : (k : ℕ) → k < m → Within b (nth x k)

-- ---- what the code states: its answer, and the sums at the front of their lists
unfoldable pub stated : ℕ → Checked → List ℤ → List ℤ → List ℤ → List ℤ → ℤ → Outcome
stated n (Ok _) l u a b α = Ok (sums_at n l u a b α)
stated n (Err r) l u a b α = Err r

pub record Stated (n : ℕ) (o : Outcome) (r : Checked) (l u a b : List ℤ) (α : ℤ) : Type 0 where
  pub outcome : o ≡ stated n r l u a b α
  pub rooms : Rooms n l u a b

-- the sums c stand at the front of lists, with α for the running limit
pub record Sums (c : Constraint) (n : ℕ) (l u a b : List ℤ) (α : ℤ) : Type 0 where
  pub sums : sums_at n l u a b α ≡ c
  pub rooms : Rooms n l u a b

-- sums c with g added, where each is in its range then; or the sums as they were
pub record Tried (n : ℕ) (g c : Constraint) (r : Checked) (l u a b : List ℤ) (α : ℤ) : Type 0 where
  pub answered : Stated n (added_in g c) r l u a b α
  pub kept : (k : Refusal) → r ≡ Err k → Sums c n l u a b α
