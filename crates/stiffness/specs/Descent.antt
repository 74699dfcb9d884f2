-- How the code finds the least bound: it narrows the numbers between one that no tried vector is under and one that some vector is under.
use Rattle.std.specs.Prelude.{◌≡◌, List, ℕ, ◌≤◌, ◌<◌, ℤ, pos, neg_ℤ, ◌+ℤ◌, ◌≤ℤ◌, ◌<ℤ◌, length}
use Rattle.std.proofs.Math.Option.{none, some}
use Rattle.integers.specs.Numbers.{Within}
use Rattle.tables.specs.Ranges.{greatest_order}
use Rattle.tables.specs.Matrix.{Matrix, nth, tabulate}
use Rattle.lookahead.specs.Pairs.{under_range}
use Rattle.stiffness.specs.Bracket.{Bracketing, between, at_most, least_bound, first_under}
use Rattle.stiffness.specs.declared.bracket.Stiffness.{Stiffness}

-- a vector whose entries are 0, 1 and -1
pub record TriedEntries (n : ℕ) (x : List ℤ) : Type 0 where
  pub room : n ≤ length x
  pub small : (i : ℕ) → i < n → Within 1 (nth x i)

-- w lies between two numbers
pub record Inside (a b w : ℤ) : Type 0 where
  pub low : a <ℤ w
  pub high : w <ℤ b

-- so far: no tried vector is under `below`, and x holds the first that is under v, or v is one above L(1,1), where the search starts
pub record Narrowed (n : ℕ) (L U : Matrix) (below v : ℤ) (x : List ℤ) : Type 0 where
  pub low : neg_ℤ (pos under_range) ≤ℤ below
  pub high : v ≤ℤ (L 0 0 +ℤ pos 1)
  pub apart : below <ℤ v
  pub nothing : first_under n L U below ≡ none
  pub vector : v ≤ℤ L 0 0 → first_under n L U v ≡ some (tabulate n (nth x))
  pub size : length x ≡ greatest_order

-- v is the least bound, and x holds the first tried vector that is under it
pub record Least (n : ℕ) (L U : Matrix) (v : ℤ) (x : List ℤ) : Type 0 where
  pub bound : v ≡ least_bound n L U
  pub vector : first_under n L U v ≡ some (tabulate n (nth x))
  pub size : length x ≡ greatest_order

-- ---- what the code states of a bracket, with the vector in x
unfoldable pub stated : ℕ → Stiffness → List ℤ → Bracketing
stated n (Stiffness.Between t v) x = between t v (tabulate n (nth x))
stated n (Stiffness.AtMost v) x = at_most v (tabulate n (nth x))

pub record Stated (g : Bracketing) (n : ℕ) (r : Stiffness) (x : List ℤ) : Type 0 where
  pub stiffness : g ≡ stated n r x
  pub size : length x ≡ greatest_order
