-- What the search for the first tried vector goes by: the sum so far, what each open entry would add to it, and what pairs of entries
-- add; and how large these are, so that every sum fits 64 bits.
use Rattle.std.specs.Prelude.{List, ◌≡◌, ℕ, ◌+◌, ◌*◌, ◌-◌, ◌≤◌, ◌<◌, ℤ, ◌+ℤ◌, length, drop}
use Rattle.integers.specs.Numbers.{Within}
use Rattle.tables.specs.Ranges.{greatest_order, table_room, entry_range}
use Rattle.tables.specs.Matrix.{Matrix, at, nth}

-- two tables of order n, one after the other: what a pair of entries adds where both have the same sign, and where they have not
abbrev pub same_sign : ℕ → List ℤ → Matrix
same_sign n t = at n t

abbrev pub pairs_room : ℕ
pairs_room = 2 * table_room

abbrev pub other_sign : ℕ → List ℤ → Matrix
other_sign n t = at n (drop table_room t)

-- what the open entries would add, once entry d is chosen: a row of a table more
abbrev pub more : Matrix → ℕ → (ℕ → ℤ) → ℕ → ℤ
more T d p k = p k +ℤ T d k

-- a pair of entries adds at most twice an entry of L or U
abbrev pub pair_range : ℕ
pair_range = 2 * entry_range

-- the numbers that vectors are asked to be under (R26.1): no vector is under the least of them
abbrev pub under_range : ℕ
under_range = greatest_order * entry_range + 1

-- such a number is taken off each diagonal entry
abbrev pub diagonal_range : ℕ
diagonal_range = entry_range + under_range

-- an open entry would add, after d entries, its diagonal entry, and what it adds with each of them
abbrev pub open_range : ℕ → ℕ
open_range d = diagonal_range + d * pair_range

-- what an entry adds, and what all add, whatever is chosen
abbrev pub share_range : ℕ
share_range = open_range greatest_order

abbrev pub sum_range : ℕ
sum_range = greatest_order * share_range

-- a share that has the sum in it, and what the last entries bring the sum to
abbrev pub raised_range : ℕ
raised_range = sum_range + share_range

abbrev pub least_range : ℕ
least_range = (greatest_order + 1) * raised_range

-- the two tables, in room for the greatest order. Rows are added whole, so what stands behind a table is small too
pub record PairTables (n : ℕ) (t : List ℤ) : Type 0 where
  pub order : n ≤ greatest_order
  pub size : length t ≡ pairs_room
  pub small : (k : ℕ) → k < pairs_room → Within pair_range (nth t k)

-- what an open entry would add, after d entries
pub record Open (d : ℕ) (p : List ℤ) : Type 0 where
  pub size : length p ≡ greatest_order
  pub small : (k : ℕ) → k < greatest_order → Within (open_range d) (nth p k)

-- the same if it is 1, p, and if it is -1, q; and the tables
pub record OpenShares (n : ℕ) (t : List ℤ) (d : ℕ) (p q : List ℤ) : Type 0 where
  pub pairs : PairTables n t
  pub plus : Open d p
  pub minus : Open d q

-- the last entries, `left` of them, are to be chosen, and s is the sum of those before them
pub record Searching (n : ℕ) (t : List ℤ) (left : ℕ) (s : ℤ) (p q : List ℤ) : Type 0 where
  pub shares : OpenShares n t (n - left) p q
  pub inside : left ≤ n
  pub sum : Within ((n - left) * share_range) s
