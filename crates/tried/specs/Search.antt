-- The search through the tried vectors that the code makes: by recursion over the remaining order, with the sum so far and, for each
-- entry that is still open, what it would add if it were 1 and if it were -1.
use Rattle.std.specs.Prelude.{Bool, true, false, List, [], ◌∷◌, ◌≡◌, ℕ, zero, suc, ◌+◌, ◌<◌, ℤ, pos, negsuc, ◌+ℤ◌, ◌-ℤ◌, ◌*ℤ◌, length, drop}
use Rattle.std.proofs.Math.Option.{Option, none, some}
use Rattle.std.specs.Int.Signed.{lt_z, le_z}
use Rattle.tables.specs.Ranges.{greatest_order, table_room}
use Rattle.tables.specs.Matrix.{Matrix, at, nth, tabulate}
use Rattle.lookahead.specs.Pairs.{same_sign, other_sign, more, PairTables, Open}

-- the vector that was found, with an entry put in front
unfoldable pub front : ℤ → Option (List ℤ) → Option (List ℤ)
front a none = none
front a (some x) = some (a ∷ x)

unfoldable pub or_else : Option (List ℤ) → Option (List ℤ) → Option (List ℤ)
or_else none b = b
or_else (some x) b = some x

-- no entry is left to choose: the sum is 0 or less, or not
unfoldable pub reached : ℤ → Option (List ℤ)
reached s = elim (le_z s (pos 0)) [ true ↦ some [] | false ↦ none ]

-- the first choice of k entries from entry d on with which the sum s becomes 0 or less; p and q: what an entry would add if it were 1,
-- and -1; S and O: what it adds to what a later one would add, with the same sign and with the other one
unfoldable pub seek : Matrix → Matrix → ℕ → ℕ → (ℕ → ℤ) → (ℕ → ℤ) → ℤ → Option (List ℤ)
seek S O d zero p q s = reached s
seek S O d (suc k) p q s =
    or_else (front (pos 0) (seek S O (suc d) k p q s))
    (or_else (front (pos 1) (seek S O (suc d) k (more S d p) (more O d q) (s +ℤ p d)))
    (front (negsuc 0) (seek S O (suc d) k (more O d p) (more S d q) (s +ℤ q d))))

-- one of three by an entry's sign: x for 0, y for 1, z for -1
unfoldable pub by_sign : {A : Type 0} → ℤ → A → A → A → A
by_sign e x y z = elim (lt_z (pos 0) e) [ true ↦ y | false ↦ elim (lt_z e (pos 0)) [ true ↦ z | false ↦ x ] ]

-- what the open entries would add once entry d is e: S is for 1, O for -1
unfoldable pub after : Matrix → Matrix → ℕ → ℤ → (ℕ → ℤ) → ℕ → ℤ
after S O d e p = by_sign e p (more S d p) (more O d p)

-- the first choice of the k entries after entry d, which is e; s is the sum with it
abbrev pub seek_after : Matrix → Matrix → ℕ → ℕ → ℤ → (ℕ → ℤ) → (ℕ → ℤ) → ℤ → Option (List ℤ)
seek_after S O d k e p q s = seek S O (suc d) k (after S O d e p) (after O S d e q) s

-- the same with e in front; `seek` takes the first of these for 0, 1 and -1
unfoldable pub in_front : Matrix → Matrix → ℕ → ℕ → ℤ → (ℕ → ℤ) → (ℕ → ℤ) → ℤ → Option (List ℤ)
in_front S O d k e p q s = front e (seek_after S O d k e p q (by_sign e s (s +ℤ p d) (s +ℤ q d)))

-- `seek` where all entries before d are 0: the zero vector is skipped, and so is x where -x stood earlier: its first entry that is not 0
-- is -1
unfoldable pub seek_half : Matrix → Matrix → ℕ → ℕ → (ℕ → ℤ) → Option (List ℤ)
seek_half S O d zero p = none
seek_half S O d (suc k) p =
    or_else (front (pos 0) (seek_half S O (suc d) k p)) (front (pos 1) (seek S O (suc d) k (more S d p) (more O d p) (pos 0 +ℤ p d)))

-- what the code answers: the entries of x from d on, or that there are none
unfoldable pub found : Bool → ℕ → ℕ → List ℤ → Option (List ℤ)
found r d k x = elim r [ true ↦ some (tabulate k (λ i. nth x (d + i))) | false ↦ none ]

-- the search's answer o is the code's, r, and x holds the k entries from d on that it found
pub record Searched (o : Option (List ℤ)) (r : Bool) (d k : ℕ) (x : List ℤ) : Type 0 where
  pub answer : o ≡ found r d k x
  pub size : length x ≡ greatest_order

-- ---- what the code asks of its numbers, and how it makes them
-- the first entries, to m, of the two tables that the search reads: 2 L and -2 U
pub record FilledPairs (n : ℕ) (l u t : List ℤ) (m : ℕ) : Type 0 where
  pub tables : PairTables n t
  pub same : (k : ℕ) → k < m → nth t k ≡ pos 2 *ℤ nth l k
  pub other : (k : ℕ) → k < m → nth (drop table_room t) k ≡ negsuc 1 *ℤ nth u k

-- the first entries, to m, of what the open entries would add: with row d more of the table from f on
pub record Added (n : ℕ) (t : List ℤ) (f d : ℕ) (p p' : List ℤ) (m : ℕ) : Type 0 where
  pub size : length p' ≡ greatest_order
  pub entries : (k : ℕ) → k < m → nth p' k ≡ nth p k +ℤ at n (drop f t) d k

-- entry d is e, and not 0: what the entries would then add if they were 1, p', and if they were -1, q'
pub record Chosen (n : ℕ) (t : List ℤ) (d : ℕ) (e : ℤ) (p q p' q' : List ℤ) : Type 0 where
  pub plus : Open (suc d) p'
  pub minus : Open (suc d) q'
  pub plus_is : (k : ℕ) → k < n → nth p' k ≡ after (same_sign n t) (other_sign n t) d e (nth p) k
  pub minus_is : (k : ℕ) → k < n → nth q' k ≡ after (other_sign n t) (same_sign n t) d e (nth q) k

-- the first entries, to m, of what an entry adds by itself, with w taken off
pub record Diagonal (n : ℕ) (t : List ℤ) (w : ℤ) (p : List ℤ) (m : ℕ) : Type 0 where
  pub start : Open 0 p
  pub entries : (k : ℕ) → k < m → nth p k ≡ at n t k k -ℤ w
