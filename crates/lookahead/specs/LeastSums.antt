-- The least that the last entries add, over all their choices: where the sum with it is above 0, no choice brings the sum to 0 or less.
use Rattle.std.specs.Prelude.{Bool, ◌&&◌, List, [], ◌∷◌, ◌≡◌, ℕ, zero, suc, ◌+◌, leb, ℤ, pos, ◌+ℤ◌, length}
use Rattle.std.specs.Int.Signed.{lt_z}
use Rattle.integers.specs.Numbers.{Within, min_ℤ}
use Rattle.tables.specs.Matrix.{Matrix}
use Rattle.lookahead.specs.declared.least.Share.{Share}
use Rattle.lookahead.specs.Pairs.{more, open_range, sum_range, PairTables}

-- the least of three
unfoldable pub least_of : ℤ → ℤ → ℤ → ℤ
least_of x y z = min_ℤ (min_ℤ x y) z

-- the least sum with a choice of k entries from entry d on, from the sum s. p and q: what an entry would add if it were 1, and -1. S and
-- O: what entry d, once chosen, adds to what a later one would add, with the same sign and with the other one
unfoldable pub least : Matrix → Matrix → ℕ → ℕ → (ℕ → ℤ) → (ℕ → ℤ) → ℤ → ℤ
least S O d zero p q s = s
least S O d (suc k) p q s =
    least_of (least S O (suc d) k p q s)
    (p d +ℤ least S O (suc d) k (more S d p) (more O d q) s)
    (q d +ℤ least S O (suc d) k (more O d p) (more S d q) s)

-- where this many entries are left, or fewer, they are looked at together
abbrev pub look_ahead : ℕ
look_ahead = 4

-- k entries are left, from entry d on, no more than that, and no choice of them brings the sum s to 0 or less
unfoldable pub passed_over : Matrix → Matrix → ℕ → ℕ → (ℕ → ℤ) → (ℕ → ℤ) → ℤ → Bool
passed_over S O d k p q s = leb k look_ahead && lt_z (pos 0) (least S O d k p q s)

-- ---- the same as the code has it: from a list of what each entry would add
-- an entry, and the least sum with those after it where it is 0, 1 and -1
unfoldable pub least_choice : Share → ℤ → ℤ → ℤ → ℤ
least_choice a x y z = least_of x (a.plus +ℤ y) (a.minus +ℤ z)

-- what entry k would add
abbrev pub share_at : (ℕ → ℤ) → (ℕ → ℤ) → ℕ → Share
share_at p q k = record { plus = p k; minus = q k }

-- the last entry's share has the sum in it
unfoldable pub raised : ℤ → Share → Share
raised s a = record { plus = a.plus +ℤ s; minus = a.minus +ℤ s }

-- what entry d and the k entries after it would add
abbrev pub shares_from : (ℕ → ℤ) → (ℕ → ℤ) → ℤ → ℕ → ℕ → List Share
shares_from p q s d zero = raised s (share_at p q d) ∷ []
shares_from p q s d (suc k) = share_at p q d ∷ shares_from p q s (suc d) k

unfoldable pub least_one : ℤ → Share → ℤ
least_one s a = least_of s a.plus a.minus

-- what entry i would add after entry d, which is 1; and after one that is -1, with S and O exchanged
unfoldable pub share_after : Matrix → Matrix → ℕ → ℕ → Share → Share
share_after S O d i a = record { plus = a.plus +ℤ S d i; minus = a.minus +ℤ O d i }

-- the same of the entries from i on
unfoldable pub shares_after : Matrix → Matrix → ℕ → ℕ → List Share → List Share
shares_after S O d i [] = []
shares_after S O d i (a ∷ l) = share_after S O d i a ∷ shares_after S O d (suc i) l

-- the first entry of the list is entry d, and k come after it
unfoldable pub least_shares : Matrix → Matrix → ℤ → ℕ → ℕ → List Share → ℤ
least_shares S O s d zero [] = s
least_shares S O s d zero (a ∷ l) = least_one s a
least_shares S O s d (suc k) [] = s
least_shares S O s d (suc k) (a ∷ l) =
    least_choice a (least_shares S O s (suc d) k l)
    (least_shares S O s (suc d) k (shares_after S O d (suc d) l))
    (least_shares S O s (suc d) k (shares_after O S d (suc d) l))

-- both numbers of a share are within ±m
pub record ShareWithin (m : ℕ) (a : Share) : Type 0 where
  pub plus : Within m a.plus
  pub minus : Within m a.minus

abbrev pub AllWithin : ℕ → List Share → Type 0
AllWithin m [] = Unit {0}
AllWithin m (a ∷ l) = ShareWithin m a × AllWithin m l

-- the shares of the last entries, from entry d on, the sum s in that of the last one
pub record LastShares (n : ℕ) (t : List ℤ) (s : ℤ) (d : ℕ) (l : List Share) : Type 0 where
  pub pairs : PairTables n t
  pub inside : d + length l ≡ n
  pub sum : Within sum_range s
  pub small : AllWithin (sum_range + open_range d) l
