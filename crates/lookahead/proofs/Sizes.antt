-- How large the numbers are that the search goes by.
use Prim.Native.Nat.{ℕ, ◌+◌, ◌*◌, ◌-◌, ◌≤◌, ◌<◌}
use mathlib.Core.Path.{◌≡◌, sym, ap, ◌∙◌}
use mathlib.Core.List.{List}
use native.Mathlib.Nat.{mul-le-mul}
use native.Mathlib.Omega.{arith}
use lib.IntN.{ℤ, pos}
use lib.ListN.{drop}
use lib.Seq.{get_or-drop}
use Rattle.integers.specs.Numbers.{Within}
use Rattle.integers.proofs.Machine.{within_more}
use Rattle.tables.specs.Matrix.{at, nth}
use Rattle.tables.specs.Ranges.{greatest_order, table_room}
use Rattle.lookahead.specs.Pairs.{PairTables, Open, Searching, pairs_room, pair_range, share_range, sum_range}

-- row d, and what stands after it
run_inside : {n : ℕ} → n ≤ greatest_order → {d k : ℕ} → d < n → k < greatest_order → d * n + k < table_room
run_inside o {d} h l = let e : d ≤ greatest_order - 1 = omega arith in omega (arith, mul-le-mul e o)

module _ {n : ℕ} {t : List ℤ} (g : PairTables n t) {f d k : ℕ} (b : f ≤ table_room) (h : d < n) (l : k < greatest_order) where
  pub row_inside : f + d * n + k < pairs_room
  row_inside = omega (arith, run_inside g.order h l)

  pub row_at : nth t (f + d * n + k) ≡ at n (drop f t) d k
  unfolding at
  row_at = let e : f + d * n + k ≡ f + (d * n + k) = omega arith in ap (nth t) e ∙ sym (get_or-drop f t (d * n + k) (pos 0))

  pub row_small : Within pair_range (at n (drop f t) d k)
  row_small = rw (← row_at) (g.small _ row_inside)

-- what an open entry would add, and the sum so far
pub open_within : {d : ℕ} {r : List ℤ} → Open d r → d ≤ greatest_order → {k : ℕ} → k < greatest_order → Within share_range (nth r k)
open_within o h l = within_more (omega arith) (o.small _ l)

pub sum-within : {n : ℕ} {t : List ℤ} {left : ℕ} {s : ℤ} {p q : List ℤ} → Searching n t left s p q → Within sum_range s
sum-within g = within_more (omega (arith, g.shares.pairs.order)) g.sum
