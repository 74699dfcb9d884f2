-- How the code of a pool answers the count of problems, and what it asks of its lists and of the sums.
use Rattle.std.specs.Prelude.{◌≡◌, List, ℕ, zero, suc, ◌+◌, ◌*◌, ◌≤◌, ℤ, length, Option, None, Some, Ok, Err}
use Rattle.tables.specs.declared.Refusal.{Refusal}
use Rattle.sums.specs.Lent.{Lent}
use Rattle.sums.specs.Required.{Ranged}
use Rattle.sums.specs.Running.{stated_in}
use Rattle.sums.specs.declared.running.SumsMut.{SumsMut}
use Rattle.tables.specs.Checks.{Checked}
use Rattle.pool.specs.Pool.{Problems}
use Rattle.pool.specs.Passing.{refused_by}

-- a count of problems, and none in place of 0
abbrev pub counted : ℕ → Option ℕ
counted zero = None
counted (suc m) = Some (suc m)

-- lists of m problems of order n, where a number takes `unit`
pub record Sized {A : Type 0} (unit n m : ℕ) (q : Problems (List A)) : Type 0 where
  pub lows : length q.lows ≡ m * (n * n) * unit
  pub highs : length q.highs ≡ m * (n * n) * unit
  pub froms : length q.froms ≡ m * n * unit
  pub tos : length q.tos ≡ m * n * unit
  pub limits : length q.limits ≡ m * unit

-- lists with room for problem k of order n
pub record Reach {A : Type 0} (unit n k : ℕ) (q : Problems (List A)) : Type 0 where
  pub lows : (k * (n * n) + n * n) * unit ≤ length q.lows
  pub highs : (k * (n * n) + n * n) * unit ≤ length q.highs
  pub froms : (k * n + n) * unit ≤ length q.froms
  pub tos : (k * n + n) * unit ≤ length q.tos
  pub limits : (k * 1 + 1) * unit ≤ length q.limits

-- where nothing is refused so far, the sums in these lists are in their ranges
pub record Ready (n : ℕ) (r : Checked) (l u a b : List ℤ) (α : ℤ) : Type 0 where
  pub ranged : r ≡ Ok tt → Ranged n l u a b α

abbrev pub ReadyFor : Checked → SumsMut → Type 0
ReadyFor r s = Ready s.order r s.low.now s.high.now s.from.now s.to.now s.limit

-- where a problem is refused by r after what is held as d, k is the refusal that is held then
pub record Refusing (r : Refusal) (d : Checked) (k : Refusal) : Type 0 where
  pub held : (s : SumsMut) → stated_in (Err k) s ≡ refused_by r (stated_in d s)

-- lent sums of order n, where a number takes `unit`
pub record LentSums {A : Type 0} (unit n : ℕ) (b : Lent (List A)) : Type 0 where
  pub low : length b.low ≡ n * n * unit
  pub high : length b.high ≡ n * n * unit
  pub from : length b.from ≡ n * unit
  pub to : length b.to ≡ n * unit
  pub limit : length b.limit ≡ unit
