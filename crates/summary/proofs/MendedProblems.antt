-- Laws of mended problems, R2.10 of docs/RULES.md, in lists with more numbers than the order calls for: zeros behind the tables play no
-- part, and a problem in arrays that passes the checks is, mended, let through.
use mathlib.Core.Path.{◌≡◌, refl, sym, ap, ap₂, ◌∙◌}
use mathlib.Core.Bool.{true}
use mathlib.Core.List.{List}
use Prim.Native.Nat.{ℕ, ◌+◌, ◌*◌, ◌-◌, ◌≤◌, ◌<◌}
use native.Mathlib.Omega.{arith}
use lib.IntN.{ℤ, pos}
use lib.ListN.{length, take, drop, replicate, length-append}
use lib.Seq.{drop_at, get_or-take, length-take-le}
use Rattle.integers.specs.Numbers.{min_ℤ, max_ℤ}
use Rattle.tables.specs.Ranges.{table_room}
use Rattle.tables.specs.Matrix.{nth, at}
use Rattle.tables.specs.Mending.{mended_by}
use Rattle.tables.specs.Checks.{order_ok, first_refusal}
use Rattle.tables.specs.Problem.{problem_checks, mended_problem}
use Rattle.std.specs.Prelude.{Ok}
use Rattle.tables.specs.declared.problem.Problem.{Problem}
use Rattle.tables.proofs.Matrix.{inside, nth-padded, table_fits}
use Rattle.tables.proofs.MendedTables.{Pairing, greater_pairing, smaller_pairing, at-mended, mended-length, mended_as}
use Rattle.tables.proofs.Problems.{problem-mended, mended-problem_twice}
use Rattle.summary.specs.Problems.{padded_to, padded, ProblemRooms, LetThrough}

-- the numbers of x, k of them, and zeros
pub nth-padded_to : (room k : ℕ) (x : List ℤ) (i : ℕ) → i < k → nth (padded_to room k x) i ≡ nth x i
nth-padded_to room k x i h = ap (λ (f : ℕ → ℤ). f i) (nth-padded (take k x) (room - k)) ∙ get_or-take k x i (pos 0) h

-- ---- a table with zeros behind it, mended by any pairing
module _ (m : ℤ → ℤ → ℤ) (p : Pairing m) (room n : ℕ) (x : List ℤ) (h : n * n ≤ length x) where
  abbrev mended : List ℤ
  mended = mended_by m n x

  behind : (y : List ℤ) → n * n ≤ length y → drop (n * n) (padded_to room (n * n) y) ≡ replicate (room - n * n) (pos 0)
  behind y k = drop_at (take (n * n) y) (replicate (room - n * n) (pos 0)) (n * n) (length-take-le (n * n) y k)

  entry : (y : List ℤ) (i j : ℕ) → i < n → j < n → at n (padded_to room (n * n) y) i j ≡ at n y i j
  unfolding at
  entry y i j k l = nth-padded_to room (n * n) y (i * n + j) (inside k l)

  long : n * n ≤ length mended
  long = omega (arith, mended-length m n x h)

  pub padded-mended : padded_to room (n * n) mended ≡ mended_by m n (padded_to room (n * n) x)
  padded-mended =
      mended_as m n p (padded_to room (n * n) x) (padded_to room (n * n) mended)
      (omega (arith, length-append (take (n * n) mended) (replicate (room - n * n) (pos 0)), length-take-le (n * n) mended long))
      (behind mended long ∙ sym (behind x h))
      (λ i j k l. entry mended i j k l ∙ at-mended m n x i j k l ∙ sym (ap₂ m (entry x i j k l) (entry x j i l k)))

-- ---- a problem: what stands behind its numbers plays no part
pub mended-padded-problem : (p : Problem) → let c = p.constraint in c.order * c.order ≤ length c.low → c.order * c.order ≤ length c.high →
    padded (mended_problem p) ≡ mended_problem (padded p)
mended-padded-problem p h k =
    let c = p.constraint in
    rw (
      padded-mended max_ℤ greater_pairing table_room c.order c.low h,
      padded-mended min_ℤ smaller_pairing table_room c.order c.high k,
    ) refl

-- in arrays of their sizes
module _ (p : Problem) (z : ProblemRooms p) where
  abbrev n : ℕ
  n = p.constraint.order

  pub low-holds : n * n ≤ length p.constraint.low
  low-holds = omega (arith, z.low, table_fits z.order)

  pub high-holds : n * n ≤ length p.constraint.high
  high-holds = omega (arith, z.high, table_fits z.order)

  pub mended_rooms : ProblemRooms (mended_problem p)
  mended_rooms =
      record {
        order = z.order;
        low = mended-length max_ℤ n p.constraint.low low-holds ∙ z.low;
        high = mended-length min_ℤ n p.constraint.high high-holds ∙ z.high;
        linear_low = z.linear_low;
        linear_high = z.linear_high;
        centre = z.centre;
      }

  -- where it passes the checks, it is mended let through
  pub mended-through : order_ok (pos n) ≡ true → first_refusal (problem_checks p) ≡ Ok tt → padded p ≡ p → LetThrough (mended_problem p)
  mended-through o e q =
      record {
        order = o;
        checks = problem-mended p low-holds high-holds e;
        mended = mended-problem_twice p low-holds high-holds;
        rooms = mended_rooms;
        zeros = mended-padded-problem p low-holds high-holds ∙ ap mended_problem q;
      }
