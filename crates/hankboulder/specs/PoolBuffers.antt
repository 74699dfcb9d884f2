-- R15.2, R15.3 and R27.2 of docs/RULES.md: the problems that lists of bytes spell, and what pooling them into the sums that buffers spell
-- gives.
use Rattle.std.specs.Prelude.{Bool, List, ℕ, ◌*◌, ℤ, length}
use Rattle.std.specs.Int.{w64}
use mir.Val.{bytes}
use Rattle.words.specs.Numbers.{numbers_of}
use Rattle.tables.specs.Checks.{order_of}
use Rattle.tables.specs.declared.problem.Constraint.{Constraint}
use Rattle.sums.specs.Sums.{Outcome}
use Rattle.sums.specs.Lent.{Lent}
use Rattle.pool.specs.Pool.{count_of, Problems, problem_at, pooling}
use Rattle.pool.specs.Act.{sums_lengths, problems_lengths, pool_sized}
use Rattle.sums_buffers.specs.SumsBuffers.{spelled_sums}

-- how many problems the list of orders stands for
abbrev pub pool_count : List ℕ → ℕ
pool_count orders = count_of (bytes w64) (length orders)

-- the lists of m problems of order n, as numbers
abbrev pub spelled_lists : ℕ → ℕ → Problems (List ℕ) → Problems (List ℤ)
spelled_lists n m q = record {
  lows = numbers_of w64 q.lows (m * (n * n));
  highs = numbers_of w64 q.highs (m * (n * n));
  froms = numbers_of w64 q.froms (m * n);
  tos = numbers_of w64 q.tos (m * n);
  limits = numbers_of w64 q.limits m;
}

-- problem k of these
abbrev pub spelled_problems : ℕ → ℕ → Problems (List ℕ) → ℕ → Constraint
spelled_problems n m q = problem_at n (spelled_lists n m q)

-- 2, of all buffers but the list of orders
abbrev pub pool_buffers : ℕ → ℕ → Problems (List ℕ) → Lent (List ℕ) → Bool
pool_buffers n m q b =
    pool_sized (bytes w64) n m (sums_lengths b) (length b.limit) (problems_lengths q) (length q.limits)

-- what pooling gives
unfoldable pub spelled_pool : ℤ → List ℕ → Problems (List ℕ) → Lent (List ℕ) → Outcome
spelled_pool n orders q b =
    let k : ℕ = order_of n in
    let m : ℕ = pool_count orders in
    pooling n m (numbers_of w64 orders m) (pool_buffers k m q b) (spelled_sums k b) (spelled_problems k m q)
