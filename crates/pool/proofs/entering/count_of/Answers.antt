use Prim.Native.Nat.{ℕ, ◌/◌, ◌≤◌, ◌<◌}
use native.Mathlib.Omega.{arith}
use borrow.Author.Tests.{le-leb, lt-leb, eq-eqb, ne_eqb}
use Rattle.pool.specs.Pool.{greatest_pool, count_of}
use Rattle.pool.proofs.Counting.{counted-none, counted-some}
use Rattle.pool.proofs.entering.count_of.Goals as goal
use Rattle.pool.proofs.entering.count_of.Goals.{then-count-lt1-via-then-count-lt1, then-count-lt1-via-else-count-lt1+then-count-gt-GREATEST_POOL}

few : (unit length : ℕ) → length / unit < 1 → length / unit ≤ greatest_pool
few unit length h = omega (arith, h)

pub returns-then-length-unit-ne0 : goal.returns-then-length-unit-ne0
unfolding count_of
returns-then-length-unit-ne0 c = rw (count_of, ne_eqb _ _ c.if-length-unit-ne0.true)

pub returns-then-count-lt1 : goal.returns-then-count-lt1
unfolding count_of
returns-then-count-lt1 c =
    elim c.then-count-lt1.branch [
      | then-count-lt1-via-then-count-lt1 w ↦ rw (
        count_of,
        eq-eqb _ _ c.if-length-unit-ne0.false,
        le-leb _ greatest_pool (few c.args.unit c.args.length w.if-count-lt1.true),
      ) (counted-none w.if-count-lt1.true)
      | then-count-lt1-via-else-count-lt1+then-count-gt-GREATEST_POOL w ↦ rw
          (count_of, eq-eqb _ _ c.if-length-unit-ne0.false, lt-leb _ greatest_pool w.if-count-gt-GREATEST_POOL.true)
    ]

pub returns : goal.returns
unfolding count_of
returns c = rw (count_of, eq-eqb _ _ c.if-length-unit-ne0.false, le-leb _ greatest_pool c.if-count-gt-GREATEST_POOL.false)
    (counted-some c.if-count-lt1.false)
