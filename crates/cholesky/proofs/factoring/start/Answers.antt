use mathlib.Core.Logic.{by_cases}
use native.Mathlib.Omega.{arith}
use native.Mathlib.Decide.{ℕ_discrete}
use lib.IntN.{ℤ, pos}
use lib.Signed.{◌≤ℤ◌}
use Rattle.tables.proofs.Checks.{le_of, read_less, read_not_less}
use Rattle.cholesky.specs.Store.{upper}
use Rattle.cholesky.proofs.factoring.start.Lts as lts
use Rattle.cholesky.proofs.factoring.start.Reads as reads
use Rattle.cholesky.proofs.factoring.start.Goals as goal

abbrev At-loop : Type 0
At-loop = lts.At-loop reads.Pre reads.Post goal.the-invariant-loop-j goal.the-decreases-loop-j

abbrev Else1 : Type 0
Else1 = lts.Else1 reads.Pre reads.Post goal.the-invariant-loop-j goal.the-decreases-loop-j

-- diagonal entry j
abbrev diagonal : At-loop → ℤ
diagonal c = upper c.args.s.now c.loop-j.j c.loop-j.j

some : (c : Else1) → pos 1 ≤ℤ diagonal c.before.before.before
unfolding upper
some c = le_of (pos 1) _ (read_not_less (diagonal c.before.before.before) (pos 1) c.t10-1.given (omega arith) c.if-s-j-lt1.false)

pub returns-then-s-j-lt1 : goal.returns-then-s-j-lt1
unfolding upper
returns-then-s-j-lt1 c = (
  c.loop-j-test.true,
  record { bound = omega arith; some = c.loop-j.invariant; none = λ h. read_less (diagonal c.before.before.before) (pos 1) c.t10-1.given (omega arith) c.if-s-j-lt1.true },
)

pub loop-j-preserved : goal.loop-j-preserved
unfolding upper
loop-j-preserved c =
    let p = c.loop-j in
    λ l h. by_cases (ℕ_discrete l p.j) (λ q. rw q (some c)) (λ q. p.invariant l (omega arith))
