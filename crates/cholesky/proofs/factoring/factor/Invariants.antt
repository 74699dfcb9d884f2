-- The loop's invariant: the rows before row i were worked out in the columns before `end`, and column `end` stopped after `rows` of them.
use Prim.Native.Nat.{◌≤◌, ◌<◌}
use Rattle.cholesky.specs.Store.{upper}
use Rattle.cholesky.proofs.Walked.{Rows, Stop}
use Rattle.cholesky.proofs.factoring.factor.Given as goal

abbrev pub invariant-loop-i : goal.invariant-loop-i
invariant-loop-i l = (l.i ≤ l.end) × (l.end ≤ l.n) × (l.rows ≤ l.i) × Rows (upper l.initial.s) l.s l.i l.end × (l.end < l.n → Stop (upper l.initial.s) l.s l.end l.rows)
