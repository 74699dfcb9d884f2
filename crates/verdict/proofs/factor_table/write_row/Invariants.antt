-- The loop's invariant: the entries of row i before j are written, after the rows before it.
use Prim.Native.Nat.{◌+◌, ◌*◌}
use Rattle.cholesky.specs.Store.{triangle}
use Rattle.verdict.specs.FactorTable.{Written}
use Rattle.verdict.proofs.factor_table.write_row.Given as goal

abbrev pub invariant-loop-j : goal.invariant-loop-j
invariant-loop-j l = Written l.n (triangle l.t) l.factor (l.i * l.n + l.j)
