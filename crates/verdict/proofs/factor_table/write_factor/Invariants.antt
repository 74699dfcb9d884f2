-- The loop's invariant: the rows before i are written.
use Prim.Native.Nat.{◌*◌}
use Rattle.cholesky.specs.Store.{triangle}
use Rattle.verdict.specs.FactorTable.{Written}
use Rattle.verdict.proofs.factor_table.write_factor.Given as goal

abbrev pub invariant-loop-i : goal.invariant-loop-i
invariant-loop-i l = Written l.n (triangle l.t) l.factor (l.i * l.n)
