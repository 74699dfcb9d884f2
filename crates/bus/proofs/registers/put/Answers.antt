use native.Mathlib.Omega.{arith}
use borrow.Author.Tests.{eq-eqb, ne_eqb}
use lib.Bits.{and_le_l}
use Rattle.bus.specs.Registers.{flags, put}
use Rattle.bus.proofs.registers.put.Goals as goal

pub overflow_sub-result : goal.overflow_sub-result
unfolding put
overflow_sub-result c = omega (arith, and_le_l c.args.v c.writable-bits.result, c.ranges.v)

pub returns-then-k-eq-FLAGS : goal.returns-then-k-eq-FLAGS
unfolding put
returns-then-k-eq-FLAGS c = let a = c.args in rw (eq-eqb a.k flags c.if-k-eq-FLAGS.true, put, c.writable-bits.ensures)

pub returns : goal.returns
unfolding put
returns c = let a = c.args in rw (ne_eqb a.k flags c.if-k-eq-FLAGS.false, put, c.writable-bits.ensures)
