use mathlib.Core.Path.{sym}
use Rattle.pool.proofs.Passing.{earlier-first, earlier-second}
use Rattle.pool.proofs.problems.earlier.Goals as goal

pub returns-then-number : goal.returns-then-number
returns-then-number c = sym (earlier-first _ _ (rw (c.number.ensures, c.number-2.ensures) at c.if-number.true))

pub returns-else-number : goal.returns-else-number
returns-else-number c = sym (earlier-second _ _ (rw (c.number.ensures, c.number-2.ensures) at c.if-number.false))
