use borrow.Author.Tests.{eq-eqb, ne_eqb}
use Rattle.tables.specs.Checks.{sizes_ok}
use Rattle.tables.proofs.sizes_ok.Goals as goal

pub returns-then-high-table : goal.returns-then-high-table
unfolding sizes_ok
returns-then-high-table c = rw (eq-eqb _ _ c.if-low-table.true, eq-eqb _ _ c.if-high-table.true)

pub returns-else-high-table : goal.returns-else-high-table
unfolding sizes_ok
returns-else-high-table c = rw (eq-eqb _ _ c.if-low-table.true, ne_eqb _ _ c.if-high-table.false)

pub returns-else-low-table : goal.returns-else-low-table
unfolding sizes_ok
returns-else-low-table c = rw (ne_eqb _ _ c.if-low-table.false)
