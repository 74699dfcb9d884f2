use borrow.Author.Tests.{eq-eqb, ne_eqb}
use Rattle.bus.specs.Bus.{written_at}
use Rattle.bus.proofs.acts.write_at.Goals as goal

pub returns-then-k-eq-COMMAND : goal.returns-then-k-eq-COMMAND
unfolding written_at
returns-then-k-eq-COMMAND c =
    rw (written_at, eq-eqb _ _ c.if-k-eq-COMMAND.true, ← c.writable.ensures) c.obey.ensures

pub returns : goal.returns
unfolding written_at
returns c = rw (written_at, ne_eqb _ _ c.if-k-eq-COMMAND.false, c.put.ensures)
