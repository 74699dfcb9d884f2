use borrow.Author.Tests.{eq-eqb, ne_eqb}
use Rattle.bus.specs.Bus.{bus_sized}
use Rattle.bus.proofs.acts.bus_sized.Goals as goal

pub returns-then-block-eq-BLOCK_BYTES : goal.returns-then-block-eq-BLOCK_BYTES
unfolding bus_sized
returns-then-block-eq-BLOCK_BYTES c = rw (eq-eqb _ _ c.if-block-eq-BLOCK_BYTES.true)

pub returns-else-block-eq-BLOCK_BYTES : goal.returns-else-block-eq-BLOCK_BYTES
unfolding bus_sized
returns-else-block-eq-BLOCK_BYTES c = rw (ne_eqb _ _ c.if-block-eq-BLOCK_BYTES.false)
