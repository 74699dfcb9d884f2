use borrow.Author.Tests.{eq-eqb, ne_eqb}
use Rattle.integers.proofs.Machine.{clean}
use Rattle.bus.specs.Bus.{read}
use Rattle.bus.proofs.acts.read.Goals as goal

pub returns-then-block-ne-BLOCK_BYTES : goal.returns-then-block-ne-BLOCK_BYTES
unfolding read
returns-then-block-ne-BLOCK_BYTES c = record { exact = rw (read, ne_eqb _ _ c.if-block-ne-BLOCK_BYTES.true) }

pub returns-then-value-ne1 : goal.returns-then-value-ne1
unfolding read
returns-then-value-ne1 c = record { exact = rw (read, eq-eqb _ _ c.if-block-ne-BLOCK_BYTES.false, ne_eqb _ _ c.if-value-ne1.true) }

pub returns : goal.returns
unfolding read
returns c =
    record {
      exact =
          rw (read, eq-eqb _ _ c.if-block-ne-BLOCK_BYTES.false, eq-eqb _ _ c.if-value-ne1.false, c.read_at.ensures, clean c.ranges.address);
    }
