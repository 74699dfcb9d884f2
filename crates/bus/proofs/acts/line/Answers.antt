use borrow.Author.Tests.{eq-eqb, ne_eqb}
use Rattle.bus.specs.Bus.{line}
use Rattle.bus.proofs.acts.line.Goals as goal

pub returns-then-block-ne-BLOCK_BYTES : goal.returns-then-block-ne-BLOCK_BYTES
unfolding line
returns-then-block-ne-BLOCK_BYTES c = record { exact = rw (line, ne_eqb _ _ c.if-block-ne-BLOCK_BYTES.true) }

pub returns-then-is_raised : goal.returns-then-is_raised
unfolding line
returns-then-is_raised c =
    record { exact = rw (line, eq-eqb _ _ c.if-block-ne-BLOCK_BYTES.false, ← c.is_raised.ensures, c.if-is_raised.true) }

pub returns : goal.returns
unfolding line
returns c = record { exact = rw (line, eq-eqb _ _ c.if-block-ne-BLOCK_BYTES.false, ← c.is_raised.ensures, c.if-is_raised.false) }
