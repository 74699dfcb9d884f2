use borrow.Author.Tests.{eq-eqb, ne_eqb}
use Rattle.bus.specs.Bus.{reset_bus, commanded}
use Rattle.bus.proofs.acts.obey.Goals as goal

pub returns-then-command-eq-START : goal.returns-then-command-eq-START
unfolding reset_bus commanded
returns-then-command-eq-START c = rw (commanded, eq-eqb _ _ c.if-command-eq-START.true) c.start.ensures

pub returns-then-command-eq-RESET : goal.returns-then-command-eq-RESET
unfolding reset_bus commanded
returns-then-command-eq-RESET c =
    rw (commanded, ne_eqb _ _ c.if-command-eq-START.false, eq-eqb _ _ c.if-command-eq-RESET.true, c.reset.ensures, c.blank.ensures)

pub returns-else-command-eq-RESET : goal.returns-else-command-eq-RESET
unfolding reset_bus commanded
returns-else-command-eq-RESET c = rw (commanded, ne_eqb _ _ c.if-command-eq-START.false, ne_eqb _ _ c.if-command-eq-RESET.false)
