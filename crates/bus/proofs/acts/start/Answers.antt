use mathlib.Core.Path.{ap}
use Rattle.std.specs.Prelude.{Ok}
use Rattle.bus.specs.Running.{Bus}
use Rattle.bus.specs.Bus.{Moved, start}
use Rattle.bus.proofs.acts.start.Goals as goal

abbrev let_through : Bus → Moved
let_through s = record { answer = Ok tt; bus = s }

pub returns-then-is_busy : goal.returns-then-is_busy
unfolding start
returns-then-is_busy c = rw (start, ← c.is_busy.ensures, c.if-is_busy.true)

pub returns : goal.returns
unfolding start
returns c =
    rw (start, ← c.is_busy.ensures, c.if-is_busy.false) (ap let_through c.start.ensures)
