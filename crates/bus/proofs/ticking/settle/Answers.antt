use Rattle.bus.specs.Running.{settled}
use Rattle.bus.proofs.ticking.settle.Goals as goal

pub returns : goal.returns
unfolding settled
returns c = rw (c.settle.ensures, c.blank.ensures)
