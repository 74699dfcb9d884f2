use mathlib.Core.Path.{refl}
use Rattle.bus.specs.Registers.{is_raised}
use Rattle.bus.proofs.registers.is_raised.Goals as goal

pub returns : goal.returns
unfolding is_raised
returns c = refl
