use mathlib.Core.Path.{refl}
use Rattle.bus.specs.Registers.{cleared}
use Rattle.bus.proofs.registers.clear.Goals as goal

pub returns : goal.returns
unfolding cleared
returns c = refl
