use mathlib.Core.Path.{refl}
use Rattle.bus.specs.Registers.{is_busy}
use Rattle.bus.proofs.registers.is_busy.Goals as goal

pub returns : goal.returns
unfolding is_busy
returns c = refl
