use mathlib.Core.Path.{refl}
use Rattle.cholesky.specs.Scale.{take_off}
use Rattle.cholesky.proofs.scaling.diagonal_allowance.Goals as goal

pub returns : goal.returns
unfolding take_off
returns c = refl
