use mathlib.Core.Path.{ap, ◌∙◌}
use Rattle.bus.specs.Registers.{busy, raised, started_block}
use Rattle.bus.proofs.registers.start.Goals as goal

pub returns : goal.returns
unfolding started_block
returns c = c.raise.ensures ∙ ap (raised busy) c.clear.ensures
