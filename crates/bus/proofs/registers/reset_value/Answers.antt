use Rattle.std.proofs.Common.{rules}
use Rattle.bus.specs.Registers.{reset_value}
use Rattle.bus.proofs.Tables.{entry}
use Rattle.bus.proofs.registers.reset_value.Goals as goal

pub returns : goal.returns
unfolding reset_value
returns c = search (rules, entry reset_value)
