use Rattle.std.proofs.Common.{rules}
use Rattle.bus.specs.Registers.{writable}
use Rattle.bus.proofs.Tables.{entry}
use Rattle.bus.proofs.registers.writable.Goals as goal

pub returns : goal.returns
unfolding writable
returns c = search (rules, entry writable)
