use mathlib.Core.Path.{ap}
use Rattle.integers.proofs.Machine.{clean, clean_element}
use Rattle.hankboulder.specs.Entries.{moved_result, bus_write_entry}
use Rattle.hankboulder.proofs.display_bus.hb_bus_write.Goals as goal

pub returns : goal.returns
unfolding bus_write_entry
returns c = record { exact = rw (clean_element c.answer_code.result c.answer_code.type_inv, c.answer_code.ensures) (ap moved_result (rw (clean c.ranges.address) at c.write.ensures.exact)) }
