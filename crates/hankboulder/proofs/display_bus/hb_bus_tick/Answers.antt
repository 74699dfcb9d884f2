use mathlib.Core.Path.{ap}
use Rattle.integers.proofs.Machine.{clean_element}
use Rattle.hankboulder.specs.Entries.{moved_result, bus_tick_entry}
use Rattle.hankboulder.proofs.display_bus.hb_bus_tick.Goals as goal

pub returns : goal.returns
unfolding bus_tick_entry
returns c = record { exact = rw (clean_element c.answer_code.result c.answer_code.type_inv, c.answer_code.ensures) (ap moved_result c.tick.ensures.exact) }
