use mathlib.Core.Path.{ap, ◌∙◌}
use Rattle.integers.proofs.Machine.{clean_element}
use Rattle.bus.specs.Bus.{line_code}
use Rattle.hankboulder.specs.Entries.{bus_line_entry}
use Rattle.hankboulder.proofs.display_bus.hb_bus_line.Goals as goal

pub returns : goal.returns
unfolding bus_line_entry
returns c = record { exact = rw (clean_element c.answer_code.result c.answer_code.type_inv) (c.answer_code.ensures ∙ ap line_code c.line.ensures.exact) }
