use mathlib.Core.Path.{◌∙◌}
use Rattle.integers.proofs.Machine.{clean}
use Rattle.tables.proofs.Admission.{ordered_or}
use Rattle.tables.proofs.entering.order_of.Goals as goal

pub returns : goal.returns
returns c = c.unwrap_or.ensures ∙ rw (c.order.ensures, clean c.ranges.n) (ordered_or c.args.n)
