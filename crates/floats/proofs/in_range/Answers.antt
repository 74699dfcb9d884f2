use mathlib.Core.Path.{sym, ap, ◌∙◌}
use mathlib.Core.Bool.{Bool, false, ◌&&◌}
use lib.Ieee.{le, of_bits, neg}
use Rattle.floats.proofs.Range.{eight, range_tests}
use Rattle.floats.proofs.in_range.Goals as goal

pub returns-then-x : goal.returns-then-x
unfolding of_bits neg
returns-then-x c = let x = c.args.x in ap (λ (b : Bool). b && le x (eight false)) (sym c.if-x.true) ∙ range_tests x

pub returns-else-x : goal.returns-else-x
unfolding of_bits neg
returns-else-x c = let x = c.args.x in ap (λ (b : Bool). b && le x (eight false)) (sym c.if-x.false) ∙ range_tests x
