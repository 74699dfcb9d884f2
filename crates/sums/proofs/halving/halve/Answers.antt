use mathlib.Core.Path.{ap, ◌∙◌}
use native.Mathlib.Omega.{arith}
use Rattle.integers.proofs.Machine.{clean, clean_result, within_more}
use Rattle.integers.proofs.Parts.{≤_in}
use Rattle.sums.specs.Halving.{half_up}
use Rattle.sums.proofs.Fronts.{sums-filled, halved-front, ranged-high, ranged-to, ranged-limit, limit_fits}
use Rattle.sums.proofs.halving.halve.Goals as goal

pub halve_up-requires : goal.halve_up-requires
halve_up-requires c = ranged-high c.requires.1

pub halve_up-requires-2 : goal.halve_up-requires-2
halve_up-requires-2 c = ranged-to c.requires.1

pub ceil_div-sums-requires : goal.ceil_div-sums-requires
ceil_div-sums-requires c = (
  rw (clean (limit_fits c.requires.1)) (within_more (omega arith) (ranged-limit c.requires.1)),
  ≤_in (omega arith),
)

pub returns-clause-sums : goal.returns-clause-sums
returns-clause-sums c =
    let s = c.args.sums.now in
    sums-filled c.requires.1.rooms c.halve_down.ensures c.halve_up.ensures c.halve_down-2.ensures c.halve_up-2.ensures
    (clean_result c.ceil_div-sums ∙ c.ceil_div-sums.ensures ∙ ap half_up (clean (limit_fits c.requires.1)))
    (halved-front s.order s.low.now s.high.now s.from.now s.to.now s.limit)
