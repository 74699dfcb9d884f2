use mathlib.Core.Path.{◌≡◌, ap₂, ◌∙◌}
use native.Mathlib.Omega.{arith}
use lib.IntN.{neg_ℤ}
use Rattle.std.proofs.lemmas.Int.{ints}
use Rattle.integers.specs.Numbers.{Within}
use Rattle.integers.specs.Division.{floor_div, ceil_div}
use Rattle.integers.proofs.Machine.{within-neg, within_floor}
use Rattle.arithmetic.specs.Required.{bound_range}
use Rattle.arithmetic.proofs.ceil_div.Goals as goal
use Rattle.arithmetic.proofs.ceil_div.Goals.{After-floor_div}

quotient : (c : After-floor_div) → c.floor_div.result ≡ floor_div (neg_ℤ c.args.a) c.args.d
quotient c = c.floor_div.ensures ∙ ap₂ floor_div (omega (arith, ints)) (omega (arith, ints))

-- the quotient fits by its size alone
small : (c : After-floor_div) → Within bound_range c.floor_div.result
small c = rw (quotient c) (within_floor c.args.d (within-neg c.requires.0))

pub overflow_sub-result : goal.overflow_sub-result
overflow_sub-result c = let w = small c in omega (arith, ints)

pub returns : goal.returns
unfolding ceil_div
returns c = let w = small c in rw (← quotient c) (omega (arith, ints))
