-- The loop's invariant: the numbers passed are within the bound.
use mathlib.Core.Path.{◌≡◌}
use mathlib.Core.Bool.{true}
use lib.IntN.{nat_abs}
use Rattle.tables.specs.Checks.{all_within}
use Rattle.tables.proofs.all_within.Given as goal

abbrev pub invariant-loop-v : goal.invariant-loop-v
invariant-loop-v l = all_within (nat_abs l.bound) l.v-index l.x ≡ true
