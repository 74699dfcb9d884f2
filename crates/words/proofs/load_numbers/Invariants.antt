use mathlib.Core.Path.{◌≡◌}
use mathlib.Core.List.{◌++◌}
use lib.ListN.{drop}
use Rattle.words.specs.Numbers.{width_of, numbers_of}
use Rattle.words.proofs.load_numbers.Given as goal

abbrev pub invariant-loop-i : goal.invariant-loop-i
invariant-loop-i l = l.out ≡ numbers_of (width_of l.size) l.b l.i ++ drop l.i l.initial.out
