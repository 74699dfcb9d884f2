use mathlib.Core.Path.{◌≡◌}
use mathlib.Core.List.{◌++◌}
use Prim.Native.Nat.{◌*◌}
use lib.ListN.{drop}
use mir.Val.{bytes}
use Rattle.words.specs.Numbers.{width_of, bytes_of}
use Rattle.words.proofs.store_numbers.Given as goal

abbrev pub invariant-loop-i : goal.invariant-loop-i
invariant-loop-i l = l.out ≡ bytes_of (width_of l.size) l.a l.i ++ drop (l.i * bytes (width_of l.size)) l.initial.out
