use mathlib.Core.Path.{◌≡◌}
use Prim.Native.Nat.{◌-◌, ◌+◌}
use Rattle.words.specs.Numbers.{unsigned_at}
use Rattle.words.proofs.load_unsigned.Given as goal

abbrev pub invariant-loop-i : goal.invariant-loop-i
invariant-loop-i l = l.u ≡ unsigned_at (l.k - l.i) l.b (l.at + l.i)
