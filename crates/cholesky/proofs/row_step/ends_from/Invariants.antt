-- The loop's invariant: what is left from row i on decides, and at least 1 is left of diagonal entry i.
use mathlib.Core.Path.{◌≡◌}
use Prim.Native.Nat.{◌-◌}
use lib.IntN.{pos}
use lib.Signed.{◌≤ℤ◌}
use Rattle.cholesky.specs.Store.{upper}
use Rattle.cholesky.specs.Reduced.{ends_from}
use Rattle.cholesky.specs.Rows.{Factorable}
use Rattle.cholesky.proofs.row_step.ends_from.Given as goal

abbrev pub invariant-loop-i : goal.invariant-loop-i
invariant-loop-i l =
    Factorable l.s l.n l.i × (pos 1 ≤ℤ upper l.s l.i l.i) × (ends_from (l.n - l.first) (upper l.initial.s) l.first ≡ ends_from (l.n - l.i) (upper l.s) l.i)
