use mathlib.Core.Path.{◌≡◌, sym, ap, ◌∙◌}
use mathlib.Core.List.{List}
use Prim.Native.Nat.{ℕ, ◌≤◌}
use native.Mathlib.Omega.{arith}
use Rattle.cholesky.specs.Columns.{Step}
use Rattle.std.specs.Prelude.{Err}
use Rattle.bus.specs.Running.{Bus}
use Rattle.bus.specs.Required.{StopsIn}
use Rattle.bus.proofs.Worked.{taken-last, taken_next, taken_stop}
use Rattle.bus.proofs.ticking.keep_column.Goals as goal

-- a bus whose block is kept
abbrev kept : List ℕ → List ℕ → Bus
kept b x = record { block = b; run = x }

-- the rows of a stop
rows : {j m : ℕ} (s : Step) → s ≡ Err m → StopsIn j s → m ≤ j
unfolding StopsIn
rows s e h = rw e at h

pub overflow_add-m : goal.overflow_add-m
overflow_add-m c = record { fits = omega (arith, rows _ c.in-Err.is c.requires.5, c.requires.2, c.requires.3) }

pub put_column-requires-in-Err : goal.put_column-requires-in-Err
put_column-requires-in-Err c =
    let h = rows _ c.in-Err.is c.requires.5 in
    (c.requires.1, omega arith, omega (arith, h, c.requires.2, c.requires.3), omega arith, omega (arith, h), c.requires.4)

pub returns-then-j-n : goal.returns-then-j-n
returns-then-j-n c =
    rw c.in-Ok.is (c.settle.ensures ∙ sym (taken-last _ _ _ _ _ c.if-j-n.true))

pub returns-else-j-n : goal.returns-else-j-n
returns-else-j-n c =
    rw c.in-Ok.is (ap (kept _) c.put_column.ensures ∙ sym (taken_next _ _ _ _ _ c.if-j-n.false))

pub returns-in-Err : goal.returns-in-Err
returns-in-Err c =
    rw c.in-Err.is (ap (kept _) c.put_column-in-Err.ensures ∙ sym (taken_stop _ _ _ _ _ _))
