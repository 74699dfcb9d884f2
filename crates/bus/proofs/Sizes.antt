-- Where the sizes are right, each buffer has its own.
use mathlib.Core.Path.{◌≡◌}
use mathlib.Core.Bool.{true}
use mathlib.Core.List.{List}
use Prim.Native.Nat.{ℕ, ◌*◌}
use borrow.Author.Tests.{eqb-true}
use lib.Dec.{eqb}
use lib.ListN.{length}
use mir.Syntax.{w64}
use mir.Val.{bytes}
use Rattle.tables.proofs.Checks.{and_left, and_right}
use Rattle.bus.specs.Registers.{block_bytes}
use Rattle.bus.specs.Area.{run_bytes}
use Rattle.bus.specs.Bus.{tables_sized, bus_sized}

pub tables-sized-of : (n : ℕ) (l u : List ℕ) → tables_sized n l u ≡ true → (length l ≡ n * n * bytes w64) × (length u ≡ n * n * bytes w64)
unfolding tables_sized
tables-sized-of n l u e =
    let size = n * n * bytes w64 in
    (eqb-true (length l) size (and_left _ _ e), eqb-true (length u) size (and_right (eqb (length l) size) _ e))

pub bus-sized-of : (b s : List ℕ) → bus_sized b s ≡ true → (length b ≡ block_bytes) × (length s ≡ run_bytes)
unfolding bus_sized
bus-sized-of b s e =
    (eqb-true (length b) block_bytes (and_left _ _ e), eqb-true (length s) run_bytes (and_right (eqb (length b) block_bytes) _ e))
