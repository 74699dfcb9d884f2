use mathlib.Core.Path.{◌≡◌}
use mathlib.Core.List.{List}
use Prim.Native.Nat.{suc, ◌≤◌, ◌<◌}
use native.Mathlib.Omega.{arith}
use lib.IntN.{ℤ}
use mir.Syntax.{w64}
use mir.Val.{to_z, of_z, SFits}
use Rattle.std.proofs.Common.{rules}
use Rattle.std.proofs.lemmas.Int.{to_z-of_z}
use Rattle.integers.specs.Numbers.{Within}
use Rattle.tables.specs.Ranges.{greatest_order}
use Rattle.tables.specs.Matrix.{at}
use Rattle.residual.specs.Scratch.{gram_range, Unturned, UnturnedColumn, turned_column}
use Rattle.residual.proofs.Sizes.{gram-within}
use Rattle.residual.proofs.Turned.{column_unturned}
use Rattle.residual.proofs.residual.turn_column.Goals as goal
use Rattle.residual.proofs.residual.turn_column.Goals.{After-product-p}

-- what the turn of a pair asks, in a table t that came from a table s by the turns of the pairs before it
module _ (c : After-product-p) (s t : List ℤ) (u : UnturnedColumn c.args.n s c.args.j) where
  asked : t ≡ turned_column c.args.n (at c.args.n c.args.factor.now) s c.args.j c.loop-i.i →
      (c.args.n ≤ greatest_order) × (c.loop-i.i < c.args.n) × (c.args.j < c.args.n) × Unturned c.args.n t c.loop-i.i c.args.j ×
      Within gram_range (to_z w64 (of_z w64 c.product-p.result))
  asked e =
      let p = c.requires in
      let f : SFits w64 c.product-p.result = search rules in
      rw (to_z-of_z w64 _ f, c.product-p.ensures, e) (
        p.0.order,
        omega arith,
        p.1,
        column_unturned (at c.args.n c.args.factor.now) p.0.order p.1 s u c.loop-i.i (omega arith),
        gram-within p.0 (omega arith) p.1,
      )

pub turn_pair-requires : goal.turn_pair-requires
turn_pair-requires c = asked (goal.at.turn_pair-requires c).After-product-p c.args.low.now _ c.requires.2 c.loop-i.invariant.0

pub turn_pair-requires-in-loop-i : goal.turn_pair-requires-in-loop-i
turn_pair-requires-in-loop-i c =
    asked (goal.at.turn_pair-requires-in-loop-i c).After-product-p c.args.high.now _ c.requires.3 c.loop-i.invariant.1

pub returns : goal.returns
returns c = let e : c.loop-i.i ≡ suc c.args.j = omega arith in rw e at c.loop-i.invariant
