use Rattle.tables.specs.Matrix.{at}
use Rattle.tables.proofs.CheckedTables.{low-within, high-within}
use Rattle.residual.proofs.Turned.{columns_unturned}
use Rattle.residual.proofs.residual.turn.Goals as goal

pub turn_column-requires : goal.turn_column-requires
turn_column-requires c =
    let p = c.requires in
    let h = c.loop-j-test.true in
    let m = c.loop-j.invariant in
    rw (m.0, m.1) (
      p.factor,
      h,
      columns_unturned (at c.args.n c.args.factor.now) p.factor.order h c.args.low.now p.rooms.low-size
          (λ a b i j. low-within p.tables i j),
      columns_unturned (at c.args.n c.args.factor.now) p.factor.order h c.args.high.now p.rooms.high-size
          (λ a b i j. high-within p.tables i j),
    )
