-- Both tables are copied over zeros.
use mathlib.Core.Path.{sym, ◌∙◌}
use mathlib.Core.Bool.{false≢true}
use Prim.Native.Nat.{◌*◌}
use native.Mathlib.Omega.{arith}
use Rattle.tables.proofs.Matrix.{table_fits}
use Rattle.tables.proofs.Admission.{blank_length, over_room, copied-over}
use Rattle.tables.proofs.entering.load_bounds.Goals as goal

pub overflow_mul-n : goal.overflow_mul-n
overflow_mul-n g c = record { fits = omega (arith, table_fits c.requires.0) }

pub load-requires : goal.load-requires
load-requires g c = let p = c.requires in let z = p.1 c.if-sized.true in (omega (arith, z.0), omega (arith, blank_length p.2, table_fits p.0))

pub overflow_mul-n-then-sized : goal.overflow_mul-n-then-sized
overflow_mul-n-then-sized g c = record { fits = omega (arith, table_fits c.requires.0) }

pub load-requires-then-sized : goal.load-requires-then-sized
load-requires-then-sized g c =
    let p = c.requires in
    let z = p.1 c.if-sized.true in
    (omega (arith, z.1), omega (arith, blank_length p.3, table_fits p.0))

pub returns-then-sized : goal.returns-then-sized
returns-then-sized g c =
    let p = c.requires in
    let a = c.args in
    let z = p.1 c.if-sized.true in
    let numbers = g.E.Element.numbers in
    let x = numbers a.low.now (a.n * a.n) in
    let y = numbers a.high.now (a.n * a.n) in
    let h = g.E.Element.laws.numbers_whole _ _ z.0 in
    let k = g.E.Element.laws.numbers_whole _ _ z.1 in
    let l = copied-over x p.2 h c.load.ensures in
    let u = copied-over y p.3 k c.load-then-sized.ensures in
    record {
      rooms = record { low-size = over_room x h (table_fits p.0) l; high-size = over_room y k (table_fits p.0) u };
      low = λ e. l;
      high = λ e. u;
    }

pub returns-else-sized : goal.returns-else-sized
returns-else-sized g c =
    let p = c.requires in
    record {
      rooms = record { low-size = blank_length p.2; high-size = blank_length p.3 };
      low = λ e. absurd (false≢true (sym c.if-sized.false ∙ e));
      high = λ e. absurd (false≢true (sym c.if-sized.false ∙ e));
    }
