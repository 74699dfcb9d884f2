-- The numbers of both tables are loaded over zeros.
use mathlib.Core.Path.{refl, sym, ◌∙◌}
use mathlib.Core.Bool.{false≢true}
use native.Mathlib.Omega.{arith}
use Rattle.tables.proofs.Matrix.{table_fits}
use Rattle.tables.proofs.Admission.{blank_length}
use Rattle.buffers.proofs.Loading.{loaded_room}
use Rattle.buffers.proofs.entering.load_bounds.Goals as goal

pub overflow_mul-n : goal.overflow_mul-n
overflow_mul-n c = record { fits = omega (arith, table_fits c.requires.0) }

pub load_numbers-requires : goal.load_numbers-requires
load_numbers-requires c = let p = c.requires in (refl, (p.1 c.if-sized.true).0, omega (arith, blank_length p.2, table_fits p.0))

pub overflow_mul-n-then-sized : goal.overflow_mul-n-then-sized
overflow_mul-n-then-sized c = record { fits = omega (arith, table_fits c.requires.0) }

pub load_numbers-requires-then-sized : goal.load_numbers-requires-then-sized
load_numbers-requires-then-sized c =
    let p = c.requires in
    (refl, (p.1 c.if-sized.true).1, omega (arith, blank_length p.3, table_fits p.0))

pub returns-then-sized : goal.returns-then-sized
returns-then-sized c =
    let p = c.requires in
    record {
      rooms = record {
        low-size = loaded_room _ p.2 (table_fits p.0) c.load_numbers.ensures;
        high-size = loaded_room _ p.3 (table_fits p.0) c.load_numbers-then-sized.ensures;
      };
      low = λ e. rw p.2 at c.load_numbers.ensures;
      high = λ e. rw p.3 at c.load_numbers-then-sized.ensures;
    }

pub returns-else-sized : goal.returns-else-sized
returns-else-sized c =
    let p = c.requires in
    record {
      rooms = record { low-size = blank_length p.2; high-size = blank_length p.3 };
      low = λ e. absurd (false≢true (sym c.if-sized.false ∙ e));
      high = λ e. absurd (false≢true (sym c.if-sized.false ∙ e));
    }
