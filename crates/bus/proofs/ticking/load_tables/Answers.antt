use mathlib.Core.Path.{◌≡◌}
use mathlib.Core.List.{List, ◌++◌}
use Prim.Native.Nat.{ℕ, ◌*◌}
use native.Mathlib.Omega.{arith}
use lib.IntN.{ℤ}
use lib.ListN.{take, drop}
use Rattle.tables.specs.Entering.{Over, Blank}
use Rattle.tables.proofs.Matrix.{table_fits}
use Rattle.tables.proofs.Admission.{blank_length, over_room}
use Rattle.bus.specs.Area.{low_at, high_at, area_of, table_at}
use Rattle.bus.proofs.Loaded.{length-table_at, loaded-tables}
use Rattle.bus.proofs.ticking.load_tables.Goals as goal

-- what is loaded
over : (n f : ℕ) (r : List ℤ) {x y : List ℤ} → Blank x → y ≡ take (n * n) (drop f r) ++ drop (n * n) x → Over (n * n) (table_at n r f) y
unfolding table_at
over n f r b e = rw b at e

pub overflow_mul-n : goal.overflow_mul-n
overflow_mul-n c = record { fits = omega (arith, table_fits c.requires.2) }

pub load_part-requires : goal.load_part-requires
load_part-requires c =
    (c.requires.0, omega (arith, table_fits c.requires.2), omega (arith, table_fits c.requires.2, blank_length c.requires.3))

pub overflow_mul-n-2 : goal.overflow_mul-n-2
overflow_mul-n-2 c = record { fits = omega (arith, table_fits c.requires.2) }

pub load_part-requires-2 : goal.load_part-requires-2
load_part-requires-2 c =
    (c.requires.0, omega (arith, table_fits c.requires.2), omega (arith, table_fits c.requires.2, blank_length c.requires.4))

pub check_laid-requires : goal.check_laid-requires
check_laid-requires c =
    let n = c.args.n in
    let s = c.args.run.now in
    let r = area_of s in (
      c.requires.2,
      table_fits c.requires.2,
      record {
        low-size =
            over_room (table_at n r low_at) (length-table_at s low_at c.requires.2 (omega arith)) (table_fits c.requires.2)
            (over n low_at r c.requires.3 c.load_part.ensures);
        high-size =
            over_room (table_at n r high_at) (length-table_at s high_at c.requires.2 (omega arith)) (table_fits c.requires.2)
            (over n high_at r c.requires.4 c.load_part-2.ensures);
      },
    )

pub returns : goal.returns
returns c =
    let n = c.args.n in
    let s = c.args.run.now in
    let r = area_of s in
    loaded-tables c.requires.1 c.requires.2 (table_at n r low_at) (table_at n r high_at)
    (length-table_at s low_at c.requires.2 (omega arith))
    (length-table_at s high_at c.requires.2 (omega arith)) (over n low_at r c.requires.3 c.load_part.ensures)
    (over n high_at r c.requires.4 c.load_part-2.ensures) c.check_laid.ensures
