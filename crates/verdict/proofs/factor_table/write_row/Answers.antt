use mathlib.Core.Path.{◌≡◌}
use Prim.Native.Nat.{suc, ◌+◌, ◌*◌}
use native.Mathlib.Omega.{arith}
use Rattle.integers.proofs.Machine.{clean_element}
use Rattle.tables.proofs.Matrix.{inside}
use Rattle.verdict.proofs.Writing.{written-more}
use Rattle.verdict.proofs.factor_table.write_row.Goals as goal

pub loop-j-preserved : goal.loop-j-preserved
loop-j-preserved c =
    let l = c.loop-j in
    let h = c.loop-j-test.true in
    let e : suc (c.args.i * c.args.n + l.j) ≡ c.args.i * c.args.n + (l.j + 1) = omega arith in
    rw (clean_element c.factor_entry.result c.factor_entry.type_inv, c.factor_entry.ensures, ← e)
    (written-more c.args.i l.j h (omega (arith, inside c.requires.1 h, c.requires.2, l.auto.factor)) l.invariant)
