use mathlib.Core.Path.{sym, ◌∙◌}
use native.Mathlib.Omega.{arith}
use native.Mathlib.Numerals.{add-one}
use lib.IntN.{ℤ}
use Rattle.integers.proofs.Machine.{clean, clean_element}
use Rattle.integers.proofs.Sums.{sum_zero, sum_suc}
use Rattle.tables.specs.Matrix.{at, row_width}
use Rattle.cholesky.proofs.Filling.{gap_fits, width_fits}
use Rattle.cholesky.proofs.scaling.row_width.Lts as lts
use Rattle.cholesky.proofs.scaling.row_width.Reads as reads
use Rattle.cholesky.proofs.scaling.row_width.Goals as goal

abbrev After-w2 : Type 0
After-w2 = lts.After-w2 reads.Pre reads.Post goal.the-invariant-loop-k goal.the-decreases-loop-k

-- U(i,k)
abbrev high : After-w2 → ℤ
high c = let a = c.args in at a.n a.high.now a.i c.loop-k.k

pub overflow_sub-w : goal.overflow_sub-w
unfolding at
overflow_sub-w c =
    let p = c.requires in
    rw (clean_element (high c) c.w-1.given, clean_element _ c.w-in-loop-k-1.given) (gap_fits p.0.order p.0.ranged p.1 (omega arith))

pub overflow_add-w-in-loop-k-2 : goal.overflow_add-w-in-loop-k-2
unfolding at
overflow_add-w-in-loop-k-2 c =
    let p = c.requires in
    rw (clean (overflow_sub-w c), clean_element (high c) c.w-1.given, clean_element _ c.w-in-loop-k-1.given, c.loop-k.invariant)
    (width_fits p.0.order p.0.ranged p.1 _ (omega arith))

pub loop-k-init : goal.loop-k-init
unfolding row_width at
loop-k-init c = sym (sum_zero _)

pub loop-k-preserved : goal.loop-k-preserved
unfolding row_width at
loop-k-preserved c =
    let l = c.loop-k in
    clean (overflow_add-w-in-loop-k-2 c)
    ∙ rw (clean (overflow_sub-w c), clean_element (high c) c.w-1.given, clean_element _ c.w-in-loop-k-1.given, l.invariant, add-one) (sym (sum_suc l.k _))
