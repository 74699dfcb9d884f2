use mathlib.Core.Path.{sym, ◌∙◌}
use Rattle.integers.proofs.Machine.{clean, clean_result}
use Rattle.cholesky.specs.Scale.{take_off}
use Rattle.cholesky.proofs.ScaledMatrix.{scaled_on}
use Rattle.cholesky.proofs.Filling.{scaled_width_fits, taken_fits, on_fits}
use Rattle.cholesky.proofs.scaling.diagonal.Goals as goal

pub overflow_mul-result : goal.overflow_mul-result
overflow_mul-result c =
    let p = c.requires in
    rw (clean_result c.row_width, c.row_width.ensures) (scaled_width_fits p.0.order p.0.ranged p.1)

pub overflow_add-result : goal.overflow_add-result
overflow_add-result c =
    let p = c.requires in
    let a = c.diagonal_allowance in
    rw (clean_result a, a.ensures, clean (overflow_mul-result c), clean_result c.row_width, c.row_width.ensures) (taken_fits p.0.order p.0.ranged p.1)

pub overflow_sub-result : goal.overflow_sub-result
overflow_sub-result c =
    let p = c.requires in
    let a = c.diagonal_allowance in
    let m = c.middle in
    rw (clean_result m, m.ensures, clean (overflow_add-result c), clean_result a, a.ensures, clean (overflow_mul-result c), clean_result c.row_width, c.row_width.ensures)
    (on_fits p.0.order p.0.ranged p.1 p.1)

pub returns : goal.returns
returns c =
    let a = c.diagonal_allowance in
    let m = c.middle in
    clean (overflow_sub-result c)
    ∙ rw (clean_result m, m.ensures, clean (overflow_add-result c), clean_result a, a.ensures, clean (overflow_mul-result c), clean_result c.row_width, c.row_width.ensures)
    (sym (scaled_on (take_off c.args.n) c.args.n _ _ c.args.j))
