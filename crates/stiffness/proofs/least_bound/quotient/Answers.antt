use mathlib.Core.Path.{◌∙◌}
use Rattle.integers.proofs.Machine.{clean_result, clean_element}
use Rattle.tables.proofs.Forms.{norm_positive}
use Rattle.tables.specs.Matrix.{norm_squared}
use Rattle.stiffness.specs.Bracket.{quotient}
use Rattle.stiffness.proofs.Descending.{least-small}
use Rattle.stiffness.proofs.least_bound.quotient.Goals as goal

pub ceil_div-requires : goal.ceil_div-requires
unfolding quotient norm_squared
ceil_div-requires c =
    let v = c.least_value in
    let s = c.product_sum in
    let p = c.requires in (
      rw (clean_element v.result v.type_inv, v.ensures) (least-small c.args.bounds.checked p.0),
      rw (clean_result s, s.ensures) (norm_positive p.1),
    )

pub returns : goal.returns
unfolding quotient norm_squared
returns c =
    let v = c.least_value in
    let s = c.product_sum in
    clean_element c.ceil_div.result c.ceil_div.type_inv
    ∙ rw (clean_element v.result v.type_inv, v.ensures, clean_result s, s.ensures) at c.ceil_div.ensures
