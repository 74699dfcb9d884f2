use native.Mathlib.Omega.{arith}
use Rattle.integers.proofs.Machine.{clean, clean_element}
use Rattle.tables.specs.Matrix.{nth}
use Rattle.samples.proofs.Near.{product_fits}
use Rattle.samples.proofs.adding.product_ends.Goals as goal

-- ---- the products fit
pub overflow_mul-ca : goal.overflow_mul-ca
overflow_mul-ca c =
    let a = c.args in
    let n = c.requires.0 in
    rw (clean_element (nth a.low.now a.j) (omega arith), clean_element (nth a.low.now a.i) (omega arith))
    (product_fits (n.low a.j c.requires.2) (n.low a.i c.requires.1))

pub overflow_mul-da : goal.overflow_mul-da
overflow_mul-da c =
    let a = c.args in
    let n = c.requires.0 in
    rw (clean_element (nth a.high.now a.j) (omega arith), clean_element (nth a.low.now a.i) (omega arith))
    (product_fits (n.high a.j c.requires.2) (n.low a.i c.requires.1))

pub overflow_mul-cb : goal.overflow_mul-cb
overflow_mul-cb c =
    let a = c.args in
    let n = c.requires.0 in
    rw (clean_element (nth a.low.now a.j) (omega arith), clean_element (nth a.high.now a.i) (omega arith))
    (product_fits (n.low a.j c.requires.2) (n.high a.i c.requires.1))

pub overflow_mul-db : goal.overflow_mul-db
overflow_mul-db c =
    let a = c.args in
    let n = c.requires.0 in
    rw (clean_element (nth a.high.now a.j) (omega arith), clean_element (nth a.high.now a.i) (omega arith))
    (product_fits (n.high a.j c.requires.2) (n.high a.i c.requires.1))

pub returns : goal.returns
returns c =
    let a = c.args in
    let n = c.requires.0 in
    rw (
      clean_element c.smaller-3.result c.smaller-3.type_inv,
      c.smaller-3.ensures,
      clean_element c.smaller-2.result c.smaller-2.type_inv,
      c.smaller-2.ensures,
      clean_element c.smaller.result c.smaller.type_inv,
      c.smaller.ensures,
      clean_element c.greater-3.result c.greater-3.type_inv,
      c.greater-3.ensures,
      clean_element c.greater-2.result c.greater-2.type_inv,
      c.greater-2.ensures,
      clean_element c.greater.result c.greater.type_inv,
      c.greater.ensures,
      clean_element (nth a.low.now a.i) (omega arith),
      clean_element (nth a.high.now a.i) (omega arith),
      clean_element (nth a.low.now a.j) (omega arith),
      clean_element (nth a.high.now a.j) (omega arith),
      clean (product_fits (n.low a.j c.requires.2) (n.low a.i c.requires.1)),
      clean (product_fits (n.high a.j c.requires.2) (n.low a.i c.requires.1)),
      clean (product_fits (n.low a.j c.requires.2) (n.high a.i c.requires.1)),
      clean (product_fits (n.high a.j c.requires.2) (n.high a.i c.requires.1)),
    )
