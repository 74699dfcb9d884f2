use native.Mathlib.Omega.{arith}
use Rattle.integers.proofs.Machine.{clean_element}
use Rattle.verdict.proofs.Decisions.{factor_shaped, certified}
use Rattle.verdict.proofs.judge.certify.Goals as goal

pub write_factor-requires : goal.write_factor-requires
write_factor-requires c = let p = c.requires in (p.0.order, p.4)

pub over-requires : goal.over-requires
over-requires c =
    let w = c.write_factor in
    let p = c.requires in (
      record {
        factor = record {
          order = p.0.order;
          size = omega (arith, p.4, w.auto.factor);
          shape = factor_shaped _ _ _ _ _ p.3 w.ensures p.0.order p.0.bounds;
        };
        rooms = p.1;
        tables = p.0;
      },
      p.2,
    )

pub shape_of-factor : goal.shape_of-factor
shape_of-factor c = c.write_factor.auto.factor

pub returns : goal.returns
returns c =
    let w = c.write_factor in
    let p = c.requires in
    rw (clean_element c.over.result c.over.type_inv, c.over.ensures) (certified _ _ _ _ _ p.3 w.ensures)
