use mathlib.Core.Path.{◌∙◌}
use Rattle.integers.proofs.Machine.{clean_element}
use Rattle.residual.proofs.Worked.{residue, least-over}
use Rattle.residual.proofs.factor_test.over.Goals as goal

pub least_over-requires : goal.least_over-requires
least_over-requires c =
    let p = c.requires in
    (rw (c.turn.ensures.0, c.turn.ensures.1) (residue p.0), p.1)

pub returns : goal.returns
returns c =
    let p = c.requires in
    clean_element c.least_over.result c.least_over.type_inv
    ∙ rw (← least-over p.0, ← c.turn.ensures.0, ← c.turn.ensures.1) c.least_over.ensures
