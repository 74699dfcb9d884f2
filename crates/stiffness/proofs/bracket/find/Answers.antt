-- The bound, then the factoring: t is looked for where it ends.
use Rattle.integers.proofs.Machine.{clean_element}
use Rattle.stiffness.proofs.Stating.{stated-between, stated-at-most}
use Rattle.stiffness.proofs.bracket.find.Goals as goal

pub returns-then-not-ends : goal.returns-then-not-ends
returns-then-not-ends c =
    rw (clean_element c.least_bound-v.result c.least_bound-v.type_inv) (stated-at-most _ _ _ c.least_bound-v.ensures c.if-not-ends.ensures)

pub returns : goal.returns
returns c =
    let t = c.step in
    rw (clean_element t.result t.type_inv, t.ensures, clean_element c.least_bound-v.result c.least_bound-v.type_inv)
    (stated-between _ _ _ c.least_bound-v.ensures c.if-not-ends.ensures)
