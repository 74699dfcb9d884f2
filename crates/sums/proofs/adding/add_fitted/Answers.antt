use Rattle.sums.proofs.Outcomes.{whole-fitted, halves-ranged, half-fitted}
use Rattle.sums.proofs.adding.add_fitted.Goals as goal

pub returns-in-Ok-clause-sums : goal.returns-in-Ok-clause-sums
returns-in-Ok-clause-sums c = whole-fitted c.in-Ok.ensures.sums

-- the order stays the same
pub add_inside-requires-2 : goal.add_inside-requires-2
add_inside-requires-2 c =
    let p = c.add_inside.ensures.place.order in
    let q = c.halve.ensures.place.order in
    let tried = rw p at c.in_default.ensures.sums in
    let halves = rw (q, p) at c.halve.ensures.sums in
    rw (q, p) ((c.requires.0.0, halves-ranged tried halves c.requires.0.1.within), c.requires.1)

pub returns-clause-sums : goal.returns-clause-sums
returns-clause-sums c =
    let p = c.add_inside.ensures.place.order in
    let q = c.halve.ensures.place.order in
    let o = c.add_inside-2.ensures.place.order in
    let tried = rw p at c.in_default.ensures.sums in
    let halves = rw (q, p) at c.halve.ensures.sums in
    rw (o, q, p) (half-fitted tried halves (rw (o, q, p) at c.add_inside-2.ensures.sums))
