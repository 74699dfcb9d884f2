use mathlib.Core.Path.{◌≡◌}
use Rattle.integers.proofs.Machine.{clean}
use Rattle.tables.specs.Checks.{order_of}
use Rattle.tables.proofs.Admission.{order_small, entered-laid}
use Rattle.tables.proofs.entering.enter.Given.{Over}
use Rattle.tables.proofs.entering.enter.Goals as goal
use Rattle.tables.proofs.entering.enter.Goals.{After-order_of}

order : (g : Over) (c : After-order_of g) → c.order_of.result ≡ order_of c.args.n
order g c = rw (clean c.ranges.n) at c.order_of.ensures

pub load_bounds-requires : goal.load_bounds-requires
load_bounds-requires g c =
    let p = c.requires in
    rw (order g (goal.at.load_bounds-requires g c).After-order_of) (order_small _, p.0, p.1, p.2)

pub check_door-requires : goal.check_door-requires
check_door-requires g c = c.load_bounds.ensures.rooms

pub returns : goal.returns
returns g c =
    let whole = g.E.Element.laws.numbers_whole in
    entered-laid _ _ _ (λ s. let z = c.requires.0 s in (whole _ _ z.0, whole _ _ z.1))
    (rw (order g (goal.at.returns g c).After-order_of) at c.load_bounds.ensures) (rw (clean c.ranges.n) at c.check_door.ensures)
