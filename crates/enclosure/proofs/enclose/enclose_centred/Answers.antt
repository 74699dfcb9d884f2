-- By the answer.
use mathlib.Core.Path.{ap, ◌∙◌}
use native.Mathlib.Omega.{arith}
use Rattle.std.specs.Prelude.{Ok}
use Rattle.integers.proofs.Machine.{clean}
use Rattle.tables.proofs.Answers.{handed_on}
use Rattle.tables.proofs.Buffers.{stored-whole}
use Rattle.enclosure.proofs.BoxCases.{given_sides, given_empty, given-refused}
use Rattle.enclosure.proofs.enclose.enclose_centred.Goals as goal

pub returns-in_err-given : goal.returns-in_err-given
returns-in_err-given g c =
    rw (handed_on c.from_residual.ensures.1)
    (given-refused _ _ (rw (clean c.ranges.limit) at c.box_bounds.ensures) _ _ c.in_err-given.was)

pub store-requires : goal.store-requires
store-requires g c = let order = c.args.problem.bounds.checked.order in (omega (arith, order), omega (arith, c.requires.1))

pub returns-in-Some : goal.returns-in-Some
returns-in-Some g c =
    given_sides _ _ (rw (clean c.ranges.limit) at c.box_bounds.ensures) _ (c.in_ok-given.was ∙ ap Ok c.in-Some.is)
    (let o = c.args.problem.bounds.checked.order in
    c.store.ensures ∙ stored-whole g.E.Element.elements c.in-Some.x _ (omega (arith, o)) c.requires.1)

pub returns-in-None : goal.returns-in-None
returns-in-None g c = given_empty _ _ (rw (clean c.ranges.limit) at c.box_bounds.ensures) _ (c.in_ok-given.was ∙ ap Ok c.in-None.is)
