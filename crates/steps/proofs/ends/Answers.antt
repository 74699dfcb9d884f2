use mathlib.Core.Path.{sym, ◌∙◌}
use Rattle.integers.proofs.Machine.{clean_element, lt_holds, lt_fails}
use Rattle.cholesky.specs.Store.{upper}
use Rattle.cholesky.proofs.Filling.{scaled_factorable}
use Rattle.steps.proofs.Walked.{ends_is, none-ends}
use Rattle.steps.proofs.ends.Goals as goal

pub returns-then-h-lt1 : goal.returns-then-h-lt1
unfolding upper
returns-then-h-lt1 c =
    let p = c.args.bounds.checked in
    sym (none-ends _ _ c.requires (lt_holds (rw (clean_element _ c.t10-1.given) at c.if-h-lt1.true)))
    ∙ ends_is p.bounds p.order c.scale.ensures

pub ends_from-requires : goal.ends_from-requires
unfolding upper
ends_from-requires c =
    let p = c.args.bounds.checked in
    (scaled_factorable p.bounds p.order c.scale.ensures, c.requires, lt_fails (rw (clean_element _ c.t10-1.given) at c.if-h-lt1.false))

pub returns : goal.returns
unfolding upper
returns c =
    let p = c.args.bounds.checked in
    rw c.ends_from.ensures (ends_is p.bounds p.order c.scale.ensures)
