use mathlib.Core.Path.{sym}
use Rattle.tables.specs.Bounded.{low_of, high_of}
use Rattle.cholesky.specs.Scale.{scaled}
use Rattle.cholesky.specs.Store.{upper}
use Rattle.cholesky.proofs.Extensional.{factoring_ext}
use Rattle.cholesky.proofs.Filling.{checked_lent, scaled_factorable}
use Rattle.cholesky.proofs.problem.factor_tables.Goals as goal

pub scale-requires : goal.scale-requires
scale-requires c = (checked_lent c.args.bounds.checked, c.requires)

pub factor-requires : goal.factor-requires
factor-requires c = let p = c.args.bounds.checked in scaled_factorable p.bounds p.order c.scale.ensures

pub returns : goal.returns
returns c =
    let b = c.args.bounds in
    rw (sym (factoring_ext b.order (upper _) (scaled b.order (low_of b) (high_of b)) c.scale.ensures.entries)) c.factor.ensures
