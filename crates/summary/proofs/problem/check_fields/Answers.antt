use Rattle.std.proofs.Common.{sym, ◌∙◌, arith}
use Rattle.std.proofs.lemmas.Int.{ints}
use Rattle.tables.proofs.Checks.{order-of}
use Rattle.summary.proofs.problem.check_fields.Goals as goal

pub lengths_ok-requires : goal.lengths_ok-requires
lengths_ok-requires c = let o = (order-of (sym c.order_ok-ordered.ensures ∙ c.if-not-ordered.false)).1 in omega (arith, ints)
