use mathlib.Core.Path.{sym, ◌∙◌}
use Rattle.std.proofs.Common.{rules}
use Rattle.tables.specs.Answers.{after}
use Rattle.tables.specs.Checks.{first_refusal}
use Rattle.residual.specs.ResidualAct.{tabled}
use Rattle.residual.specs.Scratch.{Offer}
use Rattle.residual.proofs.Worked.{low-table, high-table}
use Rattle.residual.proofs.residual.write_residual.Goals as goal

pub returns : goal.returns
unfolding tabled after first_refusal
returns c =
    let a = c.args in
    let p = c.requires in
    let s = sym c.factor_shape.ensures ∙ c.if-not-factor_shape.false in
    let o : Offer a.n a.low.now a.high.now a.factor.now = search rules in
    rw (c.copy_numbers.ensures, c.copy_numbers-2.ensures, c.turn.ensures.0, c.turn.ensures.1, low-table o _ p.3, high-table o _ p.4, s)
