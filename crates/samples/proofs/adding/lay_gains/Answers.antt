use mathlib.Core.Path.{◌∙◌}
use native.Mathlib.Omega.{arith}
use Rattle.integers.proofs.Machine.{clean, clean_element}
use Rattle.samples.specs.Samples.{factor_count}
use Rattle.samples.specs.Gains.{gains}
use Rattle.samples.proofs.Near.{negated_fits, least_square_within, near-read, gains-read, constraint_by}
use Rattle.samples.proofs.adding.lay_gains.Goals as goal

pub overflow_sub-result : goal.overflow_sub-result
overflow_sub-result c =
    let square = clean_element c.least_square.result c.least_square.type_inv ∙ c.least_square.ensures in
    rw square (negated_fits (least_square_within (near-read c.args.m c.requires.0) {i = factor_count} (omega arith)))

pub returns : goal.returns
unfolding gains
returns c =
    let p = c.lay_products.ensures in
    let q = c.lay_draws.ensures in
    let square = clean_element c.least_square.result c.least_square.type_inv ∙ c.least_square.ensures in
    constraint_by p.0 p.1 q.0 q.1 (clean (overflow_sub-result c) ∙ rw square) ∙ gains-read c.args.m c.requires.0
