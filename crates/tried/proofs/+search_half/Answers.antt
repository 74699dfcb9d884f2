-- By recursion over the remaining order: 0 in front, then 1.
use Rattle.std.proofs.Common.{arith}
use Rattle.tried.proofs.Searching.{half-none-left, half_hit, half-one}
use Rattle.tried.proofs.+search_half.Goals as goal

pub returns-then-left-eq0 : goal.returns-then-left-eq0
returns-then-left-eq0 t c = half-none-left _ _ _ c.if-left-eq0.true _ c.requires.1

pub returns-then-search_half : goal.returns-then-search_half
returns-then-search_half t c =
    let g = c.requires.0 in
    half_hit _ _ _ (omega arith) _ (omega (arith, g.inside)) (omega (arith, g.inside, g.shares.pairs.order)) (rw c.if-search_half.true at c.search_half.ensures)

pub returns : goal.returns
returns t c =
    let g = c.requires.0 in
    half-one _ _ _ (omega arith) _ (omega (arith, g.inside)) (omega (arith, g.inside, g.shares.pairs.order)) (rw c.if-search_half.false at c.search_half.ensures) c.search_with.ensures
