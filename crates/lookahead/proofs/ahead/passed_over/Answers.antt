-- By the least sum, where few entries are left.
use Rattle.integers.proofs.Machine.{clean, clean_element}
use Rattle.lookahead.proofs.Sizes.{sum-within}
use Rattle.lookahead.proofs.LeastSums.{many-left, few_left}
use Rattle.lookahead.proofs.ahead.passed_over.Goals as goal

pub returns-then-left-gt-LOOK_AHEAD : goal.returns-then-left-gt-LOOK_AHEAD
returns-then-left-gt-LOOK_AHEAD c = many-left _ _ _ _ _ _ _ c.if-left-gt-LOOK_AHEAD.true

pub few_left-requires : goal.few_left-requires
few_left-requires c =
    let g = c.requires.0 in
    (g.shares, rw (clean c.ranges.sum) (sum-within g), g.inside, c.requires.1, c.if-left-gt-LOOK_AHEAD.false)

pub returns : goal.returns
returns c =
    rw (clean_element c.few_left.result c.few_left.type_inv, c.few_left.ensures, clean c.ranges.sum)
    (few_left _ _ _ _ _ _ _ c.if-left-gt-LOOK_AHEAD.false)
