-- The choices of the first entry, each with the least sum over those of the others.
use mathlib.Core.Path.{◌∙◌}
use native.Mathlib.Numerals.{add-one}
use native.Mathlib.Omega.{arith}
use Rattle.integers.proofs.Machine.{clean, clean_element}
use Rattle.lookahead.proofs.LeastSums.{after_asked, last_zero, last_one, last-minus-one, choice_small, choice_is}
use Rattle.lookahead.proofs.least.SeveralShares.least.Goals as goal

pub least-zero-requires : goal.least-zero-requires
least-zero-requires g c = rw (clean c.ranges.sum, add-one) (last_zero c.requires)

pub after-after_one-requires : goal.after-after_one-requires
after-after_one-requires g c = after_asked c.requires (omega arith) (omega arith)

pub least-one-requires : goal.least-one-requires
least-one-requires g c = rw (clean c.ranges.sum, c.after-after_one.ensures, add-one) (last_one c.requires)

pub after-after_opposite-requires : goal.after-after_opposite-requires
after-after_opposite-requires g c = after_asked c.requires (omega arith) (omega arith)

pub least-opposite-requires : goal.least-opposite-requires
least-opposite-requires g c = rw (clean c.ranges.sum, c.after-after_opposite.ensures, add-one) (last-minus-one c.requires)

pub least_choice-requires : goal.least_choice-requires
least_choice-requires g c =
    choice_small g.S.Shares.later c.requires
    (rw (
      clean_element c.least-one.result c.least-one.type_inv,
      c.least-one.ensures,
      clean c.ranges.sum,
      c.after-after_one.ensures,
      add-one,
    ))
    (rw (
      clean_element c.least-opposite.result c.least-opposite.type_inv,
      c.least-opposite.ensures,
      clean c.ranges.sum,
      c.after-after_opposite.ensures,
      add-one,
    ))

pub returns : goal.returns
returns g c =
    clean_element c.least_choice.result c.least_choice.type_inv
    ∙ c.least_choice.ensures
    ∙ choice_is g.S.Shares.later c.requires
    (rw (
      clean_element c.least-one.result c.least-one.type_inv,
      c.least-one.ensures,
      clean c.ranges.sum,
      c.after-after_one.ensures,
      add-one,
    ))
    (rw (
      clean_element c.least-opposite.result c.least-opposite.type_inv,
      c.least-opposite.ensures,
      clean c.ranges.sum,
      c.after-after_opposite.ensures,
      add-one,
    ))
    (rw (clean_element c.least-zero.result c.least-zero.type_inv, c.least-zero.ensures, clean c.ranges.sum, add-one))
