use mathlib.Core.Path.{refl, sym, ◌∙◌}
use Rattle.sums.proofs.Outcomes.{tried_in, tried_full}
use Rattle.sums.proofs.adding.add_inside.Goals as goal

pub returns-then-not-sums_within-clause-sums : goal.returns-then-not-sums_within-clause-sums
returns-then-not-sums_within-clause-sums c =
    tried_full (sym c.sums_within.ensures ∙ c.if-not-sums_within.true) (record { sums = refl; rooms = c.requires.0.1.rooms })

pub returns-clause-sums : goal.returns-clause-sums
returns-clause-sums c = tried_in (sym c.sums_within.ensures ∙ c.if-not-sums_within.false) c.add_sums.ensures.sums
