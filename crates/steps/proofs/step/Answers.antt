use mathlib.Core.Path.{◌∙◌}
use Rattle.integers.proofs.Machine.{clean_element}
use Rattle.steps.proofs.Walked.{scaled_triable, step_is}
use Rattle.steps.proofs.step.Goals as goal

pub search-requires : goal.search-requires
search-requires c = let p = c.args.bounds.checked in scaled_triable p.bounds p.order c.scale.ensures

pub returns : goal.returns
returns c =
    let p = c.args.bounds.checked in
    clean_element c.search.result c.search.type_inv ∙ c.search.ensures ∙ step_is p.bounds p.order c.scale.ensures
