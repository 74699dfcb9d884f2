-- What shows 'not definite' is what is under 0.
use mathlib.Core.Path.{◌∙◌}
use native.Mathlib.Omega.{arith}
use Rattle.tables.specs.Matrix.{nth}
use Rattle.vectors.proofs.Showing.{under_zero}
use Rattle.tried.specs.Tried.{tried}
use Rattle.tried.proofs.TriedList.{first_ext}
use Rattle.tried.proofs.first_tried.Goals as goal

pub first_under-requires : goal.first_under-requires
first_under-requires c = record { size = omega arith }

pub returns : goal.returns
returns c = c.first_under.ensures ∙ first_ext _ _ (λ v. under_zero _ _ _ (nth v)) (tried _)
