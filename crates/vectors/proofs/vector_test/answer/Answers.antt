use mathlib.Core.Path.{◌≡◌, refl, sym, ◌∙◌}
use mathlib.Core.Bool.{true}
use Rattle.integers.proofs.Machine.{clean_element}
use Rattle.tables.specs.Matrix.{nth}
use Rattle.std.specs.Prelude.{Err}
use Rattle.tables.proofs.Checks.{first-refuses}
use Rattle.tables.proofs.Answers.{after-refused}
use Rattle.vectors.specs.VectorTest.{vector_shape, vector_answer}
use Rattle.vectors.proofs.Answers.{answer_shows, shaped-entries}
use Rattle.vectors.proofs.vector_test.answer.Goals as goal
use Rattle.vectors.proofs.vector_test.answer.Goals.{Else-not-vector_shape}

shaped : (c : Else-not-vector_shape) → let a = c.args in vector_shape a.bounds.order (nth a.x.now) ≡ true
shaped c = sym c.vector_shape.ensures ∙ c.if-not-vector_shape.false

pub vector_shape-requires : goal.vector_shape-requires
unfolding vector_answer
vector_shape-requires c = c.requires

pub returns-then-not-vector_shape : goal.returns-then-not-vector_shape
unfolding vector_answer
returns-then-not-vector_shape c = after-refused Err _ _ (first-refuses _ _ (sym c.vector_shape.ensures ∙ c.if-not-vector_shape.true))

pub least_value-requires : goal.least_value-requires
unfolding vector_answer
least_value-requires c = shaped-entries _ _ (shaped c) c.requires

pub returns : goal.returns
returns c =
    rw (clean_element c.least_value.result c.least_value.type_inv, c.least_value.ensures)
    (answer_shows _ _ _ _ (shaped (goal.at.returns c).Else-not-vector_shape) _ refl)
