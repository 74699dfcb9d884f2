use mathlib.Core.Path.{sym}
use Rattle.tables.specs.Checks.{all_within}
use Rattle.tables.proofs.Checks.{call_false, call_true, and_first_false}
use Rattle.vectors.specs.VectorTest.{vector_shape}
use Rattle.vectors.proofs.vector_test.vector_shape.Goals as goal

pub returns-then-not-nonzero : goal.returns-then-not-nonzero
unfolding vector_shape all_within
returns-then-not-nonzero c = sym (and_first_false _ (call_false c.nonzero.ensures c.if-not-nonzero.true-raw))

pub returns : goal.returns
unfolding vector_shape all_within
returns c = rw (call_true c.nonzero.ensures c.if-not-nonzero.false-raw) c.all_within.ensures
