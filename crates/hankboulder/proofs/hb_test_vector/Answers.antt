use mathlib.Core.Path.{ap, ◌∙◌}
use Rattle.integers.proofs.Machine.{clean, clean_element}
use Rattle.tables.specs.Answers.{yes_or_no_code, answer_code}
use Rattle.tables.proofs.Answers.{exactly}
use Rattle.vectors.specs.VectorTest.{vector_act}
use Rattle.hankboulder.specs.Entries.{test_vector_entry}
use Rattle.hankboulder.specs.Meanings.{VectorMeaning}
use Rattle.hankboulder.proofs.Codes.{vector-means}
use Rattle.hankboulder.proofs.hb_test_vector.Goals as goal

pub returns : goal.returns
unfolding test_vector_entry vector_act
returns c =
    let a = c.args in
    exactly (VectorMeaning a.n a.low.now a.high.now a.vector.now) (vector-means a.n a.low.now a.high.now a.vector.now) _
    (rw (clean_element c.answer_code.result c.answer_code.type_inv)
    (c.answer_code.ensures ∙ ap (answer_code yes_or_no_code) (rw (clean c.ranges.n) at c.test_vector.ensures.exact)))
