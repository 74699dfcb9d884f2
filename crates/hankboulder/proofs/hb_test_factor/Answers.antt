use mathlib.Core.Path.{ap}
use Rattle.integers.proofs.Machine.{clean, clean_element}
use Rattle.tables.proofs.Answers.{exactly}
use Rattle.residual.specs.FactorTest.{factor_code}
use Rattle.buffers.specs.Buffers.{StoredAnswer}
use Rattle.hankboulder.specs.Entries.{TestFactorResult, test_stored, test_factor_entry}
use Rattle.hankboulder.specs.Meanings.{FactorMeaning}
use Rattle.hankboulder.proofs.Codes.{factor-means}
use Rattle.hankboulder.proofs.hb_test_factor.Goals as goal

-- an answer's number, and the buffer
abbrev numbered : StoredAnswer → TestFactorResult
numbered j = record { number = factor_code j.answer; over = j.over }

pub returns : goal.returns
unfolding test_factor_entry test_stored
returns c =
    let a = c.args in
    exactly (λ (j : TestFactorResult). FactorMeaning a.n a.low.now a.high.now a.factor.now j.number j.over)
    (factor-means a.n a.low.now a.high.now a.factor.now a.over.now) _
    (rw (clean_element c.answer_code.result c.answer_code.type_inv, c.answer_code.ensures) (ap numbered (rw (clean c.ranges.n) at c.test_factor.ensures)))
