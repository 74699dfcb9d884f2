use mathlib.Core.Path.{ap}
use Rattle.integers.proofs.Machine.{clean, clean_element}
use Rattle.tables.proofs.Answers.{exactly}
use Rattle.verdict.specs.Judge.{verdict_code}
use Rattle.buffers.specs.Buffers.{StoredVerdict}
use Rattle.hankboulder.specs.Entries.{JudgeResult, judge_stored, judge_entry}
use Rattle.hankboulder.specs.Meanings.{JudgeMeaning}
use Rattle.hankboulder.proofs.Judging.{judge-means}
use Rattle.hankboulder.proofs.hb_judge.Goals as goal

-- a verdict's number, and the buffers
abbrev numbered : StoredVerdict → JudgeResult
numbered j = record { number = verdict_code j.verdict; factor = j.factor; vector = j.vector; over = j.over }

pub returns : goal.returns
unfolding judge_entry judge_stored
returns c =
    let a = c.args in
    exactly (λ (j : JudgeResult). JudgeMeaning a.n a.low.now a.high.now j.number j.factor j.vector j.over)
    (judge-means a.n a.low.now a.high.now a.factor.now a.vector.now a.over.now) _
    (rw (clean_element c.answer_code.result c.answer_code.type_inv, c.answer_code.ensures) (ap numbered (rw (clean c.ranges.n) at c.judge.ensures)))
