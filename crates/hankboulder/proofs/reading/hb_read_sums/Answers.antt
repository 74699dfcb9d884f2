use mathlib.Core.Path.{ap}
use Rattle.integers.proofs.Machine.{clean, clean_element}
use Rattle.tables.proofs.Answers.{exactly}
use Rattle.rides.specs.Reading.{reading_code}
use Rattle.sums_buffers.specs.SumsBuffers.{ReadOut}
use Rattle.hankboulder.specs.Entries.{ReadResult, read_stored, read_entry}
use Rattle.hankboulder.specs.Meanings.{ReadMeaning}
use Rattle.hankboulder.proofs.SumsRead.{read-means}
use Rattle.hankboulder.proofs.reading.hb_read_sums.Goals as goal

-- an answer's number, and the buffer
abbrev numbered : ReadOut → ReadResult
numbered j = record { number = reading_code j.answer; limit = j.limit }

pub returns : goal.returns
unfolding read_entry read_stored
returns c =
    let a = c.args in
    exactly (λ (j : ReadResult). ReadMeaning a.n a.low.now a.high.now a.linear_low.now a.linear_high.now a.running_limit a.allowance j.number j.limit)
    (read-means a.n a.low.now a.high.now a.linear_low.now a.linear_high.now a.running_limit a.allowance a.limit.now) _
    (rw (clean_element c.answer_code.result c.answer_code.type_inv, c.answer_code.ensures) (ap numbered (rw (clean c.ranges.n, clean c.ranges.running_limit, clean c.ranges.allowance) at c.read_sums.ensures)))
