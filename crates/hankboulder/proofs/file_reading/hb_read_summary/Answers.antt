use native.Mathlib.Omega.{arith}
use Rattle.integers.proofs.Machine.{clean_element}
use Rattle.words.proofs.Laws.{AllBytes}
use Rattle.file_buffers.specs.Parts.{parts, Handed}
use Rattle.hankboulder.proofs.SummaryRead.{read_summary_exactly}
use Rattle.hankboulder.proofs.file_reading.hb_read_summary.Goals as goal

pub returns : goal.returns
returns c =
    let a = c.args in
    let o = c.read_summary.new in
    let h : Handed = record { answer = c.read_summary.result; parts = parts o.order o.low o.high o.from o.to o.limit o.centre } in
    -- the file's elements are bytes
    let bytes : AllBytes a.file.now = record { each = λ i. omega (arith, c.shared_slice_known-1.given i) } in
    rw (clean_element c.answer_code.result c.answer_code.type_inv, c.answer_code.ensures)
    (read_summary_exactly a.file.now (parts a.order.now a.low.now a.high.now a.linear_low.now a.linear_high.now a.limit.now a.centre.now) bytes {h = h} c.read_summary.ensures)
