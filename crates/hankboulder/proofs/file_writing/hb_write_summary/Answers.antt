use native.Mathlib.Omega.{arith}
use Rattle.integers.proofs.Machine.{clean, clean_element}
use Rattle.writer.specs.Writing.{Written}
use Rattle.file_buffers.specs.Filing.{write_summary}
use Rattle.hankboulder.proofs.SummaryWritten.{Bytes, write_summary_exactly}
use Rattle.hankboulder.proofs.file_writing.hb_write_summary.Goals as goal

pub returns : goal.returns
unfolding write_summary
returns c =
    let a = c.args in
    let h : Written = record { answer = c.write.result; file = c.write.new.file } in
    -- the elements of the buffers of the linear terms and of the centre are bytes
    let lent : Bytes a.linear_low.now a.linear_high.now a.centre.now = record {
      from = record { each = λ i. omega (arith, c.shared_slice_known-3-1.given i) };
      to = record { each = λ i. omega (arith, c.shared_slice_known-4-1.given i) };
      centre = record { each = λ i. omega (arith, c.shared_slice_known-5-1.given i) };
    } in
    rw (clean_element c.answer_code.result c.answer_code.type_inv, c.answer_code.ensures)
    (write_summary_exactly a.n a.low.now a.high.now a.linear_low.now a.linear_high.now a.limit a.centre.now a.file.now lent {h = h}
    (rw (clean c.ranges.n, clean c.ranges.limit) at c.write.ensures.exact))
