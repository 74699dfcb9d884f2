-- By what the reading found.
use Rattle.std.proofs.Common.{sym, ◌∙◌, arith}
use Rattle.report.proofs.StatedText.{answers_text_lem}
use Rattle.report.proofs.Printed.{printed-problem, printed-refused, output_is}
use Rattle.report.proofs.report.report.Goals as goal

pub work_out-requires : goal.work_out-requires
work_out-requires c = c.read.ensures.meaning.through c.in-Ok.is

pub put_answers-length-requires : goal.put_answers-length-requires
put_answers-length-requires c =
    ((c.read.ensures.meaning.through c.in-Ok.is).rooms.order, omega arith)

pub returns-in-Ok : goal.returns-in-Ok
returns-in-Ok c =
    output_is _ (printed-problem _ (sym c.read.ensures.exact ∙ c.in-Ok.is) ∙ answers_text_lem c.work_out.ensures)
    c.put_answers-length.ensures (omega arith)

pub returns-in-Err : goal.returns-in-Err
returns-in-Err c =
    output_is _ (printed-refused _ (sym c.read.ensures.exact ∙ c.in-Err.is)) c.put_refused-length.ensures (omega arith)
