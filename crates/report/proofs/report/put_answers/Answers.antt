use native.Mathlib.Omega.{arith}
use Rattle.std.specs.Prelude.{Ok}
use Rattle.text.proofs.Puts.{put-within, put_then}
use Rattle.report.specs.Lines.{verdict_text}
use Rattle.report.specs.Answers.{judgement_of, answers_text}
use Rattle.report.proofs.report.put_answers.Goals as goal

pub returns : goal.returns
unfolding answers_text judgement_of
returns c =
    let a = c.args.answers in
    let verdict = verdict_text c.args.n (judgement_of c.args.n (Ok a.decision) a.factor) in
    put-within (put_then {t = verdict} c.put_verdict-next.ensures (omega arith) c.put_box.ensures) (omega arith)
