-- By the verdict.
use Rattle.std.proofs.Common.{arith}
use Rattle.integers.proofs.Machine.{clean_element}
use Rattle.verdict.specs.Deciding.{stated}
use Rattle.text.proofs.Puts.{put-within}
use Rattle.report.specs.Answers.{judgement_of}
use Rattle.report.specs.Lines.{verdict_text}
use Rattle.report.proofs.lines.put_verdict.Goals as goal

pub returns-in-Ok-Definite : goal.returns-in-Ok-Definite
unfolding stated judgement_of verdict_text
returns-in-Ok-Definite c =
    rw (c.in-Ok-Definite.is, rw c.in-Ok-Definite.is at c.in-Ok-Definite.field-0-is, ← clean_element c.in-Ok-Definite.over (omega arith))
    c.put_factor.ensures

pub returns-in-Ok-NotDefinite : goal.returns-in-Ok-NotDefinite
unfolding stated judgement_of verdict_text
returns-in-Ok-NotDefinite c =
    rw (c.in-Ok-NotDefinite.is, rw c.in-Ok-NotDefinite.is at c.in-Ok-NotDefinite.field-0-is) c.put_vector.ensures

pub returns-in-Ok-Undecided : goal.returns-in-Ok-Undecided
unfolding stated judgement_of verdict_text
returns-in-Ok-Undecided c =
    rw (c.in-Ok-Undecided.is, rw c.in-Ok-Undecided.is at c.in-Ok-Undecided.field-0-is) (put-within c.put_text.ensures (omega arith))

pub returns-in-Err : goal.returns-in-Err
unfolding judgement_of verdict_text
returns-in-Err c = rw c.in-Err.is (put-within c.put_refused.ensures (omega arith))
