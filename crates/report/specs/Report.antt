-- R19 of docs/RULES.md: what the program prints of a file.
use Rattle.std.specs.Prelude.{List, ◌++◌, ℕ, ◌+◌, ◌-◌, length, replicate, Ok, Err}
use Rattle.tables.specs.Entering.{low_bounds, high_bounds}
use Rattle.tables.specs.declared.problem.Problem.{Problem}
use Rattle.verdict.specs.Judge.{Judgement, judged}
use Rattle.enclosure.specs.Box.{problem_box}
use Rattle.summary.specs.Problems.{Reading, reading}
use Rattle.text.specs.Text.{ascii}
use Rattle.report.specs.declared.report.Output.{Output}
use Rattle.report.specs.Lines.{numbered, verdict_text, verdict_room, box_text, box_room}

-- the verdict on the bounds of a problem that passed the checks; its box is `problem_box`
unfoldable pub problem_verdict : Problem → Judgement
problem_verdict p = let c = p.constraint in judged c.order (low_bounds c.order c.low) (high_bounds c.order c.high)

-- R19.4: the lines of the verdict, and behind them those of the box
unfoldable pub problem_text : Problem → List ℕ
problem_text p = let n = p.constraint.order in verdict_text n (problem_verdict p) ++ box_text n (problem_box p)

-- R19.2: the file's refusal, or the lines of its problem
unfoldable pub reading_text : Reading → List ℕ
reading_text (Ok p) = problem_text p
reading_text (Err r) = numbered (ascii "refused") r

-- what the program prints of a file
unfoldable pub printed : List ℕ → List ℕ
printed s = reading_text (reading s)

-- the size of the program's buffer: room for a verdict and a box
abbrev pub report_room : ℕ
report_room = verdict_room + box_room

unfoldable pub report : List ℕ → Output
report s = record { text = printed s ++ replicate (report_room - length (printed s)) 0; length = length (printed s) }
