-- The answers to a problem as the code holds them, and their lines.
use Rattle.std.specs.Prelude.{◌≡◌, List, ◌++◌, ℕ, ℤ, pos, replicate, Result, Ok, Err}
use Rattle.tables.specs.Ranges.{table_room}
use Rattle.tables.specs.declared.problem.Problem.{Problem}
use Rattle.tables.specs.declared.Refusal.{Refusal}
use Rattle.verdict.specs.Judge.{Judgement, refused}
use Rattle.verdict.specs.declared.judge.Decision.{Decision}
use Rattle.verdict.specs.Deciding.{Decided}
use Rattle.verdict.specs.Deciding.{stated as stated_verdict}
use Rattle.enclosure.specs.Box.{problem_box}
use Rattle.enclosure.specs.Stating.{stated as stated_box}
use Rattle.report.specs.declared.answers.Answers.{Answers}
use Rattle.report.specs.Lines.{verdict_text, box_text}
use Rattle.report.specs.Report.{problem_verdict}

-- the verdict and the box of the problem p; the factor stands over zeros
pub record Answered (p : Problem) (a : Answers) : Type 0 where
  pub verdict : Decided (problem_verdict p) p.constraint.order a.decision (replicate table_room (pos 0)) a.factor
  pub box : stated_box p.constraint.order a.sides ≡ problem_box p

-- what is stated of a decision with the factor that it leaves, or of a refusal
unfoldable pub judgement_of : ℕ → Result Decision Refusal → List ℤ → Judgement
judgement_of n (Ok d) f = stated_verdict n d f
judgement_of n (Err r) f = refused r

-- the lines of answers of order n
unfoldable pub answers_text : ℕ → Answers → List ℕ
answers_text n a = verdict_text n (stated_verdict n a.decision a.factor) ++ box_text n (stated_box n a.sides)
