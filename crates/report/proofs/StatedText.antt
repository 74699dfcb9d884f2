-- The text of the answers that the code holds is that of the problem.
use mathlib.Core.Path.{◌≡◌, sym, ap, ap₂}
use mathlib.Core.List.{List, ◌++◌}
use Prim.Native.Nat.{ℕ}
use Rattle.tables.specs.declared.problem.Problem.{Problem}
use Rattle.report.specs.declared.answers.Answers.{Answers}
use Rattle.report.specs.Answers.{Answered, answers_text}
use Rattle.report.specs.Lines.{verdict_text, box_text}
use Rattle.report.specs.Report.{problem_text}

pub answers_text_lem : {p : Problem} {a : Answers} → Answered p a → problem_text p ≡ answers_text p.constraint.order a
unfolding problem_text answers_text
answers_text_lem {p} h =
    let n = p.constraint.order in
    ap₂ (λ (v b : List ℕ). v ++ b) (ap (verdict_text n) h.verdict.verdict) (ap (box_text n) (sym h.box))
