-- What the code states of a decision, with the factor that it leaves.
use Rattle.std.specs.Prelude.{◌≡◌, List, Option, Some, None, ℕ, ◌*◌, ℤ, length}
use Rattle.tables.specs.Matrix.{nth, tabulate}
use Rattle.verdict.specs.Judge.{Judgement, definite, not_definite, undecided}
use Rattle.verdict.specs.declared.judge.Decision.{Decision}

-- the factor that the first n² numbers of f are, or the first n entries of the vector
unfoldable pub stated : ℕ → Decision → List ℤ → Judgement
stated n (Decision.Definite w) f = definite (tabulate (n * n) (nth f)) w
stated n (Decision.NotDefinite x) f = not_definite (tabulate n (nth x))
stated n Decision.Undecided f = undecided

-- the decision where factoring stopped, by the vector that was found
unfoldable pub shown_decision : Option (List ℤ) → Decision
shown_decision (Some x) = Decision.NotDefinite x
shown_decision None = Decision.Undecided

-- what a decision leaves of a lent f₀: the numbers of f where it is 'definite', and else f₀ itself
unfoldable pub left_by : Decision → List ℤ → List ℤ → List ℤ
left_by (Decision.Definite w) f₀ f = f
left_by (Decision.NotDefinite x) f₀ f = f₀
left_by Decision.Undecided f₀ f = f₀

-- the judgement is the one that the code states, and f is what it leaves of f₀
pub record Decided (g : Judgement) (n : ℕ) (r : Decision) (f₀ f : List ℤ) : Type 0 where
  pub verdict : g ≡ stated n r f
  pub left : f ≡ left_by r f₀ f
  pub room : length f ≡ length f₀
