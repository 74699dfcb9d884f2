-- R19.3 and R19.4 of docs/RULES.md: the lines of a verdict and of a box.
use Rattle.std.specs.Prelude.{List, ◌++◌, ℕ, ◌+◌, ◌*◌, ℤ, pos}
use Rattle.tables.specs.Ranges.{greatest_order}
use Rattle.tables.specs.Refusals.{refusal_number}
use Rattle.tables.specs.declared.Refusal.{Refusal}
use Rattle.verdict.specs.Judge.{Judgement}
use Rattle.verdict.specs.Judge as Judge
use Rattle.sides.specs.Sides.{Box}
use Rattle.text.specs.Text.{ascii, line_room, line, lines}

-- a word and a refusal's number
unfoldable pub numbered : List ℕ → Refusal → List ℕ
numbered word r = line word (λ _. pos (refusal_number r)) 1

-- what the rows of the residual have over
abbrev pub over_text : ℤ → List ℕ
over_text w = line (ascii "over") (λ _. w) 1

-- R19.3: the verdict, with the rows of the factor and what the rows of its residual have over, or with the vector
unfoldable pub verdict_text : ℕ → Judgement → List ℕ
verdict_text n (Judge.definite t w) = ascii "definite\n" ++ (lines (ascii "row") t n n ++ over_text w)
verdict_text n (Judge.not_definite x) = ascii "not\n" ++ lines (ascii "vector") x n 1
verdict_text n Judge.undecided = ascii "undecided\n"
verdict_text n (Judge.refused r) = numbered (ascii "refused") r

-- R19.4: the box, a line to each side; or that it is empty or refused
unfoldable pub box_text : ℕ → Box → List ℕ
box_text n (Box.sides s) = lines (ascii "side") s 2 n
box_text n Box.empty = ascii "empty\n"
box_text n (Box.refused r) = numbered (ascii "box refused") r

-- ---- the bytes that lines take up at most
-- behind a word: one number, and the line's end
abbrev pub number_room : ℕ
number_room = line_room 0 1

-- 'definite', the rows of the greatest order, and the line behind them
abbrev pub verdict_room : ℕ
verdict_room = 9 + greatest_order * line_room 3 greatest_order + line_room 4 1

-- the sides of the greatest order
abbrev pub box_room : ℕ
box_room = greatest_order * line_room 4 2
