-- The box act, R5.5 and R14 of docs/RULES.md: what it answers, what it writes, and what its answer means (D3.3, D3.4).
use Rattle.std.specs.Prelude.{◌≡◌, Bool, true, ◌&&◌, List, ℕ, ◌+◌, ◌*◌, eqb, ℤ, pos, negsuc, length, Result, Ok, Err}
use Rattle.tables.specs.Ranges.{greatest_order}
use Rattle.tables.specs.Matrix.{nth}
use Rattle.tables.specs.Checks.{order_of}
use Rattle.tables.specs.Answers.{answer_code}
use Rattle.tables.specs.Problem.{problem_of, lengths_of, constraint_sized}
use Rattle.tables.specs.declared.Refusal.{Refusal}
use Rattle.tables.specs.declared.problem.Constraint.{Constraint}
use Rattle.tables.specs.declared.problem.Sizes.{Sizes}
use Rattle.tables.specs.declared.problem.Lengths.{Lengths}
use Rattle.enclosure.specs.Box.{Box, sides, empty, refused, boxing}
use Rattle.enclosure.specs.Points.{Allowed, Contains}
use Rattle.enclosure.specs.declared.enclose.BoxAnswer.{BoxAnswer}

-- ---- the answer, and the buffer as it is left: a list of numbers, or of their bytes
pub record Enclosed (A : Type 0) : Type 0 where
  pub answer : Result BoxAnswer Refusal
  pub sides : A

-- R14.4, D1.3: only a box is written, and nothing on 'empty' and on a refusal. F lays the sides into a buffer.
abbrev pub laid_sides : {A : Type 0} → (List ℤ → A) → Box → A → Enclosed A
laid_sides F (sides s) b = record { answer = Ok BoxAnswer.Sides; sides = F s }
laid_sides F empty b = record { answer = Ok BoxAnswer.Empty; sides = b }
laid_sides F (refused r) b = record { answer = Err r; sides = b }

-- 2, R4.2: each lent buffer has the size that belongs to n: the constraint's, the centre's of a vector, and that of the sides
unfoldable pub box_sizes : Sizes → ℕ → Lengths → ℕ → ℕ → Bool
box_sizes z pairs lengths c s = constraint_sized z lengths && (eqb c z.vector && eqb s pairs)

-- the box of the numbers that buffers of any length hold, and a buffer that holds anything: so many numbers take `taken` elements,
-- `numbers` are those of a buffer, and `elements` those of a list of numbers
unfoldable pub box_act : {A : Type 0} → (ℕ → ℕ) → (List A → ℕ → List ℤ) → (List ℤ → ℕ → List A) → ℤ →
    List A → List A → List A → List A → ℤ → List A → List A → Enclosed (List A)
box_act taken numbers elements n l u a b α c s =
    let k : ℕ = order_of n in
    let z : Sizes = record { table = taken (k * k); vector = taken k } in
    let lengths : Lengths = lengths_of (length l) (length u) (length a) (length b) in
    laid_sides (λ x. elements x (k + k))
    (boxing n (box_sizes z (taken (k + k)) lengths (length c) (length s))
    (problem_of k (numbers l (k * k)) (numbers u (k * k)) (numbers a k) (numbers b k) α (numbers c k)))
    s

-- of numbers themselves
unfoldable pub enclose : ℤ → List ℤ → List ℤ → List ℤ → List ℤ → ℤ → List ℤ → List ℤ → Enclosed (List ℤ)
enclose n l u a b α c s = box_act (λ k. k) (λ x k. x) (λ x k. x) n l u a b α c s

-- R15.4: the number at the C entry, 0, -1, or the refusal's
abbrev pub box_number : BoxAnswer → ℤ
box_number BoxAnswer.Sides = pos 0
box_number BoxAnswer.Empty = negsuc 0

abbrev pub box_code : Result BoxAnswer Refusal → ℤ
box_code r = answer_code box_number r

-- ---- what an answer means of a constraint c; s is the buffer as it is left
pub record Meaning (r : Result BoxAnswer Refusal) (c : Constraint) (s : List ℤ) : Type 0 where
  -- D3.3: a box contains every point
  pub holds : r ≡ Ok BoxAnswer.Sides → (X : ℕ → ℤ) (p : ℤ) → Allowed c X p → Contains c.order s X p
  -- D3.4: 'empty', there is no point
  pub none : r ≡ Ok BoxAnswer.Empty → (X : ℕ → ℤ) (p : ℤ) → Allowed c X p → ⊥

-- ---- what the code leaves: where the buffers have their sizes, the numbers x stand in t
pub record Loaded (sized : Bool) (x t : List ℤ) : Type 0 where
  pub size : length t ≡ greatest_order
  pub numbers : sized ≡ true → nth t ≡ nth x
