-- The steps of some problems: what the rules give, beside what was worked out apart from them.
use mathlib.Core.Path.{◌≡◌, refl}
use mathlib.Core.List.{List, [], ◌∷◌, map}
use Prim.Native.Nat.{ℕ}
use lib.IntN.{ℤ, pos, negsuc}
use Rattle.integers.specs.Sum.{sum, only}
use Rattle.integers.specs.Division.{floor_div}
use Rattle.integers.specs.Root.{whole_root, root_within}
use Rattle.tables.specs.Matrix.{at, tabulate, row_width}
use Rattle.tables.specs.Checks.{all, within}
use Rattle.cholesky.specs.Scale.{scaled_by, take_off}
use Rattle.cholesky.specs.Factoring.{factoring, columns_from, next_column, rows, goes_on, next_entry, entries}
use Rattle.steps.specs.Steps.{lowered, trial, bits, step, step_at}

-- t, and t(k) for each k
record Line : Type 0 where
  order : ℕ
  low : List ℤ
  high : List ℤ
  expected : List ℤ

abbrev rules : Line → List ℤ
rules l =
    let n : ℕ = l.order in
    step n (at n l.low) (at n l.high) ∷ tabulate n (step_at n (at n l.low) (at n l.high))

-- L = U
abbrev thin : ℕ → List ℤ → List ℤ → Line
thin n t s = record { order = n; low = t; high = t; expected = s }

abbrev lines : List Line
lines =
    thin 1 (pos 1 ∷ []) (pos 0 ∷ pos 0 ∷ [])
    ∷ thin 1 (pos 4 ∷ []) (pos 3 ∷ pos 3 ∷ [])
    ∷ thin 1 (pos 1048576 ∷ []) (pos 1048575 ∷ pos 1048575 ∷ [])
    ∷ thin 2 (pos 2 ∷ pos 1 ∷ pos 1 ∷ pos 2 ∷ []) (pos 0 ∷ pos 1 ∷ pos 1 ∷ [])
    ∷ record {
      order = 2;
      low = pos 10 ∷ negsuc 2 ∷ negsuc 2 ∷ pos 7 ∷ [];
      high = pos 12 ∷ negsuc 1 ∷ negsuc 1 ∷ pos 9 ∷ [];
      expected = pos 4 ∷ pos 8 ∷ pos 5 ∷ [];
    }
    -- t(3) may be below t
    ∷ thin 3 (pos 609851 ∷ pos 712448 ∷ pos 1296 ∷ pos 712448 ∷ pos 834162 ∷ pos 1529 ∷ pos 1296 ∷ pos 1529 ∷ pos 4 ∷ [])
    (pos 1 ∷ pos 1265 ∷ pos 1656 ∷ pos 0 ∷ [])
    ∷ []

as_printed : map rules lines ≡ map (λ (l : Line). l.expected) lines
unfolding step step_at bits trial lowered all within factoring columns_from next_column rows goes_on next_entry entries scaled_by take_off
    at tabulate row_width sum only floor_div whole_root root_within
as_printed = refl
