-- Solved vectors: what the definitions give, beside what docs/RULES.md (W9) and the second implementation give.
use mathlib.Core.Path.{◌≡◌, refl}
use mathlib.Core.Bool.{false}
use mathlib.Core.List.{List, [], ◌∷◌, map}
use Prim.Native.Nat.{ℕ}
use lib.IntN.{ℤ, pos, negsuc}
use Rattle.integers.specs.Sum.{sum, only}
use Rattle.integers.specs.Division.{floor_div}
use Rattle.integers.specs.Root.{whole_root, root_within}
use Rattle.tables.specs.Matrix.{at, tabulate, row_width}
use Rattle.tables.specs.Checks.{within}
use Rattle.cholesky.specs.Scale.{scaled_by, take_off}
use Rattle.cholesky.specs.Factoring.{Factoring, factored, factoring, columns_from, next_column, rows, goes_on, next_entry, entries}
use Rattle.solved.specs.Solved.{stopped_factor, solved_entry, solved_rows, solved}

record Line : Type 0 where
  order : ℕ
  stopped : Factoring
  s : ℤ
  expected : List (List ℤ)

-- a thin table, L = U
abbrev thin : ℕ → List ℤ → ℤ → List (List ℤ) → Line
thin n t s d = record { order = n; stopped = factored n (at n t) (at n t); s = s; expected = d }

-- the factor 2, and r beside it: T is r
abbrev half : ℤ → List (List ℤ) → Line
half r d = record { order = 2; stopped = record { ends = false; columns = (pos 2 ∷ []) ∷ []; stopped = r ∷ [] }; s = pos 1; expected = d }

abbrev lines : List Line
lines =
    thin 2 (pos 1 ∷ pos 1000 ∷ pos 1000 ∷ pos 10000 ∷ []) (pos 1) ((negsuc 1142 ∷ pos 1 ∷ []) ∷ [])
    ∷ thin 2 (pos 1 ∷ pos 1000 ∷ pos 1000 ∷ pos 10000 ∷ []) (pos 64) []
    -- exactly 2^15 stays, one more passes it
    ∷ thin 2 (pos 1 ∷ pos 28672 ∷ pos 28672 ∷ pos 1048576 ∷ []) (pos 1) ((negsuc 32767 ∷ pos 1 ∷ []) ∷ [])
    ∷ thin 2 (pos 1 ∷ negsuc 28671 ∷ negsuc 28671 ∷ pos 1048576 ∷ []) (pos 1) ((pos 32768 ∷ pos 1 ∷ []) ∷ [])
    ∷ thin 2 (pos 1 ∷ pos 28673 ∷ pos 28673 ∷ pos 1048576 ∷ []) (pos 1) []
    ∷ thin 2 (pos 1 ∷ negsuc 28672 ∷ negsuc 28672 ∷ pos 1048576 ∷ []) (pos 1) []
    ∷ thin 2 (pos 100 ∷ pos 37 ∷ pos 37 ∷ pos 13 ∷ []) (pos 64) ((negsuc 23 ∷ pos 64 ∷ []) ∷ [])
    -- rows below the last one, and columns after the stopping one, are 0
    ∷ thin 3 (pos 1 ∷ pos 0 ∷ pos 1000 ∷ pos 0 ∷ pos 1 ∷ pos 5 ∷ pos 1000 ∷ pos 5 ∷ pos 10000 ∷ []) (pos 1)
    ((negsuc 1142 ∷ pos 0 ∷ pos 1 ∷ []) ∷ [])
    ∷ thin 3 (pos 5 ∷ pos 1 ∷ pos 0 ∷ pos 1 ∷ pos 0 ∷ pos 0 ∷ pos 0 ∷ pos 0 ∷ pos 5 ∷ []) (pos 64) ((pos 0 ∷ pos 64 ∷ pos 0 ∷ []) ∷ [])
    -- a half: the quotient is rounded down, then the sign is put
    ∷ half (pos 1) ((negsuc 0 ∷ pos 1 ∷ []) ∷ [])
    ∷ half (negsuc 0) ((pos 0 ∷ pos 1 ∷ []) ∷ [])
    ∷ half (negsuc 1) ((pos 1 ∷ pos 1 ∷ []) ∷ [])
    ∷ half (pos 0) ((pos 0 ∷ pos 1 ∷ []) ∷ [])
    ∷ []

as_printed : map (λ (l : Line). solved l.order l.stopped l.s) lines ≡ map (λ (l : Line). l.expected) lines
unfolding solved solved_rows solved_entry stopped_factor factoring columns_from next_column rows goes_on next_entry entries scaled_by
    take_off at tabulate row_width within sum only floor_div whole_root root_within
as_printed = refl
