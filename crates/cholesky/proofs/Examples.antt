-- Where factoring stops on worked cases of docs/RULES.md, and W22: what the definitions give, beside what is expected.
-- The starred cases, the factors among them, are one list, in crate starred.
use mathlib.Core.Path.{◌≡◌, refl}
use mathlib.Core.Bool.{true, false}
use mathlib.Core.List.{List, [], ◌∷◌, map}
use Prim.Native.Nat.{ℕ, suc}
use lib.IntN.{ℤ, pos, negsuc}
use lib.ListN.{length}
use Rattle.integers.specs.Sum.{sum, only}
use Rattle.integers.specs.Division.{floor_div}
use Rattle.integers.specs.Root.{whole_root, root_within}
use Rattle.tables.specs.Matrix.{at, table, tabulate, row_width}
use Rattle.tables.specs.Checks.{within}
use Rattle.cholesky.specs.Scale.{scaled_by, take_off}
use Rattle.cholesky.specs.Factoring.{Factoring, factored, factoring, columns_from, next_column, rows, goes_on, next_entry, entries}

-- the factor's table, or the column and the last row of a stop, both counted from 1, and 0 for no row
data Outcome : Type 0 where
  ends : List ℤ → Outcome
  stops : ℕ → ℕ → Outcome

record Line : Type 0 where
  order : ℕ
  low : List ℤ
  high : List ℤ
  expected : Outcome

abbrev outcome : Line → Outcome
outcome l =
    let f : Factoring = factored l.order (at l.order l.low) (at l.order l.high) in
    elim f.ends [ true ↦ ends (table l.order (entries f.columns)) | false ↦ stops (suc (length f.columns)) (length f.stopped) ]

-- L = U
abbrev thin : ℕ → List ℤ → Outcome → Line
thin n t o = record { order = n; low = t; high = t; expected = o }

abbrev lines : List Line
lines =
    thin 1 (pos 0 ∷ []) (stops 1 0)
    ∷ record { order = 1; low = pos 0 ∷ []; high = pos 5 ∷ []; expected = stops 1 0 }
    ∷ thin 2 (pos 1 ∷ pos 2 ∷ pos 2 ∷ pos 1 ∷ []) (stops 2 1)
    ∷ thin 2 (pos 1 ∷ pos 1 ∷ pos 1 ∷ pos 1 ∷ []) (stops 2 1)
    ∷ thin 2 (pos 1 ∷ pos 1000 ∷ pos 1000 ∷ pos 10000 ∷ []) (stops 2 1)
    ∷ thin 2 (pos 1 ∷ pos 3 ∷ pos 3 ∷ pos 10 ∷ []) (stops 2 1)
    ∷ thin 2 (pos 2 ∷ negsuc 0 ∷ negsuc 0 ∷ pos 2 ∷ []) (ends (pos 89738 ∷ negsuc 47861 ∷ pos 0 ∷ pos 75909 ∷ []))
    ∷ []

as_printed : map outcome lines ≡ map (λ (l : Line). l.expected) lines
unfolding factoring columns_from next_column rows goes_on next_entry entries scaled_by take_off at table tabulate row_width within sum only floor_div whole_root root_within
as_printed = refl
