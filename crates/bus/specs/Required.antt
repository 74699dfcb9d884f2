-- What the code of a start and of a tick asks and leaves.
use Rattle.std.specs.Prelude.{◌≡◌, true, false, List, ℕ, suc, ◌≤◌, ℤ, Result, Ok, Err}
use Rattle.tables.specs.Checks.{Checked, order_of, first_refusal, table_checks}
use Rattle.tables.specs.Entering.{Rooms, Held, entered}
use Rattle.tables.specs.declared.Refusal.{Refusal}
use Rattle.buffers.specs.Buffers.{table_of}
use Rattle.cholesky.specs.Factoring.{Column}
use Rattle.cholesky.specs.Store.{column_of}
use Rattle.cholesky.specs.Columns.{Step}
use Rattle.bus.specs.Bus.{tables_sized}

-- the order of a start, where n and the tables that l and u spell pass the checks 1 to 5, or else the first refusal
unfoldable pub admitted : ℤ → List ℕ → List ℕ → Result ℕ Refusal
admitted n l u = let k : ℕ = order_of n in entered Err n (tables_sized k l u) true (table_of k l) (table_of k u) (Ok k)

-- a stop in column j is after at most j rows
unfoldable pub StopsIn : ℕ → Step → Type 0
StopsIn j (Ok _) = Unit
StopsIn j (Err m) = m ≤ j

-- the column that a step tells of, as it stands in column j of t
unfoldable pub column_in : List ℤ → ℕ → Step → Column
column_in t j (Ok _) = record { done = true; column = column_of t j (suc j) }
column_in t j (Err m) = record { done = false; column = column_of t j m }

-- the answer r of checks 3 to 5 of the tables l and u of order n, and where nothing is refused their bounds in scratch tables
pub record TablesLoaded (n : ℕ) (l u : List ℤ) (r : Checked) (l' u' : List ℤ) : Type 0 where
  pub answered : r ≡ first_refusal (table_checks n l u)
  pub rooms : Rooms l' u'
  pub held : r ≡ Ok tt → Held n l u l' u'
