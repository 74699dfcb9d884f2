-- W73 to W78, W80 to W82 and W84 to W88 of docs/RULES.md, computed on the definitions: a bus is shown by its registers 0 to 6.
use mathlib.Core.Path.{◌≡◌, refl}
use mathlib.Core.List.{List, [], ◌∷◌}
use Prim.Native.Nat.{ℕ}
use lib.IntN.{ℤ, pos}
use lib.ListN.{take}
use Rattle.words.specs.Numbers.{numbers_of, bytes_of, signed_at, unsigned_at, from_le_bytes, to_le_bytes}
use Rattle.integers.specs.Sum.{sum, only}
use Rattle.integers.specs.Division.{floor_div}
use Rattle.integers.specs.Root.{whole_root, root_within}
use Rattle.integers.specs.Numbers.{min_ℤ, max_ℤ}
use Rattle.tables.specs.Matrix.{at, table, tabulate, row_width}
use Rattle.tables.specs.Mending.{mended_by}
use Rattle.tables.specs.Checks.{all, same, first_refusal, order_ok, order_of, within, all_within, nowhere_crossed, tables_within}
use Rattle.tables.specs.Checks.{entry_checks, bounds_checks}
use Rattle.tables.specs.Answers.{after}
use Rattle.tables.specs.Entering.{entered}
use Rattle.tables.specs.declared.Refusal.TheVariants.{Length, Busy}
use Rattle.std.specs.Prelude.{Ok, Err}
use Rattle.cholesky.specs.Scale.{scaled_by, take_off}
use Rattle.cholesky.specs.Factoring.{entries, next_entry, goes_on, rows, next_column}
use Rattle.cholesky.specs.Store.{upper, column_of, columns_of}
use Rattle.vectors.specs.Least.{least_member, least_value, nonzero, shows}
use Rattle.tried.specs.Tried.{tried, first}
use Rattle.solved.specs.Solved.{stopped_factor, solved_entry, solved_rows, solved}
use Rattle.solved.specs.Stopped.{stopped_at}
use Rattle.tables.specs.Matrix.{form}
use Rattle.bus.specs.Registers.{writable, reset_block, put, is_busy, raised, cleared, started_block, refused_block, settled_block}
use Rattle.bus.specs.Registers.{is_raised}
use Rattle.bus.specs.Area.{blank_area, blank_bytes, table_at, columns_to, laid_over, laid_column, laid_columns, begun_area}
use Rattle.bus.specs.Running.{Bus, factor_columns, column_safe, passes, stop_safe, search_safe, column_work, search_work, work_at, work_of}
use Rattle.bus.specs.Running.{settled, search_verdict, column_taken, listed_shows, worked}
use Rattle.bus.specs.Bus.{tables_sized, refused_start, begun_start, started, start, reset_bus, commanded, written_at, written, ticked}
use Rattle.bus.specs.Bus.{bus_sized, where_sized, write, line}
use Rattle.bus.specs.declared.line.Line.TheVariants as Line

-- tables of numbers of 8 bytes below 256
abbrev spelled : List ℕ → List ℕ
spelled [] = []
spelled (x ∷ xs) = x ∷ 0 ∷ 0 ∷ 0 ∷ 0 ∷ 0 ∷ 0 ∷ 0 ∷ spelled xs

-- a write without tables; the bus of zeros with order n, and a start with a thin table
abbrev put_in : Bus → ℤ → ℕ → Bus
put_in s k v = (written s k v [] []).bus

abbrev begun : ℕ → List ℕ → Bus
begun n m = (written (put_in reset_bus (pos 6) n) (pos 0) 1 (spelled m) (spelled m)).bus

abbrev shown : Bus → List ℕ
shown s = take 7 s.block

-- [1] and [1 3; 3 10]
abbrev one : Bus
one = begun 1 (1 ∷ [])

abbrev two : Bus
two = begun 2 (1 ∷ 3 ∷ 3 ∷ 10 ∷ [])

worked_cases :
    -- W73
    (shown one ≡ 0 ∷ 1 ∷ 0 ∷ 0 ∷ 0 ∷ 1 ∷ 1 ∷ []) × (shown (ticked one) ≡ 0 ∷ 2 ∷ 0 ∷ 1 ∷ 0 ∷ 3 ∷ 1 ∷ [])
    -- W74
    × (shown (ticked (ticked two)) ≡ 0 ∷ 1 ∷ 0 ∷ 0 ∷ 0 ∷ 1 ∷ 2 ∷ [])
    × (shown (ticked (ticked (ticked two))) ≡ 0 ∷ 2 ∷ 0 ∷ 3 ∷ 0 ∷ 3 ∷ 2 ∷ [])
    -- W75
    × (shown (ticked (begun 1 (0 ∷ []))) ≡ 0 ∷ 1 ∷ 0 ∷ 0 ∷ 0 ∷ 1 ∷ 1 ∷ [])
    × (shown (ticked (ticked (begun 1 (0 ∷ [])))) ≡ 0 ∷ 2 ∷ 0 ∷ 2 ∷ 0 ∷ 3 ∷ 1 ∷ [])
    -- W76 and W77
    × (shown (begun 0 (1 ∷ [])) ≡ 0 ∷ 4 ∷ 1 ∷ 0 ∷ 0 ∷ 4 ∷ 0 ∷ []) × (shown (begun 2 (1 ∷ [])) ≡ 0 ∷ 4 ∷ 2 ∷ 0 ∷ 0 ∷ 4 ∷ 2 ∷ [])
    -- W78
    × (written one (pos 0) 1 (spelled (0 ∷ [])) (spelled (0 ∷ [])) ≡ record { answer = Err Busy; bus = one })
    -- W80 and W81
    × (shown (put_in (ticked one) (pos 5) 0) ≡ 0 ∷ 2 ∷ 0 ∷ 1 ∷ 0 ∷ 3 ∷ 1 ∷ [])
    × (shown (put_in (ticked one) (pos 5) 1) ≡ 0 ∷ 2 ∷ 0 ∷ 1 ∷ 0 ∷ 2 ∷ 1 ∷ [])
    × (line (put_in (ticked one) (pos 4) 2).block ≡ Ok Line.Raised)
    × (line (put_in (put_in (ticked one) (pos 4) 2) (pos 5) 2).block ≡ Ok Line.Low)
    -- W82 and W84
    × (put_in (ticked two) (pos 0) 2 ≡ reset_bus) × (ticked (put_in reset_bus (pos 1) 1) ≡ reset_bus)
    -- W85 and W86
    × (shown (put_in (begun 0 (1 ∷ [])) (pos 5) 4) ≡ 0 ∷ 4 ∷ 1 ∷ 0 ∷ 0 ∷ 0 ∷ 0 ∷ [])
    × (shown (put_in (put_in (begun 0 (1 ∷ [])) (pos 5) 4) (pos 0) 1) ≡ 0 ∷ 4 ∷ 1 ∷ 0 ∷ 0 ∷ 4 ∷ 0 ∷ [])
    × (shown (written (put_in (ticked one) (pos 4) 2) (pos 0) 1 (spelled (1 ∷ [])) (spelled (1 ∷ []))).bus ≡ 0 ∷ 1 ∷ 0 ∷ 0 ∷ 2 ∷ 3 ∷ 1 ∷ [])
    -- W87 and W88
    × ((write (take 31 one.block) one.run (pos 0) 1 [] []).answer ≡ Err Length)
    × (shown (ticked (put_in two (pos 5) 1)) ≡ 0 ∷ 1 ∷ 0 ∷ 0 ∷ 0 ∷ 0 ∷ 2 ∷ [])
unfolding write where_sized bus_sized written written_at commanded writable put start is_busy reset_bus reset_block started entered
    tables_sized refused_start begun_start started_block refused_block settled_block cleared raised is_raised line ticked work_of work_at
    column_work search_work factor_columns column_safe passes stop_safe search_safe settled search_verdict column_taken listed_shows
    worked blank_area blank_bytes table_at columns_to laid_over laid_column laid_columns begun_area numbers_of bytes_of signed_at
    unsigned_at from_le_bytes to_le_bytes after first_refusal order_ok order_of entry_checks bounds_checks within all_within
    nowhere_crossed tables_within mended_by all at table tabulate row_width scaled_by take_off entries next_entry goes_on rows next_column
    upper column_of columns_of least_member least_value nonzero shows tried first stopped_factor solved_entry solved_rows solved
    stopped_at form sum only floor_div whole_root root_within min_ℤ max_ℤ same
worked_cases = (refl, refl, refl, refl, refl, refl, refl, refl, refl, refl, refl, refl, refl, refl, refl, refl, refl, refl, refl, refl)
