-- R28 of docs/RULES.md: the four acts on a bus, of any bytes at all: what they answer, and the block and the run area as they leave them.
use Rattle.std.specs.Prelude.{Bool, true, false, ◌&&◌, List, ℕ, ◌*◌, eqb, ℤ, pos, negsuc, nat_abs, length, set, Result, Ok, Err}
use Rattle.std.specs.Int.Bits.{bit_and}
use Rattle.std.specs.Int.Signed.{le_z, lt_z}
use Rattle.std.specs.Int.{w64}
use mir.Val.{bytes}
use Rattle.tables.specs.Mending.{mended_low, mended_high}
use Rattle.tables.specs.Refusals.{refusal_number}
use Rattle.tables.specs.Checks.{Checked, order_of}
use Rattle.tables.specs.Answers.{answer_code}
use Rattle.tables.specs.Entering.{entered}
use Rattle.tables.specs.declared.Refusal.{Refusal}
use Rattle.tables.specs.declared.Refusal.TheVariants.{Length, Busy}
use Rattle.buffers.specs.Buffers.{table_of}
use Rattle.bus.specs.Registers.{block_bytes, command, start_command, reset_command, order, register, writable, read_at, put}
use Rattle.bus.specs.Registers.{reset_block, is_busy, started_block, refused_block, is_raised}
use Rattle.bus.specs.Area.{run_bytes, area_of, area_bytes, blank_bytes, begun_area}
use Rattle.bus.specs.Running.{Bus, work_of, worked}
use Rattle.bus.specs.declared.line.Line.{Line}

-- what a write or a tick answers, and the bus as it leaves it
pub record Moved : Type 0 where
  pub answer : Checked
  pub bus : Bus

-- ---- R28.5: a start, with the tables that l and u spell
-- tables of order n have n² numbers of 8 bytes each
unfoldable pub tables_sized : ℕ → List ℕ → List ℕ → Bool
tables_sized n l u = eqb (length l) (n * n * bytes w64) && eqb (length u) (n * n * bytes w64)

unfoldable pub refused_start : List ℕ → Refusal → Bus
refused_start b r = record { block = refused_block (refusal_number r) b; run = blank_bytes }

unfoldable pub begun_start : List ℕ → ℕ → List ℕ → List ℕ → Bus
begun_start b n l u =
    record { block = started_block b; run = area_bytes (begun_area n (mended_low n (table_of n l)) (mended_high n (table_of n u))) }

-- where busy is not up: the judge's checks, with n = register 6
unfoldable pub started : List ℕ → List ℕ → List ℕ → Bus
started b l u =
    let n : ℤ = pos (register b order) in
    let k : ℕ = order_of n in
    entered (refused_start b) n (tables_sized k l u) true (table_of k l) (table_of k u) (begun_start b k l u)

unfoldable pub start : Bus → List ℕ → List ℕ → Moved
start s l u =
    elim (is_busy s.block) [
      | true ↦ record { answer = Err Busy; bus = s }
      | false ↦ record { answer = Ok tt; bus = started s.block l u }
    ]

-- R28.6
unfoldable pub reset_bus : Bus
reset_bus = record { block = reset_block; run = blank_bytes }

-- ---- R28.4: a write
unfoldable pub commanded : Bus → ℕ → List ℕ → List ℕ → Moved
commanded s c l u =
    elim (eqb c start_command) [
      | true ↦ start s l u
      | false ↦ record { answer = Ok tt; bus = elim (eqb c reset_command) [ true ↦ reset_bus | false ↦ s ] }
    ]

unfoldable pub written_at : Bus → ℕ → ℕ → List ℕ → List ℕ → Moved
written_at s k v l u =
    elim (eqb k command) [
      | true ↦ commanded s (bit_and v (writable command)) l u
      | false ↦ record {
        answer = Ok tt;
        bus = record { block = set s.block k (put k (register s.block k) v); run = s.run };
      }
    ]

-- of a bus whose block and run area have their sizes
unfoldable pub written : Bus → ℤ → ℕ → List ℕ → List ℕ → Moved
written s k v l u =
    elim (le_z (pos 0) k && lt_z k (pos block_bytes)) [
      | true ↦ written_at s (nat_abs k) v l u
      | false ↦ record { answer = Ok tt; bus = s }
    ]

-- ---- R28.9: a tick, of such a bus
unfoldable pub ticked : Bus → Bus
ticked s = elim (is_busy s.block) [ true ↦ worked s.block s.run (work_of (area_of s.run)) | false ↦ s ]

-- ---- the acts, of anything at all: R28.12 comes first
unfoldable pub bus_sized : List ℕ → List ℕ → Bool
bus_sized b s = eqb (length b) block_bytes && eqb (length s) run_bytes

unfoldable pub where_sized : List ℕ → List ℕ → Moved → Moved
where_sized b s m = elim (bus_sized b s) [ true ↦ m | false ↦ record { answer = Err Length; bus = record { block = b; run = s } } ]

unfoldable pub write : List ℕ → List ℕ → ℤ → ℕ → List ℕ → List ℕ → Moved
write b s k v l u = where_sized b s (written (record { block = b; run = s }) k v l u)

unfoldable pub tick : List ℕ → List ℕ → Moved
tick b s = where_sized b s (record { answer = Ok tt; bus = ticked (record { block = b; run = s }) })

-- what a read answers, and the buffer of its byte as it leaves it
pub record ReadBack : Type 0 where
  pub answer : Checked
  pub value : List ℕ

unfoldable pub read : List ℕ → ℤ → List ℕ → ReadBack
read b k x =
    elim (eqb (length b) block_bytes && eqb (length x) 1) [
      | true ↦ record { answer = Ok tt; value = set x 0 (read_at b k) }
      | false ↦ record { answer = Err Length; value = x }
    ]

unfoldable pub line : List ℕ → Result Line Refusal
line b =
    elim (eqb (length b) block_bytes) [
      | true ↦ elim (is_raised b) [ true ↦ Ok Line.Raised | false ↦ Ok Line.Low ]
      | false ↦ Err Length
    ]

-- ---- R15.8: the line's number at the C entry
abbrev pub line_number : Line → ℤ
line_number Line.Low = pos 0
line_number Line.Raised = negsuc 0

abbrev pub line_code : Result Line Refusal → ℤ
line_code r = answer_code line_number r
