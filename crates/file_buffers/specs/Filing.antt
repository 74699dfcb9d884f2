-- R15 and R24 of docs/RULES.md: the problem that buffers of bytes spell, mended (R2.10) and written as a summary file.
use Rattle.std.specs.Prelude.{List, ◌++◌, ℕ, ◌-◌, ◌*◌, ℤ, length, take, replicate}
use Rattle.std.specs.Int.{w64}
use mir.Val.{bytes}
use Rattle.words.specs.Numbers.{numbers_of, bytes_of}
use Rattle.tables.specs.Ranges.{greatest_order, table_room}
use Rattle.tables.specs.Mending.{mended_low, mended_high}
use Rattle.tables.specs.Checks.{order_of}
use Rattle.writer.specs.Writing.{Written, write_act}
use Rattle.buffers.specs.Buffers.{table_of, bytes_of_number}
use Rattle.file_buffers.specs.Parts.{Parts, parts}

-- the writer's act, of the numbers that the buffers spell, into the buffer s
unfoldable pub write_summary : ℤ → List ℕ → List ℕ → List ℕ → List ℕ → ℤ → List ℕ → List ℕ → Written
write_summary n l u a b α c s = write_act (λ k. k * bytes w64) (numbers_of w64) n l u a b α c s

-- ---- between the two ways
-- the first k numbers of a buffer
abbrev pub front : ℕ → List ℕ → List ℕ
front k s = take (k * bytes w64) s

-- a buffer, and zeros behind it up to `room` numbers
abbrev pub filled : ℕ → List ℕ → List ℕ
filled room s = s ++ replicate (room * bytes w64 - length s) 0

-- R2.10: the bytes of the mended tables of order k that buffers spell
abbrev pub mended_low_bytes : ℕ → List ℕ → List ℕ
mended_low_bytes k l = bytes_of w64 (mended_low k (table_of k l)) (k * k)

abbrev pub mended_high_bytes : ℕ → List ℕ → List ℕ
mended_high_bytes k u = bytes_of w64 (mended_high k (table_of k u)) (k * k)

-- what is handed in to be written, as the reader lays it out
abbrev pub laid_out : ℤ → List ℕ → List ℕ → List ℕ → List ℕ → ℤ → List ℕ → Parts
laid_out n l u a b α c =
    let k = order_of n in
    parts (bytes_of_number n) (filled table_room (mended_low_bytes k l)) (filled table_room (mended_high_bytes k u))
    (filled greatest_order a)
    (filled greatest_order b) (bytes_of_number α) (filled greatest_order c)
