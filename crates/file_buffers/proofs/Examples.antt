-- Files read into buffers and written from them: what the rules give, beside what was worked out apart
-- from them. Two lists, each with one proof.
use mathlib.Core.Path.{◌≡◌, refl}
use mathlib.Core.List.{List, [], ◌∷◌, ◌++◌, map}
use Prim.Native.Nat.{ℕ, ◌-◌}
use lib.IntN.{ℤ, pos}
use lib.ListN.{replicate}
use Rattle.words.specs.Numbers.{from_le_bytes, to_le_bytes, unsigned_at, signed_at, numbers_of, padded_numbers_of, bytes_of}
use Rattle.integers.specs.Numbers.{min_ℤ, max_ℤ}
use Rattle.tables.specs.Matrix.{at, tabulate, table}
use Rattle.tables.specs.Mending.{mended_by}
use Rattle.tables.specs.Problem.{constraint_sized, constraint_entered}
use Rattle.tables.specs.Answers.{after}
use Rattle.tables.specs.Entering.{entered}
use Rattle.tables.specs.Checks.{all, first_refusal, order_ok, order_of, sizes_ok, within, all_within, nowhere_crossed, tables_within}
use Rattle.tables.specs.Checks.{linear_within, terms_within, entry_checks, bounds_checks, ends_checks}
use Rattle.tables.specs.declared.Refusal.{Refusal}
use Rattle.tables.specs.declared.Refusal.TheVariants.{Order, Length, Crossed, Lopsided, Reversed, Tag}
use Rattle.std.specs.Prelude.{Ok, Err}
use Rattle.fields.specs.Fields.{kind_in, kind_of, tagged, field_at}
use Rattle.fields.specs.Layouts.{part_of, start_of, length_of, seen, unseen, placed, walk_on, walk_fields, walk, walked, content}
use Rattle.fields.specs.Entries.{entry_bytes, bytes_of_entries, whole_file}
use Rattle.summary.specs.Problems as file
use Rattle.summary.specs.Problems.{all_present, lengths_ok, field_checks, file_of, reading_of, read_in, read_walked, reading}
use Rattle.writer.specs.Writing.{Written, kept, writing, write_sizes, write_act}
use Rattle.file_buffers.specs.Parts.{Parts, parts, Handed, roomy, parts_of, handed, read_summary}
use Rattle.file_buffers.specs.Filing.{write_summary}

-- the bytes of x
abbrev long : ℕ → List ℕ
long x = x ∷ replicate 7 0

-- the bytes of -256 + x
abbrev minus : ℕ → List ℕ
minus x = x ∷ replicate 7 0xff

-- case P (W21 of docs/RULES.md), with another low bound and another high end
abbrev file_p : ℕ → ℕ → List ℕ
file_p l b =
    (1 ∷ 1 ∷ 0 ∷ 1 ∷ [])
    ++ (2 ∷ 4 ∷ 0 ∷ l ∷ 0 ∷ 0 ∷ 0 ∷ [])
    ++ (3 ∷ 4 ∷ 0 ∷ 4 ∷ 0 ∷ 0 ∷ 0 ∷ [])
    ++ (4 ∷ 8 ∷ 0 ∷ minus 0xf8)
    ++ (5 ∷ 8 ∷ 0 ∷ long 0)
    ++ (6 ∷ 8 ∷ 0 ∷ long 2)
    ++ (7 ∷ 8 ∷ 0 ∷ minus b)

-- order 2: L = [2 a; b 2] and U = [4 c; d 4]
abbrev file_two : ℕ → ℕ → ℕ → ℕ → List ℕ
file_two a b c d =
    let zeros : List ℕ = replicate 16 0 in
    (1 ∷ 1 ∷ 0 ∷ 2 ∷ [])
    ++ (2 ∷ 16 ∷ 0 ∷ 2 ∷ 0 ∷ 0 ∷ 0 ∷ a ∷ 0 ∷ 0 ∷ 0 ∷ b ∷ 0 ∷ 0 ∷ 0 ∷ 2 ∷ 0 ∷ 0 ∷ 0 ∷ [])
    ++ (3 ∷ 16 ∷ 0 ∷ 4 ∷ 0 ∷ 0 ∷ 0 ∷ c ∷ 0 ∷ 0 ∷ 0 ∷ d ∷ 0 ∷ 0 ∷ 0 ∷ 4 ∷ 0 ∷ 0 ∷ 0 ∷ [])
    ++ (4 ∷ 16 ∷ 0 ∷ zeros)
    ++ (5 ∷ 8 ∷ 0 ∷ long 1)
    ++ (6 ∷ 16 ∷ 0 ∷ zeros)
    ++ (7 ∷ 16 ∷ 0 ∷ zeros)

-- the buffers of these tables
abbrev low_two : ℕ → ℕ → List ℕ
low_two a b = long 2 ++ long a ++ long b ++ long 2

abbrev high_two : ℕ → ℕ → List ℕ
high_two c d = long 4 ++ long c ++ long d ++ long 4

-- ---- reading: seven buffers that hold 170 in each byte, with an order's buffer of so many bytes
abbrev before : ℕ → Parts
before k =
    let t : List ℕ = replicate 512 170 in
    let x : List ℕ = replicate 64 170 in
    parts (replicate k 170) t t x x (replicate 8 170) x

-- 8 bytes, and zeros: so many in all
abbrev alone : ℕ → List ℕ → List ℕ
alone room x = x ++ replicate (room - 8) 0

-- what case P leaves, with the high end -256 + b
abbrev after_P : ℕ → Handed
after_P b =
    record {
      answer = Ok tt;
      parts =
          parts (long 1) (alone 512 (long 4)) (alone 512 (long 4)) (alone 64 (minus 0xf8)) (alone 64 (minus b)) (long 0)
          (alone 64 (long 2));
    }

-- what order 2 leaves
abbrev after_two : ℕ → ℕ → ℕ → ℕ → Handed
after_two a b c d =
    let v : List ℕ = replicate 64 0 in
    let behind : List ℕ = replicate 480 0 in
    record { answer = Ok tt; parts = parts (long 2) (low_two a b ++ behind) (high_two c d ++ behind) v v (long 1) v }

record Line : Type 0 where
  bytes : List ℕ
  size : ℕ
  expected : Handed

abbrev refused_line : Refusal → ℕ → List ℕ → Line
refused_line r k s = record { bytes = s; size = k; expected = record { answer = Err r; parts = before k } }

abbrev lines : List Line
lines =
    record { bytes = file_p 4 0xf8; size = 8; expected = after_P 0xf8 }
    ∷ record { bytes = file_p 4 0xf9; size = 8; expected = after_P 0xf9 }
    -- 2 comes before what the file gets
    ∷ refused_line Length 7 (file_p 4 0xf8)
    ∷ refused_line Length 9 (9 ∷ 0 ∷ 0 ∷ [])
    ∷ refused_line Tag 8 (9 ∷ 0 ∷ 0 ∷ [])
    ∷ refused_line Crossed 8 (file_p 5 0xf7)
    ∷ refused_line Reversed 8 (file_p 4 0xf7)
    -- halves apart: the greater low and the smaller high at both places; 5 where that leaves no number
    ∷ record { bytes = file_two 0 1 3 2; size = 8; expected = after_two 1 1 2 2 }
    ∷ record { bytes = file_two 2 1 2 3; size = 8; expected = after_two 2 2 2 2 }
    ∷ refused_line Lopsided 8 (file_two 3 1 3 2)
    ∷ []

reads_as_worked_out : map (λ (l : Line). read_summary l.bytes (before l.size)) lines ≡ map (λ (l : Line). l.expected) lines
unfolding read_summary handed roomy constraint_sized sizes_ok parts_of
    reading read_walked read_in reading_of file.problem_in field_checks all_present file.order_in lengths_ok
    content length_of part_of walked walk walk_fields walk_on seen start_of unseen placed field_at tagged kind_of kind_in
    unsigned_at from_le_bytes signed_at numbers_of padded_numbers_of bytes_of to_le_bytes
    all first_refusal order_ok within all_within nowhere_crossed tables_within linear_within terms_within bounds_checks ends_checks after
    mended_by table tabulate at min_ℤ max_ℤ
reads_as_worked_out = refl

-- ---- writing: n, the low bound, the high end and the size of the file's buffer, which holds 170 in each byte
abbrev writes : ℤ → ℕ → ℕ → ℕ → Written
writes n l b k = write_summary n (long l) (long 4) (minus 0xf8) (minus b) (pos 0) (long 2) (replicate k 170)

-- order 2 with halves apart, and a low bound x
abbrev writes_two : ℕ → Written
writes_two x =
    let zeros : List ℕ = replicate 16 0 in
    write_summary (pos 2) (low_two x 1) (high_two 3 2) zeros zeros (pos 1) zeros (replicate 110 170)

abbrev refused_by : Refusal → ℕ → Written
refused_by r k = kept (replicate k 170) r

written_as_worked_out :
    writes (pos 1) 4 0xf8 62 ∷ writes (pos 0) 4 0xf8 62 ∷ writes (pos 1) 5 0xf7 61 ∷ writes (pos 1) 5 0xf7 62 ∷ writes
    (pos 1) 4 0xf7 62 ∷ writes_two 0 ∷ writes_two 3 ∷ []
    ≡ record {
      answer = Ok tt;
      file = file_p 4 0xf8;
    } ∷ refused_by Order 62 ∷ refused_by Length 61 ∷ refused_by Crossed 62 ∷ refused_by Reversed 62
    ∷ record { answer = Ok tt; file = file_two 1 1 2 2 } ∷ refused_by Lopsided 110 ∷ []
unfolding write_summary write_act writing write_sizes constraint_sized sizes_ok constraint_entered entered after first_refusal entry_checks
    bounds_checks ends_checks
    all order_ok order_of within all_within nowhere_crossed tables_within linear_within terms_within mended_by table tabulate at min_ℤ max_ℤ
    file_of whole_file bytes_of_entries entry_bytes bytes_of to_le_bytes unsigned_at from_le_bytes signed_at numbers_of padded_numbers_of
written_as_worked_out = refl
