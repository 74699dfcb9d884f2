-- Files of some problems, and refusals: what the rules give, beside what was worked out apart from them. One list with one proof.
use mathlib.Core.Path.{◌≡◌, refl}
use mathlib.Core.List.{List, [], ◌∷◌, ◌++◌, map}
use Prim.Native.Nat.{ℕ, ◌+◌, ◌^◌}
use lib.IntN.{ℤ, pos, negsuc}
use lib.ListN.{length, take, replicate}
use Rattle.words.specs.Numbers.{to_le_bytes, bytes_of}
use Rattle.integers.specs.Numbers.{min_ℤ, max_ℤ}
use Rattle.tables.specs.Matrix.{at, tabulate, table}
use Rattle.tables.specs.Mending.{mended_by}
use Rattle.tables.specs.Problem.{problem_of, constraint_sized, constraint_entered}
use Rattle.tables.specs.Ranges.{greatest_order, entry_range, table_room}
use Rattle.tables.specs.Answers.{after}
use Rattle.tables.specs.Entering.{entered}
use Rattle.tables.specs.Checks.{all, first_refusal, order_ok, order_of, sizes_ok, within, all_within, nowhere_crossed, tables_within}
use Rattle.tables.specs.Checks.{linear_within, terms_within, entry_checks, bounds_checks, ends_checks}
use Rattle.tables.specs.declared.Refusal.{Refusal}
use Rattle.tables.specs.declared.Refusal.TheVariants.{Order, Length, Range, Crossed, Lopsided, Reversed}
use Rattle.std.specs.Prelude.{Ok}
use Rattle.fields.specs.Entries.{entry_bytes, bytes_of_entries, whole_file}
use Rattle.summary.specs.Problems.{file_size, file_of}
use Rattle.writer.specs.Writing.{Written, kept, writing, write_sizes, write_act, write}

-- ---- a call: n, L, U, both ends of a, α, c, and the size of the buffer, which holds 170 in each byte
record Call : Type 0 where
  order : ℤ
  low : List ℤ
  high : List ℤ
  linear_low : List ℤ
  linear_high : List ℤ
  limit : ℤ
  centre : List ℤ
  size : ℕ

abbrev before : ℕ → List ℕ
before k = replicate k 170

record Line : Type 0 where
  call : Call
  expected : Written

abbrev refused : Refusal → Call → Line
refused r c = record { call = c; expected = kept (before c.size) r }

-- case P (W21 of docs/RULES.md), with other numbers
abbrev case_p : ℤ → ℤ → ℤ → ℤ → ℕ → Call
case_p n l b c k =
    record {
      order = n;
      low = l ∷ [];
      high = pos 4 ∷ [];
      linear_low = negsuc 7 ∷ [];
      linear_high = b ∷ [];
      limit = pos 0;
      centre = c ∷ [];
      size = k;
    }

-- M = [m], a = −8 and c = 2: W34 to W37
abbrev worked : ℤ → ℤ → ℤ → ℕ → Call
worked n m α k =
    record {
      order = n;
      low = m ∷ [];
      high = m ∷ [];
      linear_low = negsuc 7 ∷ [];
      linear_high = negsuc 7 ∷ [];
      limit = α;
      centre = pos 2 ∷ [];
      size = k;
    }

-- the file of W34, case P
abbrev file_p : List ℕ
file_p =
    1 ∷ 1 ∷ 0 ∷ 1
    ∷ 2 ∷ 4 ∷ 0 ∷ 4 ∷ 0 ∷ 0 ∷ 0
    ∷ 3 ∷ 4 ∷ 0 ∷ 4 ∷ 0 ∷ 0 ∷ 0
    ∷ 4 ∷ 8 ∷ 0 ∷ 0xf8 ∷ 0xff ∷ 0xff ∷ 0xff ∷ 0xff ∷ 0xff ∷ 0xff ∷ 0xff
    ∷ 5 ∷ 8 ∷ 0 ∷ 0 ∷ 0 ∷ 0 ∷ 0 ∷ 0 ∷ 0 ∷ 0 ∷ 0
    ∷ 6 ∷ 8 ∷ 0 ∷ 2 ∷ 0 ∷ 0 ∷ 0 ∷ 0 ∷ 0 ∷ 0 ∷ 0
    ∷ 7 ∷ 8 ∷ 0 ∷ 0xf8 ∷ 0xff ∷ 0xff ∷ 0xff ∷ 0xff ∷ 0xff ∷ 0xff ∷ 0xff
    ∷ []

-- order 2: L = [2 x; 1 2] and U = [4 3; 2 4], with halves apart
abbrev two : ℤ → Call
two x =
    record {
      order = pos 2;
      low = pos 2 ∷ x ∷ pos 1 ∷ pos 2 ∷ [];
      high = pos 4 ∷ pos 3 ∷ pos 2 ∷ pos 4 ∷ [];
      linear_low = pos 0 ∷ pos 0 ∷ [];
      linear_high = pos 0 ∷ pos 0 ∷ [];
      limit = pos 1;
      centre = pos 0 ∷ pos 0 ∷ [];
      size = file_size 2;
    }

-- the file of the same with a low bound l and a high bound u beside the diagonal, at both places
abbrev file_two : ℕ → ℕ → List ℕ
file_two l u =
    let zeros : List ℕ = replicate 16 0 in
    (1 ∷ 1 ∷ 0 ∷ 2 ∷ [])
    ++ (2 ∷ 16 ∷ 0 ∷ 2 ∷ 0 ∷ 0 ∷ 0 ∷ l ∷ 0 ∷ 0 ∷ 0 ∷ l ∷ 0 ∷ 0 ∷ 0 ∷ 2 ∷ 0 ∷ 0 ∷ 0 ∷ [])
    ++ (3 ∷ 16 ∷ 0 ∷ 4 ∷ 0 ∷ 0 ∷ 0 ∷ u ∷ 0 ∷ 0 ∷ 0 ∷ u ∷ 0 ∷ 0 ∷ 0 ∷ 4 ∷ 0 ∷ 0 ∷ 0 ∷ [])
    ++ (4 ∷ 16 ∷ 0 ∷ zeros)
    ++ (5 ∷ 8 ∷ 0 ∷ 1 ∷ replicate 7 0)
    ++ (6 ∷ 16 ∷ 0 ∷ zeros)
    ++ (7 ∷ 16 ∷ 0 ∷ zeros)

abbrev too_large : ℤ
too_large = pos (entry_range + 1)

abbrev lines : List Line
lines =
    -- W34 to W37, as the rules state them
    record { call = worked (pos 1) (pos 4) (pos 0) 62; expected = record { answer = Ok tt; file = file_p } }
    ∷ refused Order (worked (pos 257) (pos 4) (pos 0) 62)
    ∷ refused Range (worked (pos 1) (pos (2 ^ 32 + 4)) (pos 0) 62)
    ∷ refused Length (worked (pos 1) (pos 4) (pos (2 ^ 54 + 1)) 61)
    -- 1 comes before 2
    ∷ refused Order (case_p (pos 0) (pos 4) (negsuc 7) (pos 2) 62)
    ∷ refused Order (case_p (pos (greatest_order + 1)) (pos 4) (negsuc 7) (pos 2) 0)
    ∷ refused Order (case_p (negsuc 0) (pos 4) (negsuc 7) (pos 2) 62)
    -- 2: a file's buffer of another size, before 3; inputs of another size
    ∷ refused Length (case_p (pos 1) too_large (negsuc 7) (pos 2) 61)
    ∷ refused Length (case_p (pos 1) (pos 4) (negsuc 7) (pos 2) 63)
    ∷ refused Length (case_p (pos 2) (pos 4) (negsuc 7) (pos 2) (file_size 2))
    -- 3: a number that its field would hold, and one that it would not
    ∷ refused Range (case_p (pos 1) too_large (negsuc 7) (pos 2) 62)
    ∷ refused Range (case_p (pos 1) (pos (2 ^ 32 + 4)) (negsuc 7) (pos 2) 62)
    ∷ refused Range (case_p (pos 1) (pos 5) (negsuc 8) (pos (2 ^ 12 + 1)) 62)
    -- 4, 5, 16
    ∷ refused Crossed (case_p (pos 1) (pos 5) (negsuc 8) (pos 2) 62)
    ∷ refused Lopsided (two (pos 3))
    ∷ refused Reversed (case_p (pos 1) (pos 4) (negsuc 8) (pos 2) 62)
    -- halves apart: the greater low and the smaller high are written at both places
    ∷ record { call = two (pos 0); expected = record { answer = Ok tt; file = file_two 1 2 } }
    ∷ record { call = two (pos 2); expected = record { answer = Ok tt; file = file_two 2 2 } }
    ∷ []

done : Call → Written
done c = write c.order c.low c.high c.linear_low c.linear_high c.limit c.centre (before c.size)

as_worked_out : map (λ (l : Line). done l.call) lines ≡ map (λ (l : Line). l.expected) lines
unfolding done write write_act writing write_sizes constraint_sized sizes_ok constraint_entered entered after first_refusal entry_checks
    bounds_checks ends_checks
    all order_ok order_of within all_within nowhere_crossed tables_within linear_within terms_within mended_by table tabulate at min_ℤ max_ℤ
    file_of whole_file bytes_of_entries entry_bytes bytes_of to_le_bytes
as_worked_out = refl

-- ---- a length with a high byte: the tables of order 8 have 256 bytes
abbrev eight : List ℕ
eight =
    let t = replicate table_room (pos 0) in
    let x = replicate greatest_order (pos 0) in
    file_of (problem_of 8 t t x x (pos 0) x)

high_byte : (take 7 eight ≡ 1 ∷ 1 ∷ 0 ∷ 8 ∷ 2 ∷ 0 ∷ 1 ∷ []) × (length eight ≡ 734)
unfolding file_of whole_file bytes_of_entries entry_bytes bytes_of to_le_bytes
high_byte = (refl, refl)
