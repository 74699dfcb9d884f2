-- The problems of some files: what the rules give, beside what was worked out apart from them. One list with one proof.
use mathlib.Core.Path.{◌≡◌, refl}
use mathlib.Core.List.{List, [], ◌∷◌, ◌++◌, map}
use Prim.Native.Nat.{ℕ, suc, ◌-◌}
use lib.IntN.{ℤ, pos, negsuc}
use lib.ListN.{length, replicate}
use Rattle.words.specs.Numbers.{from_le_bytes, unsigned_at, signed_at, numbers_of, padded_numbers_of}
use Rattle.integers.specs.Numbers.{min_ℤ, max_ℤ}
use Rattle.tables.specs.Matrix.{at, tabulate, table}
use Rattle.tables.specs.Mending.{mended_by}
use Rattle.tables.specs.Problem.{problem_of}
use Rattle.tables.specs.Ranges.{greatest_order, table_room}
use Rattle.tables.specs.Checks.{all, first_refusal, order_ok, within, all_within, nowhere_crossed, tables_within, linear_within}
use Rattle.tables.specs.Checks.{terms_within, bounds_checks, ends_checks}
use Rattle.tables.specs.declared.Refusal.TheVariants.{Order, Range, Crossed, Lopsided, Tag, Absent, Size, Long, Reversed, Falling}
use Rattle.tables.specs.Answers.{after}
use Rattle.std.specs.Prelude.{Ok, Err}
use Rattle.fields.specs.Fields.{kind_in, kind_of, tagged, field_at}
use Rattle.fields.specs.Layouts.{part_of, start_of, length_of, seen, unseen, placed, walk_on, walk_fields, walk, walked, content}
use Rattle.summary.specs.Problems.{longest, all_present, order_in, lengths_ok, field_checks, problem_in, Reading, reading_of, read_in}
use Rattle.summary.specs.Problems.{read_walked, reading}

-- ---- files
abbrev field : ℕ → List ℕ → List ℕ
field tag bytes = tag ∷ length bytes ∷ 0 ∷ bytes

-- the bytes of a small number in L or U, and elsewhere
abbrev short : ℕ → List ℕ
short x = x ∷ replicate 3 0

abbrev long : ℕ → List ℕ
long x = x ∷ replicate 7 0

abbrev minus_eight : List ℕ
minus_eight = 0xf8 ∷ replicate 7 0xff

-- case P (W21 of docs/RULES.md), with other contents of the tags 01, 02, 06 and 07
abbrev six : List ℕ → ℕ → List ℕ → List ℕ
six n l c = field 1 n ++ field 2 (short l) ++ field 3 (short 4) ++ field 4 minus_eight ++ field 5 (long 0) ++ field 6 c

abbrev seven : List ℕ → ℕ → List ℕ → List ℕ → List ℕ
seven n l c b = six n l c ++ field 7 b

abbrev file : List ℕ → ℕ → List ℕ → List ℕ
file n l c = seven n l c minus_eight

-- order 2: L = [2 x; 1 2] and U = [4 3; 2 4], with halves apart
abbrev four : ℕ → ℕ → ℕ → ℕ → List ℕ
four a b c d = short a ++ short b ++ short c ++ short d

abbrev two : ℕ → List ℕ
two x =
    let v = long 0 ++ long 0 in
    field 1 (2 ∷ []) ++ field 2 (four 2 x 1 2) ++ field 3 (four 4 3 2 4) ++ field 4 v ++ field 5 (long 1) ++ field 6 v ++ field 7 v

-- ---- readings
-- a number, and zeros after it: so many in all
abbrev alone : ℕ → ℤ → List ℤ
alone room x = x ∷ replicate (room - 1) (pos 0)

-- case P with another high end
abbrev up_to : ℤ → Reading
up_to b =
    let m = alone table_room (pos 4) in
    Ok (problem_of 1 m m (alone greatest_order (negsuc 7)) (alone greatest_order b) (pos 0) (alone greatest_order (pos 2)))

abbrev reading_p : Reading
reading_p = up_to (negsuc 7)

-- order 2 with a low bound l and a high bound u beside the diagonal, at both places
abbrev mended_two : ℕ → ℕ → Reading
mended_two l u =
    let v : List ℤ = replicate greatest_order (pos 0) in
    let behind : List ℤ = replicate (table_room - 4) (pos 0) in
    let low = pos 2 ∷ pos l ∷ pos l ∷ pos 2 ∷ behind in
    let high = pos 4 ∷ pos u ∷ pos u ∷ pos 4 ∷ behind in
    Ok (problem_of 2 low high v v (pos 1) v)

record Line : Type 0 where
  bytes : List ℕ
  expected : Reading

abbrev lines : List Line
lines =
    record { bytes = file (1 ∷ []) 4 (long 2); expected = reading_p }
    -- fields in another order: 19, before 13 and before the lengths are looked at
    ∷ record {
      bytes = field 1 (1 ∷ []) ++ field 3 (short 4) ++ field 2 (short 4) ++ field 4 minus_eight ++ field 5 (long 0) ++ field 6
          (long 2) ++ field 7 minus_eight;
      expected = Err Falling;
    }
    ∷ record { bytes = field 7 minus_eight ++ six (1 ∷ []) 4 (long 2); expected = Err Falling }
    ∷ record { bytes = field 2 (short 4) ++ field 1 (1 ∷ 1 ∷ []); expected = Err Falling }
    -- a high end of its own
    ∷ record { bytes = seven (1 ∷ []) 4 (long 2) (long 3); expected = up_to (pos 3) }
    -- 13, also where a field that is there has another length
    ∷ record { bytes = []; expected = Err Absent }
    ∷ record { bytes = field 1 (1 ∷ 1 ∷ []) ++ field 2 (short 4); expected = Err Absent }
    ∷ record { bytes = six (1 ∷ []) 4 (long 2); expected = Err Absent }
    -- 14 for tag 01 comes before 1
    ∷ record { bytes = file [] 4 (long 2); expected = Err Size }
    ∷ record { bytes = file (suc greatest_order ∷ 0 ∷ []) 4 (long 2); expected = Err Size }
    -- 1 comes before 14 for the other tags
    ∷ record { bytes = file (0 ∷ []) 4 (long 2); expected = Err Order }
    ∷ record { bytes = file (suc greatest_order ∷ []) 4 (long 2); expected = Err Order }
    ∷ record { bytes = file (2 ∷ []) 4 (long 2); expected = Err Size }
    -- 14 comes before 4, and 3 before 4
    ∷ record { bytes = file (1 ∷ []) 5 (short 2); expected = Err Size }
    ∷ record { bytes = file (1 ∷ []) 5 (0 ∷ long 1); expected = Err Size }
    ∷ record { bytes = file (1 ∷ []) 5 (0 ∷ 0 ∷ 1 ∷ replicate 5 0); expected = Err Range }
    ∷ record { bytes = file (1 ∷ []) 5 (long 2); expected = Err Crossed }
    -- 14 and 3 of tag 07, and 16, behind 4
    ∷ record { bytes = seven (1 ∷ []) 4 (long 2) (short 2); expected = Err Size }
    ∷ record { bytes = seven (1 ∷ []) 4 (long 2) (replicate 7 0 ++ 1 ∷ []); expected = Err Range }
    ∷ record { bytes = seven (1 ∷ []) 4 (long 2) (0xf7 ∷ replicate 7 0xff); expected = Err Reversed }
    ∷ record { bytes = seven (1 ∷ []) 5 (long 2) (0xf7 ∷ replicate 7 0xff); expected = Err Crossed }
    -- halves apart: the greater low and the smaller high at both places, whichever of them it is; 5 where that leaves no number, behind 4
    ∷ record { bytes = two 0; expected = mended_two 1 2 }
    ∷ record { bytes = two 1; expected = mended_two 1 2 }
    ∷ record { bytes = two 2; expected = mended_two 2 2 }
    ∷ record { bytes = two 3; expected = Err Lopsided }
    ∷ record { bytes = two 4; expected = Err Crossed }
    -- 15 comes before 11, from one byte more than the longest file has
    ∷ record { bytes = replicate longest 0; expected = Err Tag }
    ∷ record { bytes = replicate (suc longest) 0; expected = Err Long }
    ∷ []

as_worked_out : map (λ (l : Line). reading l.bytes) lines ≡ map (λ (l : Line). l.expected) lines
unfolding reading read_walked read_in after reading_of problem_in field_checks all_present order_in lengths_ok
    content start_of length_of walked walk walk_fields walk_on seen part_of unseen placed field_at tagged kind_of kind_in
    unsigned_at from_le_bytes signed_at numbers_of padded_numbers_of
    all first_refusal order_ok within all_within nowhere_crossed tables_within linear_within terms_within bounds_checks ends_checks
    mended_by table tabulate at min_ℤ max_ℤ
as_worked_out = refl
