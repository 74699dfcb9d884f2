-- R17 and R5.11 of docs/RULES.md: the problem that a file spells, or the refusal that it gets.
use Rattle.std.specs.Prelude.{◌≡◌, Bool, true, false, List, [], ◌∷◌, ◌++◌, map, ℕ, ◌+◌, ◌*◌, ◌-◌, ◌≤◌, leb, eqb, ℤ, pos, length, get_or}
use Rattle.std.specs.Prelude.{take, replicate}
use Rattle.std.specs.Int.{w32, w64}
use mir.Val.{bytes}
use Rattle.words.specs.Numbers.{signed_at, padded_numbers_of, bytes_of}
use Rattle.tables.specs.Ranges.{greatest_order, table_room}
use Rattle.std.specs.Prelude.{None, is_some, Result, Ok, Err}
use Rattle.tables.specs.Checks.{Check, Checked, all, order_ok, first_refusal}
use Rattle.tables.specs.Answers.{after}
use Rattle.tables.specs.declared.problem.Problem.{Problem}
use Rattle.tables.specs.Mending.{Symmetric}
use Rattle.tables.specs.Problem.{problem_of, problem_checks, mended_problem}
use Rattle.tables.specs.declared.Refusal.{Refusal}
use Rattle.tables.specs.declared.Refusal.TheVariants.{Order, Absent, Size, Long}
use Rattle.fields.specs.declared.field.Kind.{Kind}
use Rattle.fields.specs.declared.layout.Layout.{Layout}
use Rattle.fields.specs.Fields.{kinds, kind_count}
use Rattle.fields.specs.Layouts.{length_in, length_of, content, Inside, Walked, walked, layout_of}
use Rattle.fields.specs.Entries.{whole_file}

-- R17.1: the longest file that 15 lets through
abbrev pub longest : ℕ
longest = 4096

-- 13: a tag is missing
unfoldable pub all_present : Layout → Bool
all_present l = all kind_count (λ k. is_some (get_or l.parts k None))

-- R17.3: n, the byte of tag 01, unsigned
unfoldable pub order_in : List ℕ → Layout → ℕ
order_in s l = get_or (content s l Kind.Order) 0 0

-- R16.2: the length of each kind's content at order n
abbrev pub length_for : ℕ → Kind → ℕ
length_for n Kind.Order = 1
length_for n Kind.Low = n * n * bytes w32
length_for n Kind.High = n * n * bytes w32
length_for n Kind.LinearLow = n * bytes w64
length_for n Kind.Limit = bytes w64
length_for n Kind.Centre = n * bytes w64
length_for n Kind.LinearHigh = n * bytes w64

abbrev pub lengths_for : ℕ → List ℕ
lengths_for n = map (length_for n) kinds

-- R17.6: the length of an accepted file of order n
abbrev pub file_size : ℕ → ℕ
file_size n = 8 * (n * n) + 24 * n + 30

-- 14: each field has the length that n calls for
unfoldable pub lengths_ok : Layout → ℕ → Bool
lengths_ok l n = all kind_count (λ k. eqb (length_in (get_or l.parts k None)) (get_or (lengths_for n) k 0))

-- R5.11: 13; 14 of tag 01; 1; 14 of tags 02 to 07
unfoldable pub field_checks : List ℕ → Layout → List Check
field_checks s l =
    record { passes = all_present l; otherwise = Absent }
    ∷ record { passes = eqb (length_of l Kind.Order) 1; otherwise = Size }
    ∷ record { passes = order_ok (pos (order_in s l)); otherwise = Order }
    ∷ record { passes = lengths_ok l (order_in s l); otherwise = Size }
    ∷ []

-- R16.2: the problem of order n in these contents, of signed numbers (R1.6)
abbrev pub problem_from : ℕ → (Kind → List ℕ) → Problem
problem_from n c =
    problem_of
    n
    (padded_numbers_of w32 table_room (c Kind.Low) (n * n))
    (padded_numbers_of w32 table_room (c Kind.High) (n * n))
    (padded_numbers_of w64 greatest_order (c Kind.LinearLow) n)
    (padded_numbers_of w64 greatest_order (c Kind.LinearHigh) n)
    (signed_at w64 (c Kind.Limit) 0)
    (padded_numbers_of w64 greatest_order (c Kind.Centre) n)

-- R17.6: the content of each kind in the file of a problem
abbrev pub contents_of : Problem → Kind → List ℕ
contents_of p Kind.Order = p.constraint.order ∷ []
contents_of p Kind.Low = bytes_of w32 p.constraint.low (p.constraint.order * p.constraint.order)
contents_of p Kind.High = bytes_of w32 p.constraint.high (p.constraint.order * p.constraint.order)
contents_of p Kind.LinearLow = bytes_of w64 p.constraint.linear.low p.constraint.order
contents_of p Kind.Limit = bytes_of w64 (p.constraint.limit ∷ []) 1
contents_of p Kind.Centre = bytes_of w64 p.centre p.constraint.order
contents_of p Kind.LinearHigh = bytes_of w64 p.constraint.linear.high p.constraint.order

-- R17.6: the seven fields of a problem, with its tables as they stand
unfoldable pub file_of : Problem → List ℕ
file_of p = whole_file (contents_of p)

-- R24.2: the first k numbers of x, and zeros up to so many
abbrev pub padded_to : ℕ → ℕ → List ℤ → List ℤ
padded_to room k x = take k x ++ replicate (room - k) (pos 0)

-- a problem in arrays of their sizes: the numbers that its order calls for, and zeros behind them
abbrev pub padded : Problem → Problem
padded p =
    let c = p.constraint in
    let n : ℕ = c.order in
    problem_of
    n
    (padded_to table_room (n * n) c.low)
    (padded_to table_room (n * n) c.high)
    (padded_to greatest_order n c.linear.low)
    (padded_to greatest_order n c.linear.high)
    c.limit
    (padded_to greatest_order n p.centre)

-- the problem in the fields, with its tables as they stand there
unfoldable pub problem_in : List ℕ → Layout → Problem
problem_in s l = problem_from (order_in s l) (content s l)

-- what the reading of a file finds: its problem, mended, or the first refusal
abbrev pub Reading : Type 0
Reading = Result Problem Refusal

-- whether it is refused, and by which refusal
abbrev pub checked_of : Reading → Checked
checked_of (Ok p) = Ok tt
checked_of (Err r) = Err r

-- R17.5: 3, 4, 5, 16 of the problem in the fields; what is handed out is the mended problem (R2.10)
unfoldable pub reading_of : Problem → Reading
reading_of p = after Err (first_refusal (problem_checks p)) (Ok (mended_problem p))

-- a problem with these tables in place of its own
abbrev pub with_tables : Problem → List ℤ → List ℤ → Problem
with_tables p l u = let c = p.constraint in problem_of c.order l u c.linear.low c.linear.high c.limit p.centre

-- what the fields of a layout give
unfoldable pub read_in : List ℕ → Layout → Reading
read_in s l = after Err (first_refusal (field_checks s l)) (reading_of (problem_in s l))

-- what the walk gives
unfoldable pub read_walked : List ℕ → Walked → Reading
read_walked s (Ok l) = read_in s l
read_walked s (Err r) = Err r

-- R5.11: the problem of a file, of any bytes at all: 15 first
unfoldable pub reading : List ℕ → Reading
reading s = elim (leb (length s) longest) [ true ↦ read_walked s (walked s) | false ↦ Err Long ]

-- the arrays of a problem have their sizes
pub record ProblemRooms (p : Problem) : Type 0 where
  pub order : p.constraint.order ≤ greatest_order
  pub low : length p.constraint.low ≡ table_room
  pub high : length p.constraint.high ≡ table_room
  pub linear_low : length p.constraint.linear.low ≡ greatest_order
  pub linear_high : length p.constraint.linear.high ≡ greatest_order
  pub centre : length p.centre ≡ greatest_order

-- what the code asks of a layout: the fields lie in the file, and have the sizes that belong to n
pub record FieldsFit (s : List ℕ) (l : Layout) : Type 0 where
  pub inside : Inside s l
  pub tag_size : length_of l Kind.Order ≡ 1
  pub order : order_in s l ≤ greatest_order
  pub sizes : lengths_ok l (order_in s l) ≡ true

-- ---- what a reading means
-- a problem that is handed out has an order, checks 3, 4, 5 and 16 let it through, its tables are mended (R2.10), its arrays have their
-- sizes, and zeros stand behind its numbers
pub record LetThrough (p : Problem) : Type 0 where
  pub order : order_ok (pos p.constraint.order) ≡ true
  pub checks : first_refusal (problem_checks p) ≡ Ok tt
  pub mended : mended_problem p ≡ p
  pub rooms : ProblemRooms p
  pub zeros : padded p ≡ p

-- the problem that the fields of a file spell
abbrev pub spelled_by : List ℕ → Problem
spelled_by s = problem_in s (layout_of s)

-- the halves of both tables of a problem agree
abbrev pub SymmetricTables : Problem → Type 0
SymmetricTables p = let c = p.constraint in Symmetric c.order c.low c.high

-- of a reading r of the file s, where a problem p is handed out
pub record ReadingMeaning (s : List ℕ) (r : Reading) : Type 0 where
  -- it is let through
  pub through : {p : Problem} → r ≡ Ok p → LetThrough p
  -- it is the mended one of the problem that the file spells (R17.5), and the file is the seven fields of that, no more (R17.6)
  pub problem : {p : Problem} → r ≡ Ok p → p ≡ mended_problem (spelled_by s)
  pub spelled : {p : Problem} → r ≡ Ok p → file_of (spelled_by s) ≡ s
  -- R24.3: its own file is s, byte for byte, where the tables of s are symmetric, and only there
  pub back : {p : Problem} → r ≡ Ok p → SymmetricTables (spelled_by s) → file_of p ≡ s
  pub only : {p : Problem} → r ≡ Ok p → file_of p ≡ s → SymmetricTables (spelled_by s)
  -- and whatever the tables of s are, the file of the problem that is handed out is read as that problem again
  pub again : {p : Problem} → r ≡ Ok p → reading (file_of p) ≡ r
