-- R15, R17 and R25 of docs/RULES.md: the problem of a summary file, mended (R2.10), in seven buffers of bytes, 8 bytes for each number.
use Rattle.std.specs.Prelude.{◌≡◌, Bool, true, false, ◌&&◌, List, ◌++◌, ℕ, ◌-◌, ◌*◌, eqb, ℤ, pos, length, replicate, Ok, Err}
use Rattle.std.specs.Int.{w64}
use mir.Val.{bytes}
use Rattle.words.specs.Numbers.{padded_numbers_of, bytes_of}
use Rattle.tables.specs.Ranges.{greatest_order, table_room}
use Rattle.tables.specs.Checks.{Checked, order_of}
use Rattle.tables.specs.Problem.{problem_of, lengths_of, constraint_sized}
use Rattle.tables.specs.declared.Refusal.TheVariants.{Length}
use Rattle.tables.specs.declared.problem.Lengths.{Lengths}
use Rattle.tables.specs.declared.problem.Problem.{Problem}
use Rattle.summary.specs.Problems.{Reading, reading}
use Rattle.buffers.specs.Buffers.{number_of, bytes_of_number}

-- the seven buffers: order, bounds, both ends of the linear terms, limit and centre
pub record Parts : Type 0 where
  pub order : List ℕ
  pub low : List ℕ
  pub high : List ℕ
  pub from : List ℕ
  pub to : List ℕ
  pub limit : List ℕ
  pub centre : List ℕ

abbrev pub parts : List ℕ → List ℕ → List ℕ → List ℕ → List ℕ → List ℕ → List ℕ → Parts
parts n l u a b α c = record { order = n; low = l; high = u; from = a; to = b; limit = α; centre = c }

-- the answer, and the buffers as they are left
pub record Handed : Type 0 where
  pub answer : Checked
  pub parts : Parts

-- ---- R25.1, 2: tables and vectors have the size of the greatest order, order and limit that of one number
unfoldable pub roomy : ℕ → Lengths → ℕ → ℕ → Bool
roomy n lengths α c =
    constraint_sized (record { table = table_room * bytes w64; vector = greatest_order * bytes w64 }) lengths
    && (eqb n (bytes w64) && (eqb α (bytes w64) && eqb c (greatest_order * bytes w64)))

abbrev pub parts_roomy : Parts → Bool
parts_roomy b =
    roomy (length b.order) (lengths_of (length b.low) (length b.high) (length b.from) (length b.to)) (length b.limit)
    (length b.centre)

-- ---- what is stored
-- the first k numbers of x, and zeros behind them up to `room` numbers
abbrev pub in_front : ℕ → ℕ → List ℤ → List ℕ
in_front room k x = bytes_of w64 x k ++ replicate ((room - k) * bytes w64) 0

-- R25.3: a problem in buffers of the greatest order
unfoldable pub parts_of : Problem → Parts
parts_of p =
    let c = p.constraint in
    let n = c.order in
    parts
    (bytes_of_number (pos n))
    (in_front table_room (n * n) c.low)
    (in_front table_room (n * n) c.high)
    (in_front greatest_order n c.linear.low)
    (in_front greatest_order n c.linear.high)
    (bytes_of_number c.limit)
    (in_front greatest_order n p.centre)

-- R25.3, R25.4: a problem that was read is stored, with its mended tables, or all buffers are kept
unfoldable pub handed : Reading → Parts → Handed
handed (Ok p) b = record { answer = Ok tt; parts = parts_of p }
handed (Err r) b = record { answer = Err r; parts = b }

-- R25.2: a file read into buffers: 2 of the buffers, then what the file gives
unfoldable pub read_summary : List ℕ → Parts → Handed
read_summary s b = elim (parts_roomy b) [ true ↦ handed (reading s) b | false ↦ record { answer = Err Length; parts = b } ]

-- ---- the problem that buffers spell
-- of order n, with zeros behind its numbers
abbrev pub spelled : ℕ → List ℕ → List ℕ → List ℕ → List ℕ → ℤ → List ℕ → Problem
spelled n l u a b α c =
    problem_of
    n
    (padded_numbers_of w64 table_room l (n * n))
    (padded_numbers_of w64 table_room u (n * n))
    (padded_numbers_of w64 greatest_order a n)
    (padded_numbers_of w64 greatest_order b n)
    α
    (padded_numbers_of w64 greatest_order c n)

-- of the seven buffers, with their order
abbrev pub order_in : Parts → ℕ
order_in b = order_of (number_of b.order)

abbrev pub problem_in : Parts → Problem
problem_in b = spelled (order_in b) b.low b.high b.from b.to (number_of b.limit) b.centre

-- ---- what the code asks
-- m numbers, and a buffer of their size
pub record Numbers (m : ℕ) (x : List ℤ) (s : List ℕ) : Type 0 where
  pub count : length x ≡ m
  pub size : length s ≡ m * bytes w64
