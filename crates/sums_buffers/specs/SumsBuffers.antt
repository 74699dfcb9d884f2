-- R15.2 and R15.3 of docs/RULES.md, of running sums: the sums that buffers of bytes spell, and the bytes that an act on them stores.
use Rattle.std.specs.Prelude.{◌≡◌, Bool, ◌&&◌, List, ℕ, ◌*◌, eqb, length, ℤ, Result, Ok, Err}
use Rattle.std.specs.Int.{w64}
use mir.Val.{bytes}
use Rattle.words.specs.Numbers.{bytes_of}
use Rattle.tables.specs.Problem.{constraint_of, lengths_of, constraint_sized}
use Rattle.tables.specs.declared.problem.Constraint.{Constraint}
use Rattle.tables.specs.declared.problem.Lengths.{Lengths}
use Rattle.sums.specs.Sums.{Outcome}
use Rattle.sums.specs.Lent.{Lent, Left, laid_sums}
use Rattle.samples.specs.Gathering.{sums_sized}
use Rattle.tables.specs.declared.Refusal.{Refusal}
use Rattle.buffers.specs.Buffers.{table_of, vector_of, number_of, bytes_of_number}

-- the sums of order n that five buffers spell
abbrev pub spelled_sums : ℕ → Lent (List ℕ) → Constraint
spelled_sums n b =
    constraint_of n (table_of n b.low) (table_of n b.high) (vector_of n b.from) (vector_of n b.to) (number_of b.limit)

-- 2 of gathering, over bytes
abbrev pub sums_buffers : ℕ → Lent (List ℕ) → Bool
sums_buffers n b =
    let lengths : Lengths = lengths_of (length b.low) (length b.high) (length b.from) (length b.to) in
    sums_sized (λ k. k * bytes w64) n lengths (length b.limit)

-- the sums of order n are written, 8 bytes for each number, or all five buffers are kept
abbrev pub stored_sums : ℕ → Outcome → Lent (List ℕ) → Left (List ℕ)
stored_sums n = laid_sums (λ t. bytes_of w64 t (n * n)) (λ x. bytes_of w64 x n) bytes_of_number

-- buffers of the sizes of order n
pub record SumsBytes (n : ℕ) (l u a b : List ℕ) : Type 0 where
  pub low : length l ≡ n * n * bytes w64
  pub high : length u ≡ n * n * bytes w64
  pub linear_low : length a ≡ n * bytes w64
  pub linear_high : length b ≡ n * bytes w64

-- 2 of reading, over bytes: `limit` is the size of the buffer for the limit
unfoldable pub read_buffers : ℕ → Lengths → ℕ → Bool
read_buffers n lengths limit =
    constraint_sized (record { table = n * n * bytes w64; vector = n * bytes w64 }) lengths && eqb limit (bytes w64)

-- the answer of reading, and the limit's buffer as it is left: written, 8 bytes, or kept
pub record ReadOut : Type 0 where
  pub answer : Result ℤ Refusal
  pub limit : List ℕ

abbrev pub stored_limit : Result ℤ Refusal → List ℕ → ReadOut
stored_limit (Ok α) s = record { answer = Ok α; limit = bytes_of_number α }
stored_limit (Err r) s = record { answer = Err r; limit = s }
