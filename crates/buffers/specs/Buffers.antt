-- R15.2, R15.3 and R15.6 of docs/RULES.md: the numbers that a buffer of bytes spells, and the bytes that an act stores in it.
use Rattle.std.specs.Prelude.{◌≡◌, Bool, true, ◌&&◌, List, ℕ, ◌+◌, ◌*◌, ◌≤◌, eqb, ℤ, length, Result, Ok, Err}
use Rattle.std.specs.Int.{w64}
use mir.Val.{bytes, of_z}
use Rattle.words.specs.Numbers.{to_le_bytes, signed_at, numbers_of, bytes_of}
use Rattle.tables.specs.Ranges.{greatest_order}
use Rattle.tables.specs.Matrix.{nth}
use Rattle.tables.specs.Checks.{sizes_ok}
use Rattle.tables.specs.declared.Refusal.{Refusal}
use Rattle.tables.specs.declared.problem.Lengths.{Lengths}
use Rattle.residual.specs.declared.factor_test.FactorAnswer.{FactorAnswer}
use Rattle.verdict.specs.Judge.{Judgement, judge_sizes, Judged, stored}
use Rattle.verdict.specs.declared.judge.Verdict.{Verdict}
use Rattle.enclosure.specs.Box.{Box}
use Rattle.enclosure.specs.Act.{Enclosed, box_sizes, laid_sides}

-- the table of order n that a buffer spells: n² signed numbers of 8 bytes (R1.6)
abbrev pub table_of : ℕ → List ℕ → List ℤ
table_of n s = numbers_of w64 s (n * n)

-- the vector of order n that a buffer spells
abbrev pub vector_of : ℕ → List ℕ → List ℤ
vector_of n s = numbers_of w64 s n

-- the sides of order n that a buffer spells
abbrev pub sides_of : ℕ → List ℕ → List ℤ
sides_of n s = numbers_of w64 s (n + n)

-- the number that a buffer of one number spells, and the bytes of one
abbrev pub number_of : List ℕ → ℤ
number_of s = signed_at w64 s 0

abbrev pub bytes_of_number : ℤ → List ℕ
bytes_of_number v = to_le_bytes (bytes w64) (of_z w64 v)

-- ---- 2, over bytes: each buffer has 8 bytes for each of its numbers; o is the length of that for what the rows have over, one number
unfoldable pub factor_buffers : ℕ → ℕ → ℕ → ℕ → ℕ → Bool
factor_buffers n l u f o = sizes_ok (n * n * bytes w64) (n * n * bytes w64) l u f && eqb o (bytes w64)

abbrev pub vector_buffers : ℕ → ℕ → ℕ → ℕ → Bool
vector_buffers n = sizes_ok (n * n * bytes w64) (n * bytes w64)

unfoldable pub judge_buffers : ℕ → ℕ → ℕ → ℕ → ℕ → ℕ → Bool
judge_buffers n l u f v o = judge_sizes (n * n * bytes w64) (n * bytes w64) l u f v && eqb o (bytes w64)

abbrev pub box_buffers : ℕ → Lengths → ℕ → ℕ → Bool
box_buffers n = box_sizes (record { table = n * n * bytes w64; vector = n * bytes w64 }) ((n + n) * bytes w64)

-- ---- what is stored
-- the factor test's answer, and the buffer of what the rows have over as it is left
pub record StoredAnswer : Type 0 where
  pub answer : Result FactorAnswer Refusal
  pub over : List ℕ

-- R15.6: written with 'accepted' and with 'not accepted', and kept on a refusal
abbrev pub stored_over : Result FactorAnswer Refusal → List ℕ → StoredAnswer
stored_over (Ok (FactorAnswer.Accepted w)) o = record { answer = Ok (FactorAnswer.Accepted w); over = bytes_of_number w }
stored_over (Ok (FactorAnswer.NotAccepted w)) o = record { answer = Ok (FactorAnswer.NotAccepted w); over = bytes_of_number w }
stored_over (Err r) o = record { answer = Err r; over = o }

-- the verdict, and the buffers as they are left
pub record StoredVerdict : Type 0 where
  pub verdict : Result Verdict Refusal
  pub factor : List ℕ
  pub vector : List ℕ
  pub over : List ℕ

-- what the rows have over is written with 'definite', and kept with the others and on a refusal
abbrev pub over_by : Result Verdict Refusal → List ℕ → List ℕ
over_by (Ok (Verdict.Definite w)) o = bytes_of_number w
over_by (Ok Verdict.NotDefinite) o = o
over_by (Ok Verdict.Undecided) o = o
over_by (Err r) o = o

-- 'definite' writes the factor's table too, and 'not definite' the vector; the others are kept, and all by a refusal
abbrev pub stored_verdict : ℕ → Judgement → List ℕ → List ℕ → List ℕ → StoredVerdict
stored_verdict n g f v o =
    let j : Judged (List ℕ) = stored (bytes_of w64) n g f v in
    record { verdict = j.verdict; factor = j.factor; vector = j.vector; over = over_by j.verdict o }

-- the sides are written, 8 bytes for each number, or the buffer is kept
abbrev pub stored_sides : ℕ → Box → List ℕ → Enclosed (List ℕ)
stored_sides n = laid_sides (λ s. bytes_of w64 s (n + n))

-- ---- what the code asks and leaves
-- where the buffers have their sizes, both tables have the bytes of n² numbers
abbrev pub Spelled : ℕ → Bool → ℕ → ℕ → Type 0
Spelled n sized l u = sized ≡ true → (n * n * bytes w64 ≤ l) × (n * n * bytes w64 ≤ u)

-- where the buffers have their sizes, the vector of order n that s spells stands in x
pub record Terms (n : ℕ) (sized : Bool) (s : List ℕ) (x : List ℤ) : Type 0 where
  pub size : length x ≡ greatest_order
  pub numbers : sized ≡ true → nth x ≡ nth (vector_of n s)
