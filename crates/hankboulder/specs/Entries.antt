-- R15 of docs/RULES.md: what each entry for C answers, over bytes, by the number of its answer.
use Rattle.std.specs.Prelude.{List, ℕ, ℤ, pos, length}
use Rattle.tables.specs.Checks.{Checked, order_of}
use Rattle.tables.specs.Answers.{yes_or_no_code, answer_code}
use Rattle.tables.specs.Problem.{constraint_of, problem_of, lengths_of}
use Rattle.tables.specs.declared.problem.Constraint.{Constraint}
use Rattle.residual.specs.FactorTest.{factor_tested, factor_code}
use Rattle.vectors.specs.VectorTest.{vector_tested}
use Rattle.verdict.specs.Judge.{judging, verdict_code}
use Rattle.enclosure.specs.Box.{boxing}
use Rattle.enclosure.specs.Act.{Enclosed, box_code}
use Rattle.stiffness.specs.Bracket.{bracketing, bracket_code}
use Rattle.sums.specs.Lent.{Lent, Left, gathered_code}
use Rattle.samples.specs.declared.sample.Sample.{Sample}
use Rattle.samples.specs.Samples.{factor_count}
use Rattle.samples.specs.Gathering.{gathering}
use Rattle.buffers.specs.Buffers.{table_of, vector_of, factor_buffers, vector_buffers, judge_buffers, box_buffers}
use Rattle.buffers.specs.Buffers.{StoredAnswer, stored_over, StoredVerdict, stored_verdict, stored_sides}
use Rattle.rides.specs.Reading.{read_sums, reading_code}
use Rattle.pool.specs.Pool.{Problems}
use Rattle.sums_buffers.specs.SumsBuffers.{spelled_sums, sums_buffers, stored_sums, read_buffers, ReadOut, stored_limit}
use Rattle.hankboulder.specs.PoolBuffers.{spelled_pool}
use Rattle.writer.specs.Writing.{Written}
use Rattle.file_buffers.specs.Parts.{Parts, Handed, read_summary}
use Rattle.file_buffers.specs.Filing.{write_summary}
use Rattle.bus.specs.Running.{Bus}
use Rattle.bus.specs.Bus.{Moved, write, tick, ReadBack, read, line, line_code}
use Rattle.stiffness_buffers.specs.StiffnessBuffers.{stiffness_buffers, StoredStiffness, stored_stiffness}

-- the number of what has no more to say than that it is done
abbrev pub checked_code : Checked → ℤ
checked_code k = answer_code (λ _. pos 0) k

-- ---- hb_test_factor: the factor test of the numbers that the buffers spell
unfoldable pub test_stored : ℤ → List ℕ → List ℕ → List ℕ → List ℕ → StoredAnswer
test_stored n l u f o =
    let k : ℕ = order_of n in
    stored_over
    (factor_tested n (factor_buffers k (length l) (length u) (length f) (length o)) (table_of k l) (table_of k u) (table_of k f))
    o

-- the number of the answer, and the buffer of what the rows have over as it is left
pub record TestFactorResult : Type 0 where
  pub number : ℤ
  pub over : List ℕ

unfoldable pub test_factor_entry : ℤ → List ℕ → List ℕ → List ℕ → List ℕ → TestFactorResult
test_factor_entry n l u f o =
    let j : StoredAnswer = test_stored n l u f o in
    record { number = factor_code j.answer; over = j.over }

-- ---- hb_test_vector: the vector test of the numbers that the buffers spell
unfoldable pub test_vector_entry : ℤ → List ℕ → List ℕ → List ℕ → ℤ
test_vector_entry n l u v =
    let k : ℕ = order_of n in
    answer_code yes_or_no_code
    (vector_tested n (vector_buffers k (length l) (length u) (length v)) (table_of k l) (table_of k u) (vector_of k v))

-- ---- hb_judge: the judge of the numbers that the buffers spell
unfoldable pub judge_stored : ℤ → List ℕ → List ℕ → List ℕ → List ℕ → List ℕ → StoredVerdict
judge_stored n l u f v o =
    let k : ℕ = order_of n in
    stored_verdict k
    (judging n (judge_buffers k (length l) (length u) (length f) (length v) (length o)) (table_of k l) (table_of k u))
    f v o

-- the number of the verdict, and the buffers as they are left
pub record JudgeResult : Type 0 where
  pub number : ℤ
  pub factor : List ℕ
  pub vector : List ℕ
  pub over : List ℕ

unfoldable pub judge_entry : ℤ → List ℕ → List ℕ → List ℕ → List ℕ → List ℕ → JudgeResult
judge_entry n l u f v o =
    let j : StoredVerdict = judge_stored n l u f v o in
    record { number = verdict_code j.verdict; factor = j.factor; vector = j.vector; over = j.over }

-- ---- hb_box: the box of the numbers that the buffers spell, with linear terms from a to b
unfoldable pub box_stored : ℤ → List ℕ → List ℕ → List ℕ → List ℕ → ℤ → List ℕ → List ℕ → Enclosed (List ℕ)
box_stored n l u a b α c s =
    let k : ℕ = order_of n in
    stored_sides k
    (boxing n (box_buffers k (lengths_of (length l) (length u) (length a) (length b)) (length c) (length s))
    (problem_of k (table_of k l) (table_of k u) (vector_of k a) (vector_of k b) α (vector_of k c)))
    s

-- the number of the answer, and the buffer as it is left
pub record BoxResult : Type 0 where
  pub number : ℤ
  pub sides : List ℕ

unfoldable pub box_entry : ℤ → List ℕ → List ℕ → List ℕ → List ℕ → ℤ → List ℕ → List ℕ → BoxResult
box_entry n l u a b α c s =
    let j : Enclosed (List ℕ) = box_stored n l u a b α c s in
    record { number = box_code j.answer; sides = j.sides }

-- ---- hb_stiffness: the bracket of the numbers that the buffers spell, with s for step, b for bound and x for vector
unfoldable pub stiffness_stored : ℤ → List ℕ → List ℕ → List ℕ → List ℕ → List ℕ → StoredStiffness
stiffness_stored n l u s b x =
    let k : ℕ = order_of n in
    stored_stiffness k
    (bracketing n (stiffness_buffers k (length l) (length u) (length s) (length b) (length x)) (table_of k l) (table_of k u)) s b x

-- the number of the answer, and the buffers as they are left
pub record StiffnessResult : Type 0 where
  pub number : ℤ
  pub step : List ℕ
  pub bound : List ℕ
  pub vector : List ℕ

unfoldable pub stiffness_entry : ℤ → List ℕ → List ℕ → List ℕ → List ℕ → List ℕ → StiffnessResult
stiffness_entry n l u s b x =
    let j : StoredStiffness = stiffness_stored n l u s b x in
    record { number = bracket_code j.stiffness; step = j.step; bound = j.bound; vector = j.vector }

-- ---- hb_gather: a sample gathered into the sums that five buffers spell
unfoldable pub gather_stored : Sample → ℤ → Lent (List ℕ) → Left (List ℕ)
gather_stored s n b =
    let k : ℕ = order_of n in
    stored_sums factor_count (gathering s n (sums_buffers k b) (spelled_sums k b)) b

-- the number of the answer, and the buffers as they are left
pub record GatherResult : Type 0 where
  pub number : ℤ
  pub sums : Lent (List ℕ)

unfoldable pub gather_entry : Sample → ℤ → Lent (List ℕ) → GatherResult
gather_entry s n b =
    let j : Left (List ℕ) = gather_stored s n b in
    record { number = gathered_code j.answer; sums = j.sums }

-- ---- hb_pool: the problems that lists spell, pooled into the sums that five buffers spell
unfoldable pub pool_stored : ℤ → List ℕ → Problems (List ℕ) → Lent (List ℕ) → Left (List ℕ)
pool_stored n orders q b = stored_sums (order_of n) (spelled_pool n orders q b) b

unfoldable pub pool_entry : ℤ → List ℕ → Problems (List ℕ) → Lent (List ℕ) → GatherResult
pool_entry n orders q b =
    let j : Left (List ℕ) = pool_stored n orders q b in
    record { number = gathered_code j.answer; sums = j.sums }

-- ---- hb_read_sums: the sums that the buffers spell, with linear terms from a to b, a running limit α and an allowance K
-- these sums, or with a limit in place of the running limit the constraint that they give
abbrev pub spelled_with : ℤ → List ℕ → List ℕ → List ℕ → List ℕ → ℤ → Constraint
spelled_with n l u a b α =
    let k : ℕ = order_of n in
    constraint_of k (table_of k l) (table_of k u) (vector_of k a) (vector_of k b) α

unfoldable pub read_stored : ℤ → List ℕ → List ℕ → List ℕ → List ℕ → ℤ → ℤ → List ℕ → ReadOut
read_stored n l u a b α K s =
    stored_limit
    (read_sums n (read_buffers (order_of n) (lengths_of (length l) (length u) (length a) (length b)) (length s)) K
    (spelled_with n l u a b α))
    s

-- the number of the answer, and the buffer as it is left
pub record ReadResult : Type 0 where
  pub number : ℤ
  pub limit : List ℕ

unfoldable pub read_entry : ℤ → List ℕ → List ℕ → List ℕ → List ℕ → ℤ → ℤ → List ℕ → ReadResult
read_entry n l u a b α K s =
    let j : ReadOut = read_stored n l u a b α K s in
    record { number = reading_code j.answer; limit = j.limit }

-- ---- hb_read_summary: the problem of a file s into seven buffers
-- the number of the answer, and the buffers as they are left
pub record ReadSummaryResult : Type 0 where
  pub number : ℤ
  pub parts : Parts

unfoldable pub read_summary_entry : List ℕ → Parts → ReadSummaryResult
read_summary_entry s b =
    let j : Handed = read_summary s b in
    record { number = checked_code j.answer; parts = j.parts }

-- ---- hb_write_summary: the file of the problem that the buffers spell, with linear terms from a to b, a limit α and a centre c, into s
-- the number of the answer, and the buffer as it is left
pub record WriteSummaryResult : Type 0 where
  pub number : ℤ
  pub file : List ℕ

unfoldable pub write_summary_entry : ℤ → List ℕ → List ℕ → List ℕ → List ℕ → ℤ → List ℕ → List ℕ →
    WriteSummaryResult
write_summary_entry n l u a b α c s =
    let j : Written = write_summary n l u a b α c s in
    record { number = checked_code j.answer; file = j.file }

-- ---- hb_bus_write and hb_bus_tick: the number of the answer, and block and run area as they are left
pub record BusResult : Type 0 where
  pub number : ℤ
  pub bus : Bus

abbrev pub moved_result : Moved → BusResult
moved_result m = record { number = checked_code m.answer; bus = m.bus }

unfoldable pub bus_write_entry : List ℕ → List ℕ → ℤ → ℕ → List ℕ → List ℕ → BusResult
bus_write_entry b s k v l u = moved_result (write b s k v l u)

unfoldable pub bus_tick_entry : List ℕ → List ℕ → BusResult
bus_tick_entry b s = moved_result (tick b s)

-- ---- hb_bus_read: the number of the answer, and the buffer of the byte as it is left
pub record BusReadResult : Type 0 where
  pub number : ℤ
  pub value : List ℕ

abbrev pub read_result : ReadBack → BusReadResult
read_result m = record { number = checked_code m.answer; value = m.value }

unfoldable pub bus_read_entry : List ℕ → ℤ → List ℕ → BusReadResult
bus_read_entry b k x = read_result (read b k x)

-- ---- hb_bus_line
unfoldable pub bus_line_entry : List ℕ → ℤ
bus_line_entry b = line_code (line b)
