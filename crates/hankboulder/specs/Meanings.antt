-- D3 of docs/RULES.md at the entries for C: what an answer means, by its number r, of the numbers that the buffers spell.
use Rattle.std.specs.Prelude.{◌≡◌, true, ℕ, ◌*◌, ◌<◌, ℤ, pos, negsuc, ◌-ℤ◌, ◌*ℤ◌, nat_abs, ◌≤ℤ◌, ◌<ℤ◌, length, Ok}
use mathlib.Core.List.{List, Memᴰ}
use Rattle.std.specs.Int.{w64}
use mir.Val.{bytes}
use Rattle.tables.specs.Refusals.{refusal_number}
use Rattle.tables.specs.Matrix.{Matrix, at, nth}
use Rattle.tables.specs.Checks.{order_of}
use Rattle.tables.specs.Entering.{low_bounds, high_bounds}
use Rattle.tables.specs.Problem.{constraint_of, mended_problem}
use Rattle.tables.specs.Members.{PositiveDefinite, Margin}
use Rattle.residual.specs.Residual.{over_limit, FormBound}
use Rattle.vectors.specs.Least.{shows, Witness, WitnessAt}
use Rattle.tried.specs.Tried.{tried}
use Rattle.verdict.specs.Judge.{listed}
use Rattle.enclosure.specs.Points.{Allowed, Contains}
use Rattle.stiffness.specs.Bracket.{Stiffer}
use Rattle.sums.specs.Lent.{Lent}
use Rattle.sums.specs.Explaining.{Explained}
use Rattle.samples.specs.declared.sample.Sample.{Sample}
use Rattle.pool.specs.Pool.{Problems}
use Rattle.pool.specs.Act as Pooled
use Rattle.rides.specs.Act.{Explaining}
use Rattle.tables.specs.declared.Refusal.TheVariants.{Full}
use Rattle.summary.specs.Problems.{file_of, reading, LetThrough, spelled_by, SymmetricTables}
use Rattle.buffers.specs.Buffers.{table_of, vector_of, sides_of, number_of}
use Rattle.sums_buffers.specs.SumsBuffers.{spelled_sums}
use Rattle.hankboulder.specs.PoolBuffers.{pool_count, spelled_problems}
use Rattle.file_buffers.specs.Parts.{Parts, parts_roomy, spelled, order_in, problem_in}
use Rattle.file_buffers.specs.Filing.{front, laid_out}
use Rattle.hankboulder.specs.Entries.{test_factor_entry, test_vector_entry, spelled_with, read_summary_entry, write_summary_entry}

-- k is the order, L and U the tables as they are handed in, and L' and U' the mended ones
module _ (n : ℤ) (l u : List ℕ) where
  abbrev k : ℕ
  k = order_of n

  abbrev L : Matrix
  L = at k (table_of k l)

  abbrev U : Matrix
  U = at k (table_of k u)

  abbrev L' : Matrix
  L' = low_bounds k (table_of k l)

  abbrev U' : Matrix
  U' = high_bounds k (table_of k u)

  -- f: the factor that is offered; o: the buffer of what the rows have over as it is left
  pub record FactorMeaning (f : List ℕ) (r : ℤ) (o : List ℕ) : Type 0 where
    -- 0, the factor is accepted (D3.1): x'Mx > 0 for every member M and every nonzero x; the number in over is 0 or more
    pub definite : r ≡ pos 0 → PositiveDefinite k L U
    pub enough : r ≡ pos 0 → pos 0 ≤ℤ number_of o
    -- -1, it is not: the number is negative
    pub lacking : r ≡ negsuc 0 → number_of o <ℤ pos 0
    -- no refusal: with v in over, |v| < 2^60, and (D3.8) 2^32 x'Mx ≥ v x'x + |Rx|² for every member M, every x and the factor R
    pub small : r ≤ℤ pos 0 → nat_abs (number_of o) < over_limit
    pub bound : r ≤ℤ pos 0 → FormBound k (at k (table_of k f)) L U (number_of o)

  -- v: the vector that is offered
  pub record VectorMeaning (v : List ℕ) (r : ℤ) : Type 0 where
    -- 0, yes: the vector is not zero, and some member M has x'Mx ≤ 0 for it
    pub yes : r ≡ pos 0 → Witness k L U (nth (vector_of k v))
    -- -1, no: no member has
    pub no : r ≡ negsuc 0 → Witness k L U (nth (vector_of k v)) → ⊥

  -- f, v and o: the buffers as they are left
  pub record JudgeMeaning (r : ℤ) (f v o : List ℕ) : Type 0 where
    -- 0, definite (D3.2, D3.6): x'Mx > 0 for every member M and every nonzero x, and hb_test_factor accepts the factor that is written,
    -- and writes the number in over to any buffer of its size
    pub definite : r ≡ pos 0 → PositiveDefinite k L U
    pub accepted : r ≡ pos 0 → (s : List ℕ) → length s ≡ bytes w64 →
        test_factor_entry n l u f s ≡ record { number = pos 0; over = o }
    -- D3.8: that number, w, is 0 or more, and 2^32 x'Mx ≥ w x'x + |Rx|² for every member M, every x and the factor R that is written
    pub enough : r ≡ pos 0 → pos 0 ≤ℤ number_of o
    pub bound : r ≡ pos 0 → FormBound k (at k (table_of k f)) L U (number_of o)
    -- -1, not definite (D2.4): the vector that is written is listed and a witness vector, and hb_test_vector says yes of it
    pub shown : r ≡ negsuc 0 → Witness k L U (nth (vector_of k v))
    pub confirmed : r ≡ negsuc 0 → test_vector_entry n l u v ≡ pos 0
    pub from_list : r ≡ negsuc 0 → Memᴰ (vector_of k v) (listed k L' U')
    -- no refusal, and some listed vector shows it: -1 (D2.4)
    pub exactly : r ≤ℤ pos 0 → (x : List ℤ) → Memᴰ x (listed k L' U') →
        shows k L' U' (nth x) ≡ true → r ≡ negsuc 0
    -- no refusal, and the margin of R3.5, of the mended tables: 0 (D3.5)
    pub margin : r ≤ℤ pos 0 → Margin k L' U' → r ≡ pos 0

  -- a and b: the ends of the linear terms; s: the sides as they are left
  pub record BoxMeaning (a b : List ℕ) (α r : ℤ) (s : List ℕ) : Type 0 where
    -- 0, a box is given: it contains every point of the ellipsoid, for every member and all linear terms between the ends (D3.3)
    pub holds : r ≡ pos 0 → (X : ℕ → ℤ) (p : ℤ) →
        Allowed (constraint_of k (table_of k l) (table_of k u) (vector_of k a) (vector_of k b) α) X p → Contains k (sides_of k s) X p
    -- -1, empty: there is no point (D3.4)
    pub none : r ≡ negsuc 0 → (X : ℕ → ℤ) (p : ℤ) →
        Allowed (constraint_of k (table_of k l) (table_of k u) (vector_of k a) (vector_of k b) α) X p → ⊥

  -- s, b and x: step, bound and vector as they are left
  pub record StiffnessMeaning (r : ℤ) (s b x : List ℕ) : Type 0 where
    -- 0, the step is given (D3.9): the number in step, t, is 0 or more, and x'Mx > t·x'x for every member M and every nonzero x
    pub nonneg : r ≡ pos 0 → pos 0 ≤ℤ number_of s
    pub stiffer : r ≡ pos 0 → Stiffer k L U (number_of s)
    -- it is less than the number in bound
    pub ordered : r ≡ pos 0 → number_of s <ℤ number_of b
    -- no refusal: the vector that is written is a tried one, and with v in bound some member M has x'Mx ≤ v·x'x for it
    pub from_list : r ≤ℤ pos 0 → Memᴰ (vector_of k x) (tried k)
    pub witness : r ≤ℤ pos 0 → WitnessAt k L U (number_of b) (nth (vector_of k x))
    -- no member M has y'My ≤ (v - 1)·y'y for a tried y but 0
    pub least : r ≤ℤ pos 0 → (y : List ℤ) → Memᴰ y (tried k) → WitnessAt k L U (number_of b -ℤ pos 1) (nth y) → ⊥

-- of a sample gathered into the sums that b spells; d: the buffers as they are left
pub record GatherMeaning (s : Sample) (n : ℤ) (b d : Lent (List ℕ)) (r : ℤ) : Type 0 where
  -- 0, the sample is taken: what the sums explain they explain with the sample in them, and the square of 16·draw − 16·factors·x
  -- besides
  pub explains : r ≡ pos 0 → Explaining s (spelled_sums (order_of n) b) (spelled_sums (order_of n) d)
  -- never 18 (R23.7)
  pub room : r ≡ pos (refusal_number Full) → ⊥

-- of problems that lists spell, pooled into the sums that b spells; d: the buffers as they are left
pub record PoolMeaning (n : ℤ) (orders : List ℕ) (q : Problems (List ℕ)) (b d : Lent (List ℕ)) (r : ℤ) : Type 0 where
  -- 0, the problems are taken (D3.10): what the sums explain at a point that every problem allows, they explain after it
  pub explains : r ≡ pos 0 → let k : ℕ = order_of n in let m : ℕ = pool_count orders in
      Pooled.Explaining (spelled_problems k m q) m (spelled_sums k b) (spelled_sums k d)
  -- a point that every problem, and the sums read with K, allow, the sums read with K allow after it
  pub allows : r ≡ pos 0 → let k : ℕ = order_of n in let m : ℕ = pool_count orders in
      Pooled.Allowing (spelled_problems k m q) m (spelled_sums k b) (spelled_sums k d)

-- of sums with linear terms between a and b and a running limit α, read with the allowance K; s: the limit's buffer as it is left
pub record ReadMeaning (n : ℤ) (l u a b : List ℕ) (α K r : ℤ) (s : List ℕ) : Type 0 where
  -- 0, the limit is written: a point that the sums explain up to K is allowed by the constraint with that limit
  pub allows : r ≡ pos 0 → (g v : ℤ) → pos 1 ≤ℤ v → g ≤ℤ (K *ℤ v) → (X : ℕ → ℤ) (p : ℤ) → pos 1 ≤ℤ p →
      Explained (spelled_with n l u a b α) g v X p → Allowed (spelled_with n l u a b (number_of s)) X p

-- of a file s that is read into buffers; d: the buffers as they are left, with `from` and `to` for linear_low and linear_high
pub record ReadSummaryMeaning (s : List ℕ) (d : Parts) (r : ℤ) : Type 0 where
  -- 0, all buffers are written: the file is accepted, and its problem is the one that the fronts of the buffers spell
  pub problem : r ≡ pos 0 → reading s ≡ Ok (problem_in d)
  -- its order is one, 3, 4, 5 and 16 let it through, and its tables are mended
  pub through : r ≡ pos 0 → LetThrough (problem_in d)
  -- R24.3: its one file is s, byte for byte, where the tables of s are symmetric, and only there
  pub file : r ≡ pos 0 → SymmetricTables (spelled_by s) → file_of (problem_in d) ≡ s
  pub only : r ≡ pos 0 → file_of (problem_in d) ≡ s → SymmetricTables (spelled_by s)
  -- R25.5: hb_write_summary writes that file from the fronts of the buffers, into any buffer of its size
  pub again : r ≡ pos 0 → (t : List ℕ) → length t ≡ length s → let k : ℕ = order_in d in
      write_summary_entry (number_of d.order) (front (k * k) d.low) (front (k * k) d.high) (front k d.from) (front k d.to)
      (number_of d.limit) (front k d.centre) t
      ≡ record { number = pos 0; file = file_of (problem_in d) }

-- of a problem that is written, with linear terms from a to b, a limit α and a centre c; s: the file's buffer as it is left
pub record WriteSummaryMeaning (n : ℤ) (l u a b : List ℕ) (α : ℤ) (c : List ℕ) (r : ℤ) (s : List ℕ) : Type 0 where
  -- 0, the file is written (R24.2): it is read as the mended problem of what was handed in
  pub back : r ≡ pos 0 → reading s ≡ Ok (mended_problem (spelled (order_of n) l u a b α c))
  -- and hb_read_summary reads it into any buffers of their sizes: the mended tables, all else as it was handed in, and zeros behind each
  pub again : r ≡ pos 0 → (d : Parts) → parts_roomy d ≡ true →
      read_summary_entry s d ≡ record { number = pos 0; parts = laid_out n l u a b α c }
