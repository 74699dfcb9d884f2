-- The judge, R11 of docs/RULES.md: what it answers, what it writes, and what its answer means (D3).
use Rattle.std.specs.Prelude.{◌≡◌, Bool, true, false, ◌&&◌, ℕ, ◌*◌, eqb, ℤ, pos, negsuc, ◌≤ℤ◌, length, Result, Ok, Err}
use mathlib.Core.List.{List, ◌++◌, Memᴰ}
use Rattle.std.proofs.Math.Option.{Option, none, some}
use Rattle.tables.specs.Matrix.{Matrix, at, nth, table}
use Rattle.tables.specs.Members.{PositiveDefinite, Margin}
use Rattle.tables.specs.Answers.{answer_code}
use Rattle.tables.specs.Checks.{order_of, sizes_ok}
use Rattle.tables.specs.Entering.{low_bounds, high_bounds, entered}
use Rattle.tables.specs.declared.Refusal.{Refusal}
use Rattle.cholesky.specs.Factoring.{entries, factored}
use Rattle.residual.specs.Residual.{over, FormBound}
use Rattle.residual.specs.FactorTest.{factor_tested}
use Rattle.residual.specs.declared.factor_test.FactorAnswer.TheVariants.{Accepted}
use Rattle.vectors.specs.Least.{shows, Witness}
use Rattle.vectors.specs.VectorTest.{vector_tested}
use Rattle.tried.specs.Tried.{tried, first}
use Rattle.solved.specs.Solved.{solved}
use Rattle.verdict.specs.declared.judge.Verdict.{Verdict}

-- a verdict with what goes with it: the table of the factor and what the rows have over, or the vector that shows it
pub data Judgement : Type 0 where
  definite : List ℤ → ℤ → Judgement
  not_definite : List ℤ → Judgement
  undecided : Judgement
  refused : Refusal → Judgement

-- R11.1: the listed vectors, tried, then solved for 1 and for 64. Where factoring ends no column stopped: the solved ones are zero, and
-- show nothing.
unfoldable pub listed : ℕ → Matrix → Matrix → List (List ℤ)
listed n L U = tried n ++ (solved n (factored n L U) (pos 1) ++ solved n (factored n L U) (pos 64))

abbrev pub shown_by : Option (List ℤ) → Judgement
shown_by (some x) = not_definite x
shown_by none = undecided

-- 'definite', with the factor R
abbrev pub definite_by : ℕ → Matrix → Matrix → Matrix → Judgement
definite_by n L U R = definite (table n R) (over n R L U)

-- R11.2 to R11.4: 'definite' where factoring ends; else by the first listed vector that shows 'not definite', if there is one
unfoldable pub judged : ℕ → Matrix → Matrix → Judgement
judged n L U =
    elim (factored n L U).ends [
      | true ↦ definite_by n L U (entries (factored n L U).columns)
      | false ↦ shown_by (first (λ x. shows n L U (nth x)) (listed n L U))
    ]

-- checks 1 to 5, where check 2 finds `sized`, and the verdict on the bounds of l and u
unfoldable pub judging : ℤ → Bool → List ℤ → List ℤ → Judgement
judging n sized l u = let k : ℕ = order_of n in entered refused n sized true l u (judged k (low_bounds k l) (high_bounds k u))

-- ---- the act: its verdict, and both buffers as it leaves them, each a list of numbers or of the bytes that spell them
pub record Judged (A : Type 0) : Type 0 where
  pub verdict : Result Verdict Refusal
  pub factor : A
  pub vector : A

-- R11.2 to R11.4: which buffer each verdict writes; a refusal writes neither (D1.3). F lays a table into a buffer, and V a vector.
abbrev pub laid : {A : Type 0} → (List ℤ → A) → (List ℤ → A) → Judgement → A → A → Judged A
laid F V (definite t w) f v = record { verdict = Ok (Verdict.Definite w); factor = F t; vector = v }
laid F V (not_definite x) f v = record { verdict = Ok Verdict.NotDefinite; factor = f; vector = V x }
laid F V undecided f v = record { verdict = Ok Verdict.Undecided; factor = f; vector = v }
laid F V (refused r) f v = record { verdict = Err r; factor = f; vector = v }

-- into buffers of elements, those of n² numbers and of n
abbrev pub stored : {A : Type 0} → (List ℤ → ℕ → List A) → ℕ → Judgement → List A → List A → Judged (List A)
stored elements n = laid (λ t. elements t (n * n)) (λ x. elements x n)

-- into buffers of numbers
abbrev pub written : Judgement → List ℤ → List ℤ → Judged (List ℤ)
written = laid (λ t. t) (λ x. x)

-- 2, R4.2: each lent buffer has the size that belongs to n, that of a table or that of a vector
unfoldable pub judge_sizes : ℕ → ℕ → ℕ → ℕ → ℕ → ℕ → Bool
judge_sizes table vector l u f v = sizes_ok table table l u f && eqb v vector

-- the same of buffers, where `taken` says how many elements so many numbers take
abbrev pub judge_lengths : {A : Type 0} → (ℕ → ℕ) → ℕ → List A → List A → List A → List A → Bool
judge_lengths taken n l u f v = judge_sizes (taken (n * n)) (taken n) (length l) (length u) (length f) (length v)

-- the judge of the numbers that buffers hold, where check 2 finds `sized`
unfoldable pub judge_act : {A : Type 0} → (List A → ℕ → List ℤ) → (List ℤ → ℕ → List A) → ℤ → Bool → List A → List A →
    List A → List A → Judged (List A)
judge_act numbers elements n sized l u f v =
    let k : ℕ = order_of n in
    stored elements k (judging n sized (numbers l (k * k)) (numbers u (k * k))) f v

-- of numbers themselves: of anything at all, and buffers that hold anything
unfoldable pub judge : ℤ → List ℤ → List ℤ → List ℤ → List ℤ → Judged (List ℤ)
judge n l u f v = judge_act (λ x k. x) (λ x k. x) n (judge_lengths (λ k. k) (order_of n) l u f v) l u f v

-- R15.4: the number at the C entry, 0, -1, -2, or the refusal's
abbrev pub verdict_number : Verdict → ℤ
verdict_number (Verdict.Definite w) = pos 0
verdict_number Verdict.NotDefinite = negsuc 0
verdict_number Verdict.Undecided = negsuc 1

abbrev pub verdict_code : Result Verdict Refusal → ℤ
verdict_code r = answer_code verdict_number r

-- ---- what a verdict means
-- the call is not refused
abbrev pub NotRefused : Result Verdict Refusal → Type 0
NotRefused r = (k : Refusal) → r ≡ Err k → ⊥

-- the verdict is 'definite'
pub record IsDefinite (r : Result Verdict Refusal) : Type 0 where
  pub over : ℤ
  pub verdict : r ≡ Ok (Verdict.Definite over)

-- k is the order, L and U the bounds of the mended tables; f and v are the buffers as they are left
module _ (n : ℤ) (l u : List ℤ) where
  abbrev k : ℕ
  k = order_of n

  abbrev L : Matrix
  L = low_bounds k l

  abbrev U : Matrix
  U = high_bounds k u

  pub record Meaning (r : Result Verdict Refusal) (f v : List ℤ) : Type 0 where
    -- D3.2, D3.6: 'definite' with w over, every member of the tables as they are handed in is positive definite, and the factor test
    -- accepts the factor that is written, with w over
    pub definite : (w : ℤ) → r ≡ Ok (Verdict.Definite w) → PositiveDefinite k (at k l) (at k u)
    pub accepted : (w : ℤ) → r ≡ Ok (Verdict.Definite w) → factor_tested n true l u f ≡ Ok (Accepted w)
    -- D3.8: w is 0 or more, and 2^32 x'Mx ≥ w x'x + |Rx|² for every member M, every x and the factor R that is written
    pub enough : (w : ℤ) → r ≡ Ok (Verdict.Definite w) → pos 0 ≤ℤ w
    pub bound : (w : ℤ) → r ≡ Ok (Verdict.Definite w) → FormBound k (at k f) (at k l) (at k u) w
    -- D2.4: 'not definite', the vector that is written is listed and a witness vector, and the vector test says yes of it
    pub shown : r ≡ Ok Verdict.NotDefinite → Witness k (at k l) (at k u) (nth v)
    pub confirmed : r ≡ Ok Verdict.NotDefinite → vector_tested n true l u v ≡ Ok true
    pub from_list : r ≡ Ok Verdict.NotDefinite → Memᴰ v (listed k L U)
    -- D2.4: 'not definite' wherever a listed vector shows it
    pub exactly : NotRefused r → (x : List ℤ) → Memᴰ x (listed k L U) →
        shows k L U (nth x) ≡ true → r ≡ Ok Verdict.NotDefinite
    -- D3.5: with the margin of the mended tables, 'definite'
    pub margin : NotRefused r → Margin k L U → IsDefinite r
