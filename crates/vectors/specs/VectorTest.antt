-- The vector test, R5.4 and R8.4 of docs/RULES.md: checks 1 to 5 and 7, and then what the vector shows.
use Rattle.std.specs.Prelude.{◌≡◌, Bool, true, false, ◌&&◌, List, [], ◌∷◌, ℕ, ◌*◌, ℤ, length, Result, Ok, Err}
use Rattle.tables.specs.Ranges.{vector_range}
use Rattle.tables.specs.Matrix.{Matrix, at, nth}
use Rattle.tables.specs.Checks.{Check, all, within, first_refusal, order_of, sizes_ok}
use Rattle.tables.specs.Answers.{after}
use Rattle.tables.specs.Entering.{low_bounds, high_bounds, entered}
use Rattle.tables.specs.declared.Refusal.TheVariants.{Vector}
use Rattle.tables.specs.declared.Refusal.{Refusal}
use Rattle.vectors.specs.Least.{nonzero, shows, Witness}

-- 7, R4.7: some entry of an offered vector is not 0, and all are within ±2^15
unfoldable pub vector_shape : ℕ → (ℕ → ℤ) → Bool
vector_shape n x = nonzero n x && all n (λ i. within vector_range (x i))

abbrev pub check_vector : ℕ → (ℕ → ℤ) → Check
check_vector n x = record { passes = vector_shape n x; otherwise = Vector }

-- check 7, and what a vector x shows of bounds L and U, of order n
unfoldable pub vector_answer : ℕ → Matrix → Matrix → (ℕ → ℤ) → Result Bool Refusal
vector_answer n L U x = after Err (first_refusal (check_vector n x ∷ [])) (Ok (shows n L U x))

-- the vector test, where check 2 finds `sized`
unfoldable pub vector_tested : ℤ → Bool → List ℤ → List ℤ → List ℤ → Result Bool Refusal
vector_tested n sized l u v =
    let k : ℕ = order_of n in
    entered Err n sized true l u (vector_answer k (low_bounds k l) (high_bounds k u) (nth v))

-- 2, R4.2: each lent buffer has the size that belongs to n; `taken` says how many elements so many numbers take
abbrev pub vector_sizes : (ℕ → ℕ) → ℕ → ℕ → ℕ → ℕ → Bool
vector_sizes taken n = sizes_ok (taken (n * n)) (taken n)

-- the vector test of the numbers that buffers of any length hold
unfoldable pub vector_act : {A : Type 0} → (ℕ → ℕ) → (List A → ℕ → List ℤ) → ℤ → List A → List A → List A → Result Bool Refusal
vector_act taken numbers n l u v =
    let k : ℕ = order_of n in
    vector_tested n (vector_sizes taken k (length l) (length u) (length v)) (numbers l (k * k)) (numbers u (k * k)) (numbers v k)

-- of numbers themselves
unfoldable pub vector_test : ℤ → List ℤ → List ℤ → List ℤ → Result Bool Refusal
vector_test n l u v = vector_act (λ k. k) (λ x k. x) n l u v

-- what an answer means: 'yes' that some member M has x'Mx ≤ 0, for this x, which is nonzero; 'no' that none has
pub record Meaning (r : Result Bool Refusal) (n : ℕ) (l u v : List ℤ) : Type 0 where
  pub yes : r ≡ Ok true → Witness n (at n l) (at n u) (nth v)
  pub no : r ≡ Ok false → Witness n (at n l) (at n u) (nth v) → ⊥
