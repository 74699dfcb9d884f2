-- The factor test, R5.3 and R7.4 of docs/RULES.md: checks 1 to 6, and then the residual test, with what the rows have over; and what its
-- answer means (D3).
use Rattle.std.specs.Prelude.{◌≡◌, Bool, ◌&&◌, true, false, ◌⊎◌, List, [], ◌∷◌, ℤ, pos, negsuc, nat_abs, ◌≤ℤ◌, ◌<ℤ◌, length, Result, Ok}
use Rattle.std.specs.Prelude.{Err}
use Prim.Native.Nat.{Ordering}
use Prim.Native.Nat.{ℕ, ◌*◌, ◌<◌, compare}
use Rattle.std.specs.Int.Signed.{le_z}
use Rattle.tables.specs.Ranges.{factor_range}
use Rattle.tables.specs.Matrix.{Matrix, at}
use Rattle.tables.specs.Checks.{Check, all, within, same, first_refusal, order_of, sizes_ok}
use Rattle.tables.specs.Members.{PositiveDefinite}
use Rattle.tables.specs.Answers.{after, answer_code}
use Rattle.tables.specs.Entering.{low_bounds, high_bounds, entered}
use Rattle.tables.specs.declared.Refusal.{Refusal}
use Rattle.tables.specs.declared.Refusal.TheVariants.{Factor}
use Rattle.residual.specs.Residual.{accepts, over, over_limit, FormBound}
use Rattle.residual.specs.declared.factor_test.FactorAnswer.{FactorAnswer}

-- 6, R2.8: an entry of an offered factor is 0 below the diagonal, 1 to 2^26 on it, and within ±2^26 above it
unfoldable pub factor_entry : ℕ → ℕ → ℤ → Bool
factor_entry i j x =
    elim (compare i j) [
      | Ordering.lt ↦ within factor_range x
      | Ordering.eq ↦ le_z (pos 1) x && le_z x (pos factor_range)
      | Ordering.gt ↦ same x (pos 0)
    ]

unfoldable pub factor_shape : ℕ → Matrix → Bool
factor_shape n R = all n (λ i. all n (λ j. factor_entry i j (R i j)))

abbrev pub check_factor : ℕ → Matrix → Check
check_factor n R = record { passes = factor_shape n R; otherwise = Factor }

-- R7.4: 'accepted' or 'not accepted', either with what the rows have over
unfoldable pub tested : Bool → ℤ → FactorAnswer
tested b v = elim b [ true ↦ FactorAnswer.Accepted v | false ↦ FactorAnswer.NotAccepted v ]

-- what the rows have over, with either
abbrev pub carried : FactorAnswer → ℤ
carried (FactorAnswer.Accepted v) = v
carried (FactorAnswer.NotAccepted v) = v

-- check 6, and the residual test of a factor R against bounds L and U, of order n
unfoldable pub factor_answer : ℕ → Matrix → Matrix → Matrix → Result FactorAnswer Refusal
factor_answer n L U R = after Err (first_refusal (check_factor n R ∷ [])) (Ok (tested (accepts n R L U) (over n R L U)))

-- the factor test, where check 2 finds `sized`
unfoldable pub factor_tested : ℤ → Bool → List ℤ → List ℤ → List ℤ → Result FactorAnswer Refusal
factor_tested n sized l u f =
    let k : ℕ = order_of n in
    entered Err n sized true l u (factor_answer k (low_bounds k l) (high_bounds k u) (at k f))

-- 2, R4.2: each lent table has the size that belongs to n
abbrev pub factor_sizes : ℕ → ℕ → ℕ → ℕ → Bool
factor_sizes n = sizes_ok (n * n) (n * n)

-- the same of buffers, where `taken` says how many elements so many numbers take
abbrev pub factor_lengths : {A : Type 0} → (ℕ → ℕ) → ℕ → List A → List A → List A → Bool
factor_lengths taken n l u f = sizes_ok (taken (n * n)) (taken (n * n)) (length l) (length u) (length f)

-- the factor test of the numbers that buffers hold, where check 2 finds `sized`
unfoldable pub factor_act : {A : Type 0} → (List A → ℕ → List ℤ) → ℤ → Bool → List A → List A → List A → Result FactorAnswer Refusal
factor_act numbers n sized l u f =
    let k : ℕ = order_of n in
    factor_tested n sized (numbers l (k * k)) (numbers u (k * k)) (numbers f (k * k))

-- of numbers themselves, of anything at all
unfoldable pub factor_test : ℤ → List ℤ → List ℤ → List ℤ → Result FactorAnswer Refusal
factor_test n l u f = factor_act (λ x k. x) n (factor_sizes (order_of n) (length l) (length u) (length f)) l u f

-- R15.4: the number at the C entry, 0, -1, or the refusal's
abbrev pub factor_number : FactorAnswer → ℤ
factor_number (FactorAnswer.Accepted v) = pos 0
factor_number (FactorAnswer.NotAccepted v) = negsuc 0

abbrev pub factor_code : Result FactorAnswer Refusal → ℤ
factor_code r = answer_code factor_number r

-- ---- what an answer means
-- an answer with v over
abbrev pub Carries : Result FactorAnswer Refusal → ℤ → Type 0
Carries r v = (r ≡ Ok (FactorAnswer.Accepted v)) ⊎ (r ≡ Ok (FactorAnswer.NotAccepted v))

-- k is the order, l and u the tables as they are handed in, and f the factor
module _ (n : ℤ) (l u f : List ℤ) where
  abbrev k : ℕ
  k = order_of n

  pub record Meaning (r : Result FactorAnswer Refusal) : Type 0 where
    -- D3.1: 'accepted', every member is positive definite
    pub definite : (v : ℤ) → r ≡ Ok (FactorAnswer.Accepted v) → PositiveDefinite k (at k l) (at k u)
    -- R7.7: accepted with 0 or more over, and not accepted with less
    pub enough : (v : ℤ) → r ≡ Ok (FactorAnswer.Accepted v) → pos 0 ≤ℤ v
    pub lacking : (v : ℤ) → r ≡ Ok (FactorAnswer.NotAccepted v) → v <ℤ pos 0
    -- either way |v| < 2^60, and (D3.8) 2^32 x'Mx ≥ v x'x + |Rx|² for every member M and every x
    pub small : (v : ℤ) → Carries r v → nat_abs v < over_limit
    pub bound : (v : ℤ) → Carries r v → FormBound k (at k f) (at k l) (at k u) v
