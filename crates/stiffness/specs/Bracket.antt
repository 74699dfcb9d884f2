-- The bracket of the stiffness, R26 of docs/RULES.md: what it is, what the act answers and writes, and what its answer means (D3.9).
use Rattle.std.specs.Prelude.{◌≡◌, Bool, true, false, ℕ, ◌*◌, ℤ, pos, negsuc, ◌-ℤ◌, ◌*ℤ◌, ◌≤ℤ◌, ◌<ℤ◌, length, Result, Ok, Err}
use mathlib.Core.List.{List, [], ◌∷◌, Memᴰ}
use Rattle.std.proofs.Math.Option.{Option, none, some}
use Rattle.integers.specs.Numbers.{min_ℤ}
use Rattle.integers.specs.Division.{ceil_div}
use Rattle.tables.specs.Matrix.{Matrix, at, nth, form, norm_squared}
use Rattle.tables.specs.Members.{Member, Nonzero}
use Rattle.tables.specs.Checks.{order_of}
use Rattle.tables.specs.Answers.{answer_code}
use Rattle.tables.specs.Entering.{low_bounds, high_bounds, entered}
use Rattle.tables.specs.declared.Refusal.{Refusal}
use Rattle.cholesky.specs.Factoring.{factored}
use Rattle.vectors.specs.Least.{least_value, nonzero, under, WitnessAt}
use Rattle.vectors.specs.VectorTest.{vector_sizes}
use Rattle.tried.specs.Tried.{tried, first}
use Rattle.steps.specs.Steps.{step}
use Rattle.stiffness.specs.declared.bracket.Stiffness.{Stiffness}

-- R26.2: least(x) / x'x, rounded up
unfoldable pub quotient : ℕ → Matrix → Matrix → (ℕ → ℤ) → ℤ
quotient n L U x = ceil_div (least_value n L U x) (norm_squared n x)

-- the least of v and of the quotients of a list's vectors but 0
unfoldable pub least_quotient : ℕ → Matrix → Matrix → ℤ → List (List ℤ) → ℤ
least_quotient n L U v [] = v
least_quotient n L U v (x ∷ l) =
    let w : ℤ = least_quotient n L U v l in
    elim (nonzero n (nth x)) [ true ↦ min_ℤ (quotient n L U (nth x)) w | false ↦ w ]

-- R26.3: v, the least quotient of all tried vectors but 0. L(1,1) is the quotient of one of them, 1 in front of zeros
unfoldable pub least_bound : ℕ → Matrix → Matrix → ℤ
least_bound n L U = least_quotient n L U (L 0 0) (tried n)

-- the first tried vector that is under w
unfoldable pub first_under : ℕ → Matrix → Matrix → ℤ → Option (List ℤ)
first_under n L U w = first (λ x. under n L U w (nth x)) (tried n)

-- a bracket: t, v and the vector that is shown; v and the vector; or a refusal
pub data Bracketing : Type 0 where
  between : ℤ → ℤ → List ℤ → Bracketing
  at_most : ℤ → List ℤ → Bracketing
  refused : Refusal → Bracketing

-- one vector is under v, so that there is a first
abbrev pub shown : Option (List ℤ) → List ℤ
shown (some x) = x
shown none = []

-- R26.4, R26.5: the first tried vector that is under v, and t where the tables are factored to the end
unfoldable pub bracketed : ℕ → Matrix → Matrix → Bracketing
bracketed n L U =
    let v : ℤ = least_bound n L U in
    let x : List ℤ = shown (first_under n L U v) in
    elim (factored n L U).ends [ true ↦ between (step n L U) v x | false ↦ at_most v x ]

-- checks 1 to 5, where check 2 finds `sized`, and the bracket of the bounds of l and u
unfoldable pub bracketing : ℤ → Bool → List ℤ → List ℤ → Bracketing
bracketing n sized l u =
    let k : ℕ = order_of n in
    entered refused n sized true l u (bracketed k (low_bounds k l) (high_bounds k u))

-- ---- the act: its answer, and the vector's buffer as it leaves it, a list of numbers or of the bytes that spell them
pub record Bracketed (A : Type 0) : Type 0 where
  pub stiffness : Result Stiffness Refusal
  pub vector : A

-- R26.6: the vector is written with every answer, and kept by a refusal. F lays it into a buffer.
abbrev pub laid : {A : Type 0} → (List ℤ → A) → Bracketing → A → Bracketed A
laid F (between t v x) y = record { stiffness = Ok (Stiffness.Between t v); vector = F x }
laid F (at_most v x) y = record { stiffness = Ok (Stiffness.AtMost v); vector = F x }
laid F (refused r) y = record { stiffness = Err r; vector = y }

-- into a buffer of numbers
abbrev pub written : Bracketing → List ℤ → Bracketed (List ℤ)
written = laid (λ x. x)

-- into a buffer of elements, those of n numbers
abbrev pub stored : {A : Type 0} → (List ℤ → ℕ → List A) → ℕ → Bracketing → List A → Bracketed (List A)
stored elements n = laid (λ x. elements x n)

-- 2, R4.2: each lent buffer has the size that belongs to n; `taken` says how many elements so many numbers take
abbrev pub bracket_lengths : {A : Type 0} → (ℕ → ℕ) → ℕ → List A → List A → List A → Bool
bracket_lengths taken n l u y = vector_sizes taken n (length l) (length u) (length y)

-- the bracket of the numbers that buffers hold, where check 2 finds `sized`
unfoldable pub bracket_act : {A : Type 0} → (List A → ℕ → List ℤ) → (List ℤ → ℕ → List A) → ℤ → Bool → List A → List A → List A →
    Bracketed (List A)
bracket_act numbers elements n sized l u y =
    let k : ℕ = order_of n in
    stored elements k (bracketing n sized (numbers l (k * k)) (numbers u (k * k))) y

-- of numbers themselves: of anything at all, and a buffer that holds anything
unfoldable pub bracket : ℤ → List ℤ → List ℤ → List ℤ → Bracketed (List ℤ)
bracket n l u y = bracket_act (λ x k. x) (λ x k. x) n (bracket_lengths (λ k. k) (order_of n) l u y) l u y

-- R15.4: the number at the C entry, 0, -1, or the refusal's
abbrev pub bracket_number : Stiffness → ℤ
bracket_number (Stiffness.Between t v) = pos 0
bracket_number (Stiffness.AtMost v) = negsuc 0

abbrev pub bracket_code : Result Stiffness Refusal → ℤ
bracket_code r = answer_code bracket_number r

-- ---- what an answer means
-- the step and the bound that an answer gives
abbrev pub step_of : Result Stiffness Refusal → Option ℤ
step_of (Ok (Stiffness.Between t v)) = some t
step_of (Ok (Stiffness.AtMost v)) = none
step_of (Err r) = none

abbrev pub bound_of : Result Stiffness Refusal → Option ℤ
bound_of (Ok (Stiffness.Between t v)) = some v
bound_of (Ok (Stiffness.AtMost v)) = some v
bound_of (Err r) = none

-- x'Mx > t·x'x for every member M and every nonzero x. For X over p both sides have the factor 1/p²: so X stands for it
pub record Stiffer (n : ℕ) (L U : Matrix) (t : ℤ) : Type 0 where
  pub above : (N : Matrix) (q : ℤ) → Member n L U N q → (x : ℕ → ℤ) → Nonzero n x →
      (q *ℤ t *ℤ norm_squared n x) <ℤ form n N x

-- D3.9, of the tables as they are handed in; k is the order, and x the buffer as it is left
module _ (n : ℤ) (l u : List ℤ) where
  abbrev k : ℕ
  k = order_of n

  pub record Meaning (r : Result Stiffness Refusal) (x : List ℤ) : Type 0 where
    -- t is 0 or more, and every member is stiffer than that
    pub nonneg : (t : ℤ) → step_of r ≡ some t → pos 0 ≤ℤ t
    pub stiffer : (t : ℤ) → step_of r ≡ some t → Stiffer k (at k l) (at k u) t
    -- the vector that is written is a tried one, and some member M has x'Mx ≤ v·x'x for it
    pub from_list : (v : ℤ) → bound_of r ≡ some v → Memᴰ x (tried k)
    pub witness : (v : ℤ) → bound_of r ≡ some v → WitnessAt k (at k l) (at k u) v (nth x)
    -- no member M has y'My ≤ (v - 1)·y'y for a tried y but 0
    pub least : (v : ℤ) → bound_of r ≡ some v → (y : List ℤ) → Memᴰ y (tried k) →
        WitnessAt k (at k l) (at k u) (v -ℤ pos 1) (nth y) → ⊥
    pub ordered : (t v : ℤ) → step_of r ≡ some t → bound_of r ≡ some v → t <ℤ v
