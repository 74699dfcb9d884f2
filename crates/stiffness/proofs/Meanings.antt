-- What a bracket means: D3.9 of docs/RULES.md.
use mathlib.Core.Path.{◌≡◌, refl, sym, ap, subst, ◌∙◌}
use mathlib.Core.Logic.{⊎_elim}
use mathlib.Core.Bool.{Bool, true, false, false≢true}
use mathlib.Core.List.{List, [], ◌∷◌}
use mathlib.Core.Option.{some, some-injective}
use Prim.Native.Nat.{ℕ, ◌<◌}
use native.Mathlib.Omega.{arith}
use lib.IntN.{ℤ, pos, ◌*ℤ◌}
use lib.Signed.{◌≤ℤ◌, ◌<ℤ◌}
use borrow.Table.Steps.{cases}
use Rattle.std.specs.Prelude.{Result, Ok, Err}
use Rattle.integers.proofs.Parts.{≤ℤ_trans, ≤ℤ_or_<ℤ, *ℤ-nonneg, gap-nonneg, pos_nonneg}
use Rattle.integers.proofs.Solver.{◌&◌, order, solver}
use Rattle.tables.specs.Matrix.{Matrix, at, nth}
use Rattle.tables.specs.Bounds.{Bounds}
use Rattle.tables.specs.Checks.{order_of}
use Rattle.tables.specs.Entering.{low_bounds, high_bounds}
use Rattle.tables.specs.declared.Refusal.{Refusal}
use Rattle.tables.proofs.Checks.{passed-bounds}
use Rattle.tables.proofs.MendedTables.{member_mended}
use Rattle.tables.proofs.Forms.{norm_positive}
use Rattle.tables.proofs.Admission.{Behind, order_small, order-positive, entered-means}
use Rattle.cholesky.specs.Factoring.{factored}
use Rattle.vectors.specs.Least.{WitnessAt}
use Rattle.vectors.proofs.Showing.{under-witness, witness-under, witness-at-mended, witness-at-handed}
use Rattle.steps.specs.Steps.{trial, step_bits, step}
use Rattle.steps.proofs.Bits.{bits_by}
use Rattle.steps.proofs.Strong.{step-above}
use Rattle.stiffness.specs.Bracket.{Bracketing, between, at_most, refused, shown, least_bound, first_under, bracketed, bracketing}
use Rattle.stiffness.specs.Bracket.{laid, written, step_of, bound_of, Stiffer, Meaning}
use Rattle.stiffness.specs.declared.bracket.Stiffness.{Stiffness}
use Rattle.stiffness.proofs.Quotients.{First, bound-first, none_less}

-- q·t·m < a ≤ q·v·m gives t < v, for q and m from 1 up
less_by : {q m a t v : ℤ} → pos 1 ≤ℤ q → pos 1 ≤ℤ m → (q *ℤ t *ℤ m) <ℤ a → a ≤ℤ (q *ℤ v *ℤ m) → t <ℤ v
less_by {q} {m} {a} {t} {v} h k low high =
    let product = *ℤ-nonneg (≤ℤ_trans (pos_nonneg 1) h) (≤ℤ_trans (pos_nonneg 1) k) in
    ⊎_elim
    (λ e. order (q ∷ m ∷ t ∷ v ∷ a ∷ []) (*ℤ-nonneg product (gap-nonneg e) & low & high) (search solver depth 40 fits 20000) (omega arith))
    (λ e. e) (≤ℤ_or_<ℤ v t)

-- t is 0 or more
step-nonneg : (n : ℕ) (L U : Matrix) → pos 0 ≤ℤ step n L U
unfolding step
step-nonneg n L U = bits_by (λ t. trial n L U (λ i. t)) (λ t. pos 0 ≤ℤ t) (λ t z e. z) step_bits (pos 0) (pos_nonneg 0) (pos_nonneg 0)

-- ---- the two answers
module _ (n : ℕ) (L U : Matrix) where
  -- the vector that is shown
  abbrev pub shown_vector : List ℤ
  shown_vector = shown (first_under n L U (least_bound n L U))

  by_end : Bool → Bracketing
  by_end b = elim b [ true ↦ between (step n L U) (least_bound n L U) shown_vector | false ↦ at_most (least_bound n L U) shown_vector ]

  pub bracketed-ends : (factored n L U).ends ≡ true → bracketed n L U ≡ between (step n L U) (least_bound n L U) shown_vector
  unfolding bracketed by_end
  bracketed-ends e = ap by_end e

  pub bracketed_stops : (factored n L U).ends ≡ false → bracketed n L U ≡ at_most (least_bound n L U) shown_vector
  unfolding bracketed by_end
  bracketed_stops e = ap by_end e

-- ---- behind the door
-- what the answer means that g gives over a buffer that holds y
abbrev Means : ℤ → List ℤ → List ℤ → List ℤ → Bracketing → Type 0
Means n l u y g = let j = written g y in Meaning n l u j.stiffness j.vector

module _ (n : ℤ) (sized : Bool) (l u : List ℤ) (b : Behind n sized true l u) where
  abbrev k : ℕ
  k = order_of n

  abbrev L : Matrix
  L = low_bounds k l

  abbrev U : Matrix
  U = high_bounds k u

  abbrev x : List ℤ
  x = shown_vector k L U

  abbrev v : ℤ
  v = least_bound k L U

  bounds : Bounds k L U
  bounds = passed-bounds k l u b.tables

  some_order : 0 < k
  some_order = order-positive n b.ordered

  found : First k L U v
  found = bound-first k L U some_order

  -- it is the first that is under v
  shown-first : x ≡ found.vector
  shown-first = ap shown found.found

  shown-witness : WitnessAt k (at k l) (at k u) v (nth x)
  shown-witness = rw shown-first (witness-at-handed k l u (under-witness bounds found.low))

  stiffer : (factored k L U).ends ≡ true → Stiffer k (at k l) (at k u) (step k L U)
  stiffer e = record { above = λ N q m. step-above k (order_small n) L U bounds e N q (member_mended k l u m) }

  -- t < v: one member has t·x'x < x'Mx ≤ v·x'x for the vector that is shown
  step_less : (factored k L U).ends ≡ true → step k L U <ℤ v
  step_less e =
      let w = shown-witness in
      less_by w.member.whole (norm_positive w.differs) ((stiffer e).above w.matrix w.denominator w.member (nth x) w.differs) w.low

  -- an answer that gives v, and t only where factoring ends
  answer_means : (r : Result Stiffness Refusal) → bound_of r ≡ some v →
      ((t : ℤ) → step_of r ≡ some t → (step k L U ≡ t) × ((factored k L U).ends ≡ true)) → Meaning n l u r x
  answer_means r e f =
      let same : (w : ℤ) → bound_of r ≡ some w → v ≡ w = λ w q. some-injective v w (sym e ∙ q) in
      record {
        nonneg = λ t q. rw (← (f t q).0) (step-nonneg k L U);
        stiffer = λ t q. rw (← (f t q).0) (stiffer (f t q).1);
        from_list = λ w q. rw shown-first found.from_list;
        witness = λ w q. rw (← same w q) shown-witness;
        least = λ w q y m a. none_less k L U some_order y m (witness-under (witness-at-mended k l u (rw (← same w q) at a)));
        ordered = λ t w p q. rw (← (f t p).0, ← same w q) (step_less (f t p).1);
      }

  bracketed-means : (y : List ℤ) → Means n l u y (bracketed k L U)
  bracketed-means y =
      cases (factored k L U).ends
      (λ e.
      subst (Means n l u y) (sym (bracketed-ends k L U e))
      (answer_means (Ok (Stiffness.Between (step k L U) v)) refl (λ t q. (some-injective (step k L U) t q, e))))
      (λ e.
      subst (Means n l u y) (sym (bracketed_stops k L U e))
      (answer_means (Ok (Stiffness.AtMost v)) refl (λ t q. absurd (false≢true cc))))

-- ---- of any call at all
refused-means : (n : ℤ) (l u y : List ℤ) (r : Refusal) → Meaning n l u (Err r) y
refused-means n l u y r = record {
  nonneg = λ t e. absurd (false≢true cc);
  stiffer = λ t e. absurd (false≢true cc);
  from_list = λ v e. absurd (false≢true cc);
  witness = λ v e. absurd (false≢true cc);
  least = λ v e z m a. false≢true cc;
  ordered = λ t v e q. absurd (false≢true cc);
}

pub bracketing-means : (n : ℤ) (sized : Bool) (l u y : List ℤ) →
    (let j = written (bracketing n sized l u) y in Meaning n l u j.stiffness j.vector)
unfolding bracketing
bracketing-means n sized l u y =
    entered-means n sized true l u refused _ (Means n l u y) (refused-means n l u y) (λ b. bracketed-means n sized l u b y)

-- where nothing is refused, check 2 passed
pub answered-sized : (n : ℤ) (sized : Bool) (l u : List ℤ) {A : Type 0} (F : List ℤ → A) (y : A) {r : Stiffness} →
    Ok r ≡ (laid F (bracketing n sized l u) y).stiffness → sized ≡ true
unfolding bracketing
answered-sized n sized l u F y {r} =
    entered-means n sized true l u refused _ (λ g. Ok r ≡ (laid F g y).stiffness → sized ≡ true)
    (λ k e. absurd (false≢true cc)) (λ b e. b.sizes)
