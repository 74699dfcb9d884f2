-- What a verdict hands out has the size that the order calls for, and its numbers are in their ranges.
use mathlib.Core.Path.{◌≡◌, refl, sym, subst, ◌∙◌}
use mathlib.Core.Bool.{Bool, true, false}
use mathlib.Core.Logic.{by_cases}
use mathlib.Core.List.{List, [], ◌∷◌}
use mathlib.Core.Option.{Option, some}
use Prim.Native.Nat.{ℕ, zero, suc, ◌*◌, ◌/◌, ◌%◌, ◌≤◌, ◌<◌}
use native.Mathlib.Omega.{arith}
use native.Mathlib.Decide.{dec_lt}
use lib.Dec.{T}
use lib.IntN.{ℤ, pos}
use lib.Signed.{le_z, le_z_yes}
use lib.ListN.{length}
use borrow.Table.Steps.{cases}
use Rattle.integers.specs.Numbers.{Within}
use Rattle.integers.proofs.Parts.{≤ℤ_trans}
use Rattle.integers.proofs.Machine.{within_in}
use Rattle.tables.specs.Ranges.{greatest_order, factor_range, vector_range}
use Rattle.tables.specs.Matrix.{Matrix, nth, table}
use Rattle.tables.specs.Bounds.{Bounds}
use Rattle.tables.specs.Checks.{within, order_of}
use Rattle.tables.specs.Entering.{low_bounds, high_bounds}
use Rattle.tables.proofs.Buffers.{Small}
use Rattle.tables.proofs.Checks.{of_true, true_of, and_left, and_right, all-at, le_of, same_of, within_of, passed-bounds}
use Rattle.tables.proofs.Matrix.{length-table, nth-at, at_table, row_inside, column_inside}
use Rattle.tables.proofs.Admission.{order_small, entered-means}
use Rattle.cholesky.specs.Factoring.{Factoring, factored}
use Rattle.cholesky.proofs.Lists.{nth_past}
use Rattle.residual.specs.FactorTest.{factor_shape}
use Rattle.residual.specs.Scratch.{over_range}
use Rattle.residual.proofs.Sizes.{over-within}
use Rattle.residual.proofs.Meaning.{entry_by}
use Rattle.theorems.proofs.Theorems.{ends_shape_take_off}
use Rattle.vectors.specs.Least.{shows}
use Rattle.tried.specs.Tried.{tried, first}
use Rattle.tried.proofs.TriedVectors.{Every, every_append, tried-sized}
use Rattle.solved.specs.Solved.{stopped_factor, solved_entry, solved_rows, solved}
use Rattle.solved.specs.Stopped.{start_range}
use Rattle.solved.proofs.Solving.{rows_on, rows_none}
use Rattle.solved.proofs.SolvedVector.{solved-vector}
use Rattle.solved.proofs.Stops.{bounds_stop}
use Rattle.verdict.specs.Judge.{Judgement, definite, not_definite, undecided, refused, listed, shown_by, definite_by, judged, judging}
use Rattle.verdict.proofs.Decisions.{judged-ends, judged_stops}

abbrev pub Fitting : ℕ → Judgement → Type 0
Fitting n (definite t w) = Small (n * n) factor_range t × Within over_range w
Fitting n (not_definite x) = Small n vector_range x
Fitting n undecided = Unit {0}
Fitting n (refused r) = Unit {0}

pub sized : {m b : ℕ} {x : List ℤ} → length x ≡ m → ((i : ℕ) → i < m → Within b (nth x i)) → Small m b x
sized {m} {b} {x} e h = record {
  size = e;
  small = λ i. by_cases (dec_lt i m) (h i) (λ l. rw (nth_past x i (omega (arith, e))) (record { size = omega arith }));
}

-- ---- a factor that passes
module _ (n : ℕ) (R : Matrix) (t : T (factor_shape n R)) where
  factor-small : (i j : ℕ) → i < n → j < n → Within factor_range (R i j)
  unfolding factor_shape
  factor-small i j h k =
      entry_by i j (R i j) (λ b. b ≡ true → Within factor_range (R i j)) (λ m e. within_of factor_range (R i j) e)
      (λ m e.
      within_in (≤ℤ_trans (le_z_yes tt) (le_of (pos 1) (R i j) (and_left _ _ e)))
      (le_of (R i j) (pos factor_range) (and_right (le_z (pos 1) (R i j)) _ e)))
      (λ m e. rw (same_of (R i j) (pos 0) e) (record { size = omega arith }))
      (all-at _ n (all-at _ n (true_of (factor_shape n R) t) i h) j k)

  factor-sized : Small (n * n) factor_range (table n R)
  factor-sized =
      sized (length-table n R)
      (λ k h.
      let p = row_inside n k h in
      let q = column_inside n k h in
      rw (nth-at n k (table n R), at_table n R (k / n) (k % n) p q) (factor-small (k / n) (k % n) p q))

-- ---- lists of vectors
module _ (P : List ℤ → Type 0) where
  -- the solved vectors are one or none
  every_solved-row : (R : Matrix) (i : ℕ) (xs : List ℤ) → ((v : List ℤ) → solved_rows R i xs ≡ v ∷ [] → P v) → Every P (solved_rows R i xs)
  unfolding solved_rows
  every_solved-row R zero xs h = (h xs refl, tt)
  every_solved-row R (suc i) xs h =
      cases (within vector_range (solved_entry R i xs))
      (λ e. subst (Every P) (sym (rows_on R i xs e)) (every_solved-row R i (solved_entry R i xs ∷ xs) (λ v q. h v (rows_on R i xs e ∙ q))))
      (λ e. subst (Every P) (sym (rows_none R i xs e)) tt)

  every_solved : (n : ℕ) (f : Factoring) (s : ℤ) → ((v : List ℤ) → solved n f s ≡ v ∷ [] → P v) → Every P (solved n f s)
  unfolding solved
  every_solved n f s h = every_solved-row (stopped_factor f) _ _ h

-- ---- the listed vectors
module _ (n : ℕ) (o : n ≤ greatest_order) (L U : Matrix) (b : Bounds n L U) where
  module _ (e : (factored n L U).ends ≡ false) where
    solved-sized : (s : ℤ) → Within start_range s → Every (Small n vector_range) (solved n (factored n L U) s)
    solved-sized s w =
        let stop = bounds_stop b o e in
        every_solved (Small n vector_range) n (factored n L U) s
        (λ v q. let x = solved-vector n (factored n L U) s q w (omega (arith, stop.inside, stop.cut.rows)) in sized x.size x.small)

    listed-sized : Every (Small n vector_range) (listed n L U)
    unfolding listed
    listed-sized =
        every_append _ (tried n) _ (tried-sized vector_range (omega arith) n)
        (every_append _ (solved n (factored n L U) (pos 1)) _ (solved-sized (pos 1) (record { size = omega arith }))
        (solved-sized (pos 64) (record { size = omega arith })))

  -- ---- the verdict
  first_fitting : (p : List ℤ → Bool) (l : List (List ℤ)) → Every (Small n vector_range) l → Fitting n (shown_by (first p l))
  unfolding first
  first_fitting p [] h = tt
  first_fitting p (x ∷ l) h = go (p x) (first p l) (first_fitting p l h.1)
    where
      go : (b : Bool) (q : Option (List ℤ)) → Fitting n (shown_by q) →
          Fitting n (shown_by (elim b as (λ z. Option (List ℤ)) [ true ↦ some x | false ↦ q ]))
      go true q k = h.0
      go false q k = k

  pub stops_fitting : (factored n L U).ends ≡ false → Fitting n (shown_by (first (λ x. shows n L U (nth x)) (listed n L U)))
  stops_fitting e = first_fitting (λ x. shows n L U (nth x)) (listed n L U) (listed-sized e)

  definite_fitting : (R : Matrix) → T (factor_shape n R) → Fitting n (definite_by n L U R)
  definite_fitting R t = (factor-sized n R t, over-within n R o (true_of _ t) L U b)

  judged_fitting : Fitting n (judged n L U)
  judged_fitting =
      cases (factored n L U).ends
      (λ e. subst (Fitting n) (sym (judged-ends n L U e)) (definite_fitting _ (ends_shape_take_off n o L U b (of_true e))))
      (λ e. subst (Fitting n) (sym (judged_stops n L U e)) (stops_fitting e))

pub judging_fitting : (n : ℤ) (sized : Bool) (l u : List ℤ) → Fitting (order_of n) (judging n sized l u)
unfolding judging
judging_fitting n sized l u =
    let k = order_of n in
    entered-means n sized true l u refused _ (Fitting k) (λ r. tt)
    (λ b. judged_fitting k (order_small n) (low_bounds k l) (high_bounds k u) (passed-bounds k l u b.tables))
