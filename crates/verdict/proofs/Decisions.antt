-- The verdict by its steps: a refusal, a factoring that ends, and one that stops.
use mathlib.Core.Path.{◌≡◌, sym, ap, ap₂, ◌∙◌, refl}
use mathlib.Core.Bool.{Bool, true, false}
use mathlib.Core.List.{List, ◌++◌}
use Prim.Native.Nat.{ℕ, ◌*◌, ◌/◌, ◌%◌, ◌≤◌, ◌<◌}
use borrow.Author.Tests.{eqb-true}
use lib.Dec.{eqb}
use lib.IntN.{ℤ, pos}
use Rattle.tables.specs.Matrix.{Matrix, at, nth, table, tabulate}
use Rattle.tables.specs.Ranges.{greatest_order}
use Rattle.tables.specs.Bounds.{Bounds}
use Rattle.tables.specs.Checks.{sizes_ok}
use Rattle.tables.proofs.Checks.{true_of, of_true, and_left, and_right, sizes-of}
use Rattle.tables.proofs.Matrix.{tabulate_ext, inside, row_inside, column_inside, nth-at}
use Rattle.cholesky.specs.Scale.{scaled}
use Rattle.cholesky.specs.Factoring.{Factoring, entries, factored}
use Rattle.std.specs.Prelude.{is_ok, Option as CodeOption, Some, None}
use Rattle.cholesky.specs.Store.{Stored, triangle, Ends, Stops}
use Rattle.cholesky.proofs.Columns.{all-columns}
use Rattle.cholesky.proofs.Store.{outcome_ends}
use Rattle.residual.specs.Residual.{over}
use Rattle.residual.specs.FactorTest.{factor_shape}
use Rattle.residual.proofs.Offers.{shape_ext, over_ext}
use Rattle.theorems.proofs.Theorems.{ends_shape_take_off}
use Rattle.vectors.specs.Least.{shows}
use Rattle.tried.specs.Tried.{tried, first, listed as answered}
use Rattle.solved.specs.Solved.{solved}
use Rattle.solved.specs.Stopped.{stopped_at}
use Rattle.solved.proofs.Stops.{stopped-at}
use Rattle.verdict.specs.FactorTable.{Written}
use Rattle.verdict.specs.Judge.{Judgement, definite, listed, shown_by, definite_by, judged, judge_sizes}
use Rattle.verdict.specs.Deciding.{stated, shown_decision, Decided}
use Rattle.verdict.specs.declared.judge.Decision.{Decision}
use Rattle.verdict.proofs.Writing.{triangle-entries}

-- ---- the two cases of the definition
module _ (n : ℕ) (L U : Matrix) where
  by_end : Bool → Judgement
  by_end b = elim b [
    | true ↦ definite_by n L U (entries (factored n L U).columns)
    | false ↦ shown_by (first (λ x. shows n L U (nth x)) (listed n L U))
  ]

  pub judged-ends : (factored n L U).ends ≡ true → judged n L U ≡ definite_by n L U (entries (factored n L U).columns)
  unfolding judged by_end
  judged-ends e = ap by_end e

  pub judged_stops : (factored n L U).ends ≡ false → judged n L U ≡ shown_by (first (λ x. shows n L U (nth x)) (listed n L U))
  unfolding judged by_end
  judged_stops e = ap by_end e

-- ---- a factoring that ended, with its columns in t, and the factor written to the first n² numbers of f
module _ (n : ℕ) (L U : Matrix) (t f : List ℤ) (s : Stored (factored n L U) Ends t) (w : Written n (triangle t) f (n * n)) where
  abbrev R : Matrix
  R = entries (factored n L U).columns

  pub ended : (factored n L U).ends ≡ true
  ended = sym (outcome_ends _) ∙ ap is_ok (sym s.outcome)

  -- the factor's entries
  factor-entries : (i j : ℕ) → i < n → j < n → at n f i j ≡ R i j
  factor-entries i j h k =
      let c = rw (all-columns n (scaled n L U) (of_true ended)) at s.columns in
      w.entries i j k (inside h k) ∙ triangle-entries t n i j k ∙ ap (λ (cs : List (List ℤ)). entries cs i j) c

  factor-whole : tabulate (n * n) (nth f) ≡ table n R
  unfolding table
  factor-whole =
      tabulate_ext (n * n) _ _ (λ k h.
      let r = row_inside n k h in
      let c = column_inside n k h in
      nth-at n k f ∙ factor-entries (k / n) (k % n) r c)

  -- it passes check 6
  pub factor_shaped : n ≤ greatest_order → Bounds n L U → factor_shape n (at n f) ≡ true
  factor_shaped o b = shape_ext n (at n f) R factor-entries ∙ true_of _ (ends_shape_take_off n o L U b (of_true ended))

  pub certified : judged n L U ≡ definite (tabulate (n * n) (nth f)) (over n (at n f) L U)
  certified = judged-ends n L U ended ∙ sym (ap₂ definite factor-whole (over_ext n (at n f) R L U factor-entries))

-- ---- a factoring that stopped, and what was found in the listed vectors
module _ (n : ℕ) (L U : Matrix) (t f : List ℤ) where
  abbrev passes : List ℤ → Bool
  passes v = shows n L U (nth v)

  module _ {j m : ℕ} (s : Stored (factored n L U) (Stops j m) t) (r : CodeOption (List ℤ))
      (a : answered n r ≡ first passes (tried n ++ (solved n (stopped_at t j m) (pos 1) ++ solved n (stopped_at t j m) (pos 64)))) where
    found-is : judged n L U ≡ shown_by (answered n r)
    unfolding listed
    found-is =
        judged_stops n L U (sym (outcome_ends _) ∙ ap is_ok (sym s.outcome))
        ∙ ap (λ (g : Factoring). shown_by (first passes (tried n ++ (solved n g (pos 1) ++ solved n g (pos 64))))) (stopped-at s)
        ∙ ap shown_by (sym a)

  shown-stated : (r : CodeOption (List ℤ)) → shown_by (answered n r) ≡ stated n (shown_decision r) f
  unfolding answered stated shown_decision
  shown-stated (Some x) = refl
  shown-stated None = refl

  pub decided_shown : {j m : ℕ} → Stored (factored n L U) (Stops j m) t → (r : CodeOption (List ℤ)) →
      answered n r ≡ first passes (tried n ++ (solved n (stopped_at t j m) (pos 1) ++ solved n (stopped_at t j m) (pos 64))) →
      {w : Decision} → w ≡ shown_decision r → judged n L U ≡ stated n w f
  decided_shown s r a e = found-is s r a ∙ shown-stated r ∙ ap (λ (w : Decision). stated n w f) (sym e)

-- ---- what is made of a judgement is made of what the code states
pub made_of : {A : Type 0} (P : Judgement → A) {g : Judgement} {n : ℕ} {r : Decision} {f₀ f : List ℤ} → Decided g n r f₀ f →
    (s : Decision) → r ≡ s → P (stated n s f) ≡ P g
made_of P {n = n} {f = f} d s q = sym (ap P (d.verdict ∙ ap (λ (r : Decision). stated n r f) q))

-- ---- checks 1 and 2 passed
pub judge-sizes-of : (size entries l u f v : ℕ) → judge_sizes size entries l u f v ≡ true →
    (l ≡ size) × (u ≡ size) × (f ≡ size) × (v ≡ entries)
unfolding judge_sizes
judge-sizes-of size entries l u f v e =
    let z = sizes-of size size l u f (and_left (sizes_ok size size l u f) (eqb v entries) e) in
    (z.0, z.1, z.2, eqb-true v entries (and_right (sizes_ok size size l u f) _ e))
