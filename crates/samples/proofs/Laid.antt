-- Sums of a sample's order, and what a sample adds to them, in arrays; and the outcome that they give, case by case.
use mathlib.Core.Path.{◌≡◌, refl, sym, ap, ap₂, ◌∙◌}
use mathlib.Core.List.{List}
use Prim.Native.Nat.{ℕ, ◌*◌}
use native.Mathlib.Omega.{arith}
use lib.IntN.{ℤ}
use lib.ListN.{length}
use Rattle.tables.specs.Checks.{Checked, first_refusal}
use Rattle.tables.specs.Problem.{constraint_of, mended_constraint}
use Rattle.tables.specs.declared.Refusal.{Refusal}
use Rattle.std.specs.Prelude.{Ok, Err}
use Rattle.tables.specs.declared.problem.Constraint.{Constraint}
use Rattle.tables.proofs.Matrix.{length-tabulate, length-table}
use Rattle.tables.proofs.Answers.{after-refused, after-passed}
use Rattle.floats.specs.declared.Neighbours.{Neighbours}
use Rattle.sums.specs.Sums.{Outcome, own_checks, sums_within}
use Rattle.sums.specs.Halving.{fitted}
use Rattle.sums.specs.Required.{sums_at, Rooms, Ranged, Stated}
use Rattle.sums.proofs.Fronts.{front-whole, constraint_by}
use Rattle.sums.proofs.Laying.{stated_by}
use Rattle.samples.specs.declared.sample.Measures.{Measures}
use Rattle.samples.specs.Samples.{factor_count, factor_of}
use Rattle.samples.specs.Gains.{gains}
use Rattle.samples.specs.Gathering.{added_within, checked_sums}
use Rattle.samples.specs.Required.{MeasuresNear, Arrays}
use Rattle.samples.proofs.Room.{near_within, gains-near}

-- ---- arrays of these sizes are their own fronts
module _ {l u a b : List ℤ} (z : Arrays l u a b) where
  pub arrays_front : (α : ℤ) → sums_at factor_count l u a b α ≡ constraint_of factor_count l u a b α
  arrays_front α =
      constraint_by (front-whole (factor_count * factor_count) l z.low) (front-whole (factor_count * factor_count) u z.high)
      (front-whole factor_count a z.linear_low) (front-whole factor_count b z.linear_high) refl

  pub arrays_rooms : Rooms factor_count l u a b
  arrays_rooms = record {
    low = omega (arith, z.low);
    high = omega (arith, z.high);
    linear_low = omega
        (arith, z.linear_low);
    linear_high = omega (arith, z.linear_high);
  }

-- ---- what a sample adds
module _ (F : ℕ → Neighbours) (D : Neighbours) {l u a b : List ℤ} {α : ℤ} (e : constraint_of factor_count l u a b α ≡ gains F D) where
  pub gains_arrays : Arrays l u a b
  unfolding gains
  gains_arrays = record {
    low = ap (λ (d : Constraint). length d.low) e ∙ length-table factor_count _;
    high = ap (λ (d : Constraint). length d.high) e ∙ length-table factor_count _;
    linear_low = ap (λ (d : Constraint). length d.linear.low) e ∙ length-tabulate factor_count _;
    linear_high = ap (λ (d : Constraint). length d.linear.high) e ∙ length-tabulate factor_count _;
  }

  pub gains-front : sums_at factor_count l u a b α ≡ gains F D
  gains-front = arrays_front gains_arrays α ∙ e

pub gains-ranged : (m : Measures) → MeasuresNear m → {l u a b : List ℤ} {α : ℤ} →
    constraint_of factor_count l u a b α ≡ gains (factor_of m) m.draw → Ranged factor_count l u a b α
unfolding gains
gains-ranged m near e = record {
  rooms = arrays_rooms (gains_arrays (factor_of m) m.draw e);
  within = ap sums_within (gains-front (factor_of m) m.draw e) ∙ near_within _ (gains-near near);
}

-- ---- the outcome
module _ (F : ℕ → Neighbours) (D : Neighbours) (c : Constraint) where
  pub sums-refused : {r : Refusal} → first_refusal (own_checks c) ≡ Err r → checked_sums F D c ≡ Err r
  unfolding checked_sums
  sums-refused {r} e = sym (after-refused Err r _ e)

  pub sums-added : {g d : Constraint} → first_refusal (own_checks c) ≡ Ok tt → g ≡ gains F D → d ≡ mended_constraint c →
      fitted g d ≡ checked_sums F D c
  unfolding checked_sums
  sums-added e f h = ap₂ fitted f h ∙ after-passed Err (added_within F D c) e

-- what is added to sums whose bounds were lent on and came back
pub added_where : (g : Constraint) (a b : List ℤ) (α : ℤ) {o : Outcome} {r : Checked} {l u l' u' x y z w : List ℤ} {β : ℤ} →
    Stated factor_count (fitted g (sums_at factor_count l' u' a b α)) r x y z w β → l' ≡ l → u' ≡ u →
    fitted g (sums_at factor_count l u a b α) ≡ o → Stated factor_count o r x y z w β
added_where g a b α st e f h = stated_by (ap₂ (λ (l u : List ℤ). fitted g (sums_at factor_count l u a b α)) e f ∙ h) st
