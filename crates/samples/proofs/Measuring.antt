-- What the code hands on of a sample: the whole numbers next to its numbers, all of them small.
use mathlib.Core.Path.{◌≡◌, refl, ap, ap₂, subst, ◌∙◌}
use mathlib.Core.List.{◌∷◌}
use mathlib.Core.Bool.{Bool, true, false, false≢true}
use Prim.Native.Nat.{ℕ, zero, suc, ◌*◌, ◌<◌}
use native.Mathlib.Omega.{arith}
use lib.Ieee.{Float, nan, binary32, fits}
use lib.IntN.{ℤ, pos, ◌-ℤ◌}
use lib.ListN.{get_or}
use Rattle.integers.specs.Numbers.{Within}
use Rattle.tables.specs.Ranges.{limit_range}
use Rattle.tables.specs.Matrix.{nth, table}
use Rattle.tables.specs.Checks.{within}
use Rattle.tables.specs.Problem.{constraint_entered, mended_constraint}
use Rattle.tables.specs.declared.Refusal.TheVariants.{Sample}
use Rattle.tables.specs.declared.problem.Constraint.{Constraint}
use Rattle.tables.proofs.Checks.{of_true, all-at}
use Rattle.tables.proofs.Matrix.{row_inside, column_inside, tabulate_ext}
use Rattle.floats.specs.Brackets.{in_range}
use Rattle.floats.proofs.Meaning.{inside, Bracket, Means, bracket-means}
use Rattle.floats.specs.declared.Neighbours.{Neighbours}
use Rattle.sums.specs.Sums.{terms_in}
use Rattle.sums.specs.Halving.{fitted}
use Rattle.samples.specs.declared.sample.Sample as Declared
use Rattle.samples.specs.declared.sample.Measures.{Measures}
use Rattle.std.specs.Prelude.{Option, Some, None, Err}
use Rattle.samples.specs.Samples.{factors_in, factor_count, number_count, next_to, factor_next, draw_next, sample_fits, measures_of, measured, lows_of, highs_of, factor_of}
use Rattle.samples.specs.Gains.{least_product, greatest_product, gains}
use Rattle.samples.specs.Gathering.{entered_sums, gathering}
use Rattle.samples.specs.Required.{measure_range, MeasuresNear}
use Rattle.samples.proofs.Near.{constraint_by}

-- ---- factors that are the same up to their count add the same
module _ (F G : ℕ → Neighbours) (D : Neighbours) (same : (i : ℕ) → i < factor_count → F i ≡ G i) where
  pub gains-same : gains F D ≡ gains G D
  unfolding gains table
  gains-same =
      let n : ℕ = factor_count in
      constraint_by
      (tabulate_ext (n * n) _ _ (λ k h. ap₂ least_product (same _ (row_inside n k h)) (same _ (column_inside n k h))))
      (tabulate_ext (n * n) _ _ (λ k h. ap₂ greatest_product (same _ (row_inside n k h)) (same _ (column_inside n k h))))
      (tabulate_ext n _ _ (λ i h. ap (λ (x : Neighbours). pos 0 -ℤ greatest_product x D) (same i h)))
      (tabulate_ext n _ _ (λ i h. ap (λ (x : Neighbours). pos 0 -ℤ least_product x D) (same i h)))
      refl

  -- to the mended sums too
  pub entered-same : (c : Constraint) (n : ℤ) (sized : Bool) → entered_sums F D n sized c ≡ entered_sums G D n sized c
  entered-same c n sized =
      ap (λ (g : Constraint). constraint_entered Err n sized (terms_in (within limit_range c.limit) c) c
      (fitted g (mended_constraint c))) gains-same

-- ---- a number of a sample, of 32 bits and in range, lies between small ones
module _ (x : Float) (f : fits binary32 x ≡ true) (r : in_range x ≡ true) where
  bracketed : Bracket x (next_to x)
  bracketed = subst (Means x) (inside x r) (bracket-means x (of_true f))

-- the numbers of a sample are of 32 bits
pub record Narrow (s : Declared.Sample) : Type 0 where
  pub rolling : fits binary32 s.rolling ≡ true
  pub climb : fits binary32 s.climb ≡ true
  pub air : fits binary32 s.air ≡ true
  pub start : fits binary32 s.start ≡ true
  pub draw : fits binary32 s.draw ≡ true

pub measures_near : (s : Declared.Sample) → Narrow s → sample_fits s ≡ true → MeasuresNear (measures_of s)
unfolding sample_fits
measures_near s n e = record { low-size = refl; high-size = refl; low = low; high = high }
  where
    ranged : (i : ℕ) → i < number_count → in_range (get_or (s.draw ∷ factors_in s) i nan) ≡ true
    ranged = all-at _ number_count e

    low : (i : ℕ) → i < number_count → Within measure_range (nth (lows_of (measures_of s)) i)
    low zero h = (bracketed s.rolling n.rolling (ranged 1 (omega arith))).low-within
    low (suc zero) h = (bracketed s.climb n.climb (ranged 2 (omega arith))).low-within
    low (suc (suc zero)) h = (bracketed s.air n.air (ranged 3 (omega arith))).low-within
    low (suc (suc (suc zero))) h = (bracketed s.start n.start (ranged 4 (omega arith))).low-within
    low (suc (suc (suc (suc zero)))) h = (bracketed s.draw n.draw (ranged 0 (omega arith))).low-within
    low (suc (suc (suc (suc (suc i))))) h = absurd (omega arith)

    high : (i : ℕ) → i < number_count → Within measure_range (nth (highs_of (measures_of s)) i)
    high zero h = (bracketed s.rolling n.rolling (ranged 1 (omega arith))).high-within
    high (suc zero) h = (bracketed s.climb n.climb (ranged 2 (omega arith))).high-within
    high (suc (suc zero)) h = (bracketed s.air n.air (ranged 3 (omega arith))).high-within
    high (suc (suc (suc zero))) h = (bracketed s.start n.start (ranged 4 (omega arith))).high-within
    high (suc (suc (suc (suc zero)))) h = (bracketed s.draw n.draw (ranged 0 (omega arith))).high-within
    high (suc (suc (suc (suc (suc i))))) h = absurd (omega arith)

-- ---- the factors of a sample, from its measures
module _ (s : Declared.Sample) where
  pub factor-same : (i : ℕ) → i < factor_count → factor_of (measures_of s) i ≡ factor_next s i
  factor-same zero h = refl
  factor-same (suc zero) h = refl
  factor-same (suc (suc zero)) h = refl
  factor-same (suc (suc (suc zero))) h = refl
  factor-same (suc (suc (suc (suc i)))) h = absurd (omega arith)

  -- 17
  pub measured_inside : {m : Measures} → Some m ≡ measured s → (sample_fits s ≡ true) × (m ≡ measures_of s)
  unfolding measured
  measured_inside {m} e = go (sample_fits s) refl e
    where
      go : (b : Bool) → sample_fits s ≡ b → Some m ≡ elim b [ true ↦ Some (measures_of s) | false ↦ None ] →
          (b ≡ true) × (m ≡ measures_of s)
      go true q e = (refl, cc)
      go false q e = absurd (false≢true cc)

  pub measured_outside : None ≡ measured s → sample_fits s ≡ false
  unfolding measured
  measured_outside e = go (sample_fits s) e
    where
      go : (b : Bool) → ◌≡◌ {A = Option Measures} None (elim b [ true ↦ Some (measures_of s) | false ↦ None ]) → b ≡ false
      go true e = absurd (false≢true cc)
      go false e = refl

  pub inside_near : Narrow s → {m : Measures} → Some m ≡ measured s → MeasuresNear m
  inside_near n e = let f = measured_inside e in rw f.1 (measures_near s n f.0)

  pub gathering_inside : (n : ℤ) (sized : Bool) (c : Constraint) {m : Measures} → Some m ≡ measured s →
      entered_sums (factor_of m) m.draw n sized c ≡ gathering s n sized c
  unfolding gathering
  gathering_inside n sized c {m} e =
      let f = measured_inside e in
      rw f.1 (entered-same (factor_of (measures_of s)) (factor_next s) (draw_next s) factor-same c n sized ∙ rw (gathering, f.0))

  pub gathering_outside : (n : ℤ) (sized : Bool) (c : Constraint) → None ≡ measured s → Err Sample ≡ gathering s n sized c
  unfolding gathering
  gathering_outside n sized c e = rw (gathering, measured_outside e)
