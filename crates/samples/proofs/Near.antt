-- Products of the ends of a sample's numbers, and sums that gain them: all fit 64 bits.
use mathlib.Core.Path.{◌≡◌, ap, ap₂, ◌∙◌}
use mathlib.Core.List.{List, [], ◌∷◌}
use Prim.Native.Nat.{ℕ, ◌*◌, ◌<◌}
use native.Mathlib.Omega.{arith}
use lib.IntN.{ℤ, pos, ◌-ℤ◌, ◌*ℤ◌}
use mir.Syntax.{w64}
use mir.Val.{SFits, to_z, of_z}
use Rattle.integers.specs.Numbers.{Within}
use Rattle.integers.proofs.Machine.{clean, within--, within-*, fits_within}
use Rattle.integers.proofs.Extremes.{within_min, within_max}
use Rattle.tables.specs.Problem.{constraint_of}
use Rattle.floats.specs.declared.Neighbours.{Neighbours}
use Rattle.samples.specs.declared.sample.Measures.{Measures}
use Rattle.samples.specs.Samples.{factor_count, number_count, lows_of, highs_of, between, factor_of}
use Rattle.samples.specs.Gains.{least_product, greatest_product, least_square, gains}
use Rattle.samples.specs.Required.{measure_range, NumbersNear, MeasuresNear}

-- a product of two ends
abbrev pub product_range : ℕ
product_range = measure_range * measure_range

pub product_fits : {x y : ℤ} → Within measure_range x → Within measure_range y → SFits w64 (x *ℤ y)
product_fits h k = fits_within (within-* h k) (omega arith)

-- a product that is taken off 0
pub negated_fits : {x : ℤ} → Within product_range x → SFits w64 (pos 0 -ℤ x)
negated_fits h = let z : Within 0 (pos 0) = record { size = omega arith } in fits_within (within-- z h) (omega arith)

-- the ends of a product, as they are read from what a call gave
pub read_low : {x y : Neighbours} → x ≡ y → Within product_range y.low → to_z w64 (of_z w64 x.low) ≡ y.low
read_low e h = ap (λ (z : Neighbours). to_z w64 (of_z w64 z.low)) e ∙ clean (fits_within h (omega arith))

pub read-high : {x y : Neighbours} → x ≡ y → Within product_range y.high → to_z w64 (of_z w64 x.high) ≡ y.high
read-high e h = ap (λ (z : Neighbours). to_z w64 (of_z w64 z.high)) e ∙ clean (fits_within h (omega arith))

module _ {a b : List ℤ} (n : NumbersNear a b) {i : ℕ} (h : i < number_count) where
  pub least_square_within : Within product_range (least_square (between a b i))
  least_square_within = within_min (within-* (n.low i h) (n.low i h)) (within-* (n.high i h) (n.high i h))

  module _ {j : ℕ} (k : j < number_count) where
    pub least-within : Within product_range (least_product (between a b i) (between a b j))
    least-within =
        within_min (within_min (within-* (n.low j k) (n.low i h)) (within-* (n.high j k) (n.low i h)))
        (within_min (within-* (n.low j k) (n.high i h)) (within-* (n.high j k) (n.high i h)))

    pub greatest-within : Within product_range (greatest_product (between a b i) (between a b j))
    greatest-within =
        within_max (within_max (within-* (n.low j k) (n.low i h)) (within-* (n.high j k) (n.low i h)))
        (within_max (within-* (n.low j k) (n.high i h)) (within-* (n.high j k) (n.high i h)))

-- ---- the numbers of a sample, as the code reads them into two arrays
abbrev pub read : ℤ → ℤ
read x = to_z w64 (of_z w64 x)

abbrev pub read_lows : Measures → List ℤ
read_lows m = read m.rolling.low ∷ read m.climb.low ∷ read m.air.low ∷ read m.start.low ∷ read m.draw.low ∷ []

abbrev pub read_highs : Measures → List ℤ
read_highs m = read m.rolling.high ∷ read m.climb.high ∷ read m.air.high ∷ read m.start.high ∷ read m.draw.high ∷ []

module _ (m : Measures) (n : MeasuresNear m) where
  near : {x : ℤ} → Within measure_range x → read x ≡ x
  near h = clean (fits_within h (omega arith))

  pub lows_read : read_lows m ≡ lows_of m
  lows_read = rw (
    near (n.low 0 (omega arith)),
    near (n.low 1 (omega arith)),
    near (n.low 2 (omega arith)),
    near (n.low 3 (omega arith)),
    near (n.low 4 (omega arith)),
  )

  pub highs_read : read_highs m ≡ highs_of m
  highs_read = rw (
    near (n.high 0 (omega arith)),
    near (n.high 1 (omega arith)),
    near (n.high 2 (omega arith)),
    near (n.high 3 (omega arith)),
    near (n.high 4 (omega arith)),
  )

  pub near-read : NumbersNear (read_lows m) (read_highs m)
  near-read = rw (lows_read, highs_read) n

  -- what these numbers add
  pub gains-read : gains (between (read_lows m) (read_highs m)) (between (read_lows m) (read_highs m) factor_count) ≡ gains
      (factor_of m) m.draw
  gains-read = ap₂ (λ (a b : List ℤ). gains (between a b) (between a b factor_count)) lows_read highs_read

-- sums of equal parts
pub constraint_by : {n : ℕ} {l l' u u' a a' b b' : List ℤ} {α α' : ℤ} → l ≡ l' → u ≡ u' → a ≡ a' → b ≡ b' → α ≡ α' →
    constraint_of n l u a b α ≡ constraint_of n l' u' a' b' α'
constraint_by e f g h k = rw (e, f, g, h, k)
