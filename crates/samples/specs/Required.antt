-- What the code asks of a sample's numbers.
use Rattle.std.specs.Prelude.{◌≡◌, List, ℕ, ◌*◌, ◌^◌, ◌<◌, ℤ, length}
use Rattle.integers.specs.Numbers.{Within}
use Rattle.tables.specs.Matrix.{nth}
use Rattle.samples.specs.declared.sample.Measures.{Measures}
use Rattle.samples.specs.Samples.{factor_count, number_count, lows_of, highs_of}

-- 16 times a number from -8 to 8 lies between whole numbers within ±128
abbrev pub measure_range : ℕ
measure_range = 2 ^ 7

-- numbers of a sample whose ends stand in two lists
pub record NumbersNear (a b : List ℤ) : Type 0 where
  pub low-size : length a ≡ number_count
  pub high-size : length b ≡ number_count
  pub low : (i : ℕ) → i < number_count → Within measure_range (nth a i)
  pub high : (i : ℕ) → i < number_count → Within measure_range (nth b i)

abbrev pub MeasuresNear : Measures → Type 0
MeasuresNear m = NumbersNear (lows_of m) (highs_of m)

-- arrays for the bounds and linear terms of a sample's order
pub record Arrays (l u a b : List ℤ) : Type 0 where
  pub low : length l ≡ factor_count * factor_count
  pub high : length u ≡ factor_count * factor_count
  pub linear_low : length a ≡ factor_count
  pub linear_high : length b ≡ factor_count
