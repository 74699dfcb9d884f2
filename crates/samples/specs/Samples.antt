-- R22.1 and R22.2 of docs/RULES.md: the numbers of a sample, exactly and between whole numbers.
use Rattle.std.specs.Prelude.{Bool, true, false, List, [], ◌∷◌, ℕ, suc, Float, ℤ, Option, None, Some, get_or}
use Rattle.std.specs.Float.{nan}
use Rattle.tables.specs.Matrix.{nth}
use Rattle.tables.specs.Checks.{all}
use Rattle.floats.specs.Brackets.{units_of, sixteenth, in_range, whole_next_to}
use Rattle.floats.specs.declared.Neighbours.{Neighbours}
use Rattle.samples.specs.declared.sample.Sample.{Sample}
use Rattle.samples.specs.declared.sample.Measures.{Measures}

-- the factors, in the order of the sums, and how many there are: the order of the sums
abbrev pub factors_in : Sample → List Float
factors_in s = s.rolling ∷ s.climb ∷ s.air ∷ s.start ∷ []

abbrev pub factor_count : ℕ
factor_count = 4

abbrev pub factor_at : Sample → ℕ → Float
factor_at s i = get_or (factors_in s) i nan

-- 17, R4.17: every number is finite and from -8 to 8
unfoldable pub sample_fits : Sample → Bool
sample_fits s = all (suc factor_count) (λ i. in_range (get_or (s.draw ∷ factors_in s) i nan))

-- 16 times factor i and 16 times the draw: exactly, over `sixteenth`, and between whole numbers
abbrev pub factor_units : Sample → ℕ → ℤ
factor_units s i = units_of (factor_at s i)

abbrev pub draw_units : Sample → ℤ
draw_units s = units_of s.draw

abbrev pub next_to : Float → Neighbours
next_to x = whole_next_to (units_of x) sixteenth

abbrev pub factor_next : Sample → ℕ → Neighbours
factor_next s i = next_to (factor_at s i)

abbrev pub draw_next : Sample → Neighbours
draw_next s = next_to s.draw

-- what the code hands on of a sample: the whole numbers next to 16 times each of its numbers
abbrev pub measures_of : Sample → Measures
measures_of s = record {
  rolling = next_to s.rolling;
  climb = next_to s.climb;
  air = next_to s.air;
  start = next_to s.start;
  draw = next_to s.draw;
}

-- the same, where 17 lets the sample through
unfoldable pub measured : Sample → Option Measures
measured s = elim (sample_fits s) [ true ↦ Some (measures_of s) | false ↦ None ]

-- the ends of these numbers, the draw behind the factors, and number i between two ends of such lists
abbrev pub number_count : ℕ
number_count = suc factor_count

abbrev pub lows_of : Measures → List ℤ
lows_of m = m.rolling.low ∷ m.climb.low ∷ m.air.low ∷ m.start.low ∷ m.draw.low ∷ []

abbrev pub highs_of : Measures → List ℤ
highs_of m = m.rolling.high ∷ m.climb.high ∷ m.air.high ∷ m.start.high ∷ m.draw.high ∷ []

abbrev pub between : List ℤ → List ℤ → ℕ → Neighbours
between a b i = record { low = nth a i; high = nth b i }

abbrev pub factor_of : Measures → ℕ → Neighbours
factor_of m = between (lows_of m) (highs_of m)
