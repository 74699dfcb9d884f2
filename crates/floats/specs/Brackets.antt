-- R22 of docs/RULES.md: 16 times a 32-bit float, between the whole numbers next below and above it.
use Rattle.std.specs.Prelude.{Bool, true, false, ℕ, ◌*◌, ◌^◌, leb, ℤ, pos, neg_ℤ, ◌+ℤ◌, Float}
use Rattle.std.specs.Float.{nan, inf, fin}
use Rattle.std.specs.Float.Ieee.{up, down}
use Rattle.integers.specs.Division.{floor_div, ceil_div}
use Rattle.floats.specs.declared.Neighbours.{Neighbours}
use Rattle.std.specs.Prelude.{Option, Some, None}

-- ±n
unfoldable pub signed : Bool → ℕ → ℤ
signed false n = pos n
signed true n = neg_ℤ (pos n)

-- the exact value of a finite float, in units of 2^-149, which is the least float above 0: ±m·2^e is ±m·2^(e + 149) units
unfoldable pub units_of : Float → ℤ
units_of nan = pos 0
units_of (inf s) = pos 0
units_of (fin s m e) = signed s (m * up (e +ℤ pos 149))

-- one sixteenth is 2^145 units, so 16·x is the fraction units_of x / sixteenth
unfoldable pub sixteenth : ℤ
sixteenth = pos (2 ^ 145)

-- x is finite, and |x| ≤ b
unfoldable pub finite_within : ℕ → Float → Bool
finite_within b nan = false
finite_within b (inf s) = false
finite_within b (fin s m e) = leb (m * up e) (b * down e)

-- what is not refused: from -8 to 8, both included
unfoldable pub in_range : Float → Bool
in_range x = finite_within 8 x

-- the whole numbers next below and above a / d; both are a / d where that is whole
unfoldable pub whole_next_to : ℤ → ℤ → Neighbours
whole_next_to a d = record { low = floor_div a d; high = ceil_div a d }

-- those of 16·x
unfoldable pub bracket_of : Float → Option Neighbours
bracket_of x = elim (in_range x) [ true ↦ Some (whole_next_to (units_of x) sixteenth) | false ↦ None ]
