-- Brackets of floats, computed: one list with one proof.
use mathlib.Core.List.{List, [], ◌∷◌, map}
use mathlib.Core.Path.{◌≡◌, refl}
use Prim.Native.Nat.{ℕ}
use lib.IntN.{ℤ, pos, negsuc}
use lib.Ieee.{binary32, of_bits}
use Rattle.integers.specs.Division.{floor_div, ceil_div}
use Rattle.floats.specs.Brackets.{signed, units_of, sixteenth, finite_within, in_range, whole_next_to, bracket_of}
use Rattle.std.specs.Prelude.{Option, Some, None}
use Rattle.floats.specs.declared.Neighbours.{Neighbours}

-- the float of some bits, and what is expected
record Example : Type 0 where
  bits : ℕ
  expected : Option Neighbours

abbrev between : ℕ → ℤ → ℤ → Example
between b l h = record { bits = b; expected = Some (record { low = l; high = h }) }

abbrev refused : ℕ → Example
refused b = record { bits = b; expected = None }

abbrev examples : List Example
examples =
    -- 0 and -0
    between 0x0000_0000 (pos 0) (pos 0)
    ∷ between 0x8000_0000 (pos 0) (pos 0)
    -- 1, 1/16 and -1/16
    ∷ between 0x3f80_0000 (pos 16) (pos 16)
    ∷ between 0x3d80_0000 (pos 1) (pos 1)
    ∷ between 0xbd80_0000 (negsuc 0) (negsuc 0)
    -- next above 1/16, and next below -1/16
    ∷ between 0x3d80_0001 (pos 1) (pos 2)
    ∷ between 0xbd80_0001 (negsuc 1) (negsuc 0)
    -- 0.03 and -0.03
    ∷ between 0x3cf5_c28f (pos 0) (pos 1)
    ∷ between 0xbcf5_c28f (negsuc 0) (pos 0)
    -- the subnormal numbers next to 0, and the greatest one
    ∷ between 0x0000_0001 (pos 0) (pos 1)
    ∷ between 0x8000_0001 (negsuc 0) (pos 0)
    ∷ between 0x007f_ffff (pos 0) (pos 1)
    -- 8 and -8, what is next to 8 on either side, and next below -8
    ∷ between 0x4100_0000 (pos 128) (pos 128)
    ∷ between 0xc100_0000 (negsuc 127) (negsuc 127)
    ∷ between 0x40ff_ffff (pos 127) (pos 128)
    ∷ refused 0x4100_0001
    ∷ refused 0xc100_0001
    -- the infinities, and two of the NaNs
    ∷ refused 0x7f80_0000
    ∷ refused 0xff80_0000
    ∷ refused 0x7fc0_0000
    ∷ refused 0xff80_0001
    ∷ []

as_expected : map (λ (e : Example). bracket_of (of_bits binary32 e.bits)) examples ≡ map (λ (e : Example). e.expected) examples
unfolding bracket_of in_range finite_within units_of signed sixteenth whole_next_to floor_div ceil_div of_bits
as_expected = refl
