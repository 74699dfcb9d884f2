-- What the bracket of a float says.
use mathlib.Core.Path.{◌≡◌, ap, ◌∙◌}
use mathlib.Core.Bool.{Bool, true, false, not}
use Prim.Native.Nat.{ℕ, ◌*◌, ◌^◌}
use native.Mathlib.Nat.{zero-mul}
use native.Mathlib.Omega.{arith}
use lib.Dec.{T, leb, leb-zero}
use lib.IntN.{ℤ, pos, neg_ℤ, ◌+ℤ◌, ◌*ℤ◌}
use lib.Signed.{◌≤ℤ◌}
use lib.Ieee.{Float, fin, binary32, up, down, fits}
use Rattle.integers.specs.Division.{floor_div, ceil_div}
use Rattle.integers.specs.Numbers.{Within}
use Rattle.integers.proofs.Parts.{≤_in, choice_by}
use Rattle.integers.proofs.Machine.{within_low, within-high}
use Rattle.floats.specs.Brackets.{signed, units_of, sixteenth, finite_within, in_range, whole_next_to, bracket_of}
use Rattle.floats.specs.declared.Neighbours.{Neighbours}
use Rattle.std.specs.Prelude.{Option, Some, None}
use Rattle.floats.proofs.Values.{units_within}
use Rattle.floats.proofs.Product.{Sixteenfold}
use Rattle.floats.proofs.Next.{NextTo, next-to, next-within, next-scaled}

pub sixteenth-positive : pos 1 ≤ℤ sixteenth
unfolding sixteenth
sixteenth-positive = record { le = tt }

pub inside : (x : Float) → in_range x ≡ true → bracket_of x ≡ Some (whole_next_to (units_of x) sixteenth)
unfolding bracket_of
inside x h = ap (λ b. elim b as (λ z. Option Neighbours) [ true ↦ Some (whole_next_to (units_of x) sixteenth) | false ↦ None ]) h

pub outside : (x : Float) → in_range x ≡ false → bracket_of x ≡ None
unfolding bracket_of
outside x h = ap (λ b. elim b as (λ z. Option Neighbours) [ true ↦ Some (whole_next_to (units_of x) sixteenth) | false ↦ None ]) h

-- the whole numbers next to the product are those next to 16·x
pub product_next : {x p : Float} → Sixteenfold x p → whole_next_to (units_of p) (pos 16 *ℤ sixteenth) ≡ whole_next_to (units_of x) sixteenth
product_next {x} {p} k =
    ap (λ z. whole_next_to z (pos 16 *ℤ sixteenth)) k.units ∙ next-scaled (pos 16) (units_of x) sixteenth (≤_in (omega arith)) sixteenth-positive

-- ---- what the answer says of x: the whole numbers next to 16·x, within ±128; or that x is refused
pub record Bracket (x : Float) (n : Neighbours) : Type 0 where
  pub range : T (in_range x)
  pub next : NextTo (units_of x) sixteenth n
  pub low-within : Within 128 n.low
  pub high-within : Within 128 n.high

abbrev pub Means : Float → Option Neighbours → Type 0
Means x (Some n) = Bracket x n
Means x None = T (not (in_range x))

units_small : (x : Float) → T (fits binary32 x) → T (in_range x) → Within (2 ^ 152) (units_of x)
unfolding in_range
units_small x f h = record { size = units_within 8 x f h }

bracket-of : (x : Float) → T (fits binary32 x) → T (in_range x) → Bracket x (whole_next_to (units_of x) sixteenth)
unfolding sixteenth
bracket-of x f h =
    let w = units_small x f h in
    let within = next-within 128 (units_of x) sixteenth sixteenth-positive (within_low w) (within-high w) in
    record { range = h; next = next-to (units_of x) sixteenth sixteenth-positive; low-within = within.0; high-within = within.1 }

pub bracket-means : (x : Float) → T (fits binary32 x) → Means x (bracket_of x)
unfolding bracket_of
bracket-means x f = choice_by (Means x) (in_range x) (bracket-of x f) (λ t. t)

-- both zeros are 0
zero_units : (s : Bool) (e : ℤ) → units_of (fin s 0 e) ≡ pos 0
unfolding units_of signed
zero_units true e = ap (λ (z : ℕ). neg_ℤ (pos z)) (zero-mul (up (e +ℤ pos 149)))
zero_units false e = ap pos (zero-mul (up (e +ℤ pos 149)))

zero_in_range : (s : Bool) (e : ℤ) → in_range (fin s 0 e) ≡ true
unfolding in_range finite_within
zero_in_range s e = ap (λ (z : ℕ). leb z (8 * down e)) (zero-mul (up e)) ∙ leb-zero (8 * down e)

pub zeros : (s : Bool) (e : ℤ) → bracket_of (fin s 0 e) ≡ Some (record { low = pos 0; high = pos 0 })
unfolding whole_next_to floor_div ceil_div sixteenth
zeros s e = inside (fin s 0 e) (zero_in_range s e) ∙ ap (λ z. Some (whole_next_to z sixteenth)) (zero_units s e)
