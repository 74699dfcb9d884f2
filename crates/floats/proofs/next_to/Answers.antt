use mathlib.Core.Path.{sym, ap, ap₂, ◌∙◌}
use Prim.Native.Nat.{ℕ, ◌^◌, ◌<◌}
use native.Mathlib.Nat.{mod-lt}
use native.Mathlib.Omega.{arith}
use denote.Floats.{passes}
use lib.Dec.{lit<}
use lib.IntN.{pos, ◌*ℤ◌}
use lib.Ieee.{Float, binary32, to_bits}
use Rattle.floats.specs.Brackets.{signed, whole_next_to, sixteenth}
use Rattle.floats.proofs.Fields.{negative, exponent, digits, no_nan, units_of_bits, exponent-bounded, significand_small, places_small, cut_at}
use Rattle.floats.proofs.next_to.Goals as goal

abbrev bits : Float → ℕ
bits p = to_bits binary32 p

digits-small : (p : Float) → digits (bits p) < 2 ^ 23
digits-small p = mod-lt (bits p) (lit< tt)

pub float_to_bits-bits : goal.float_to_bits-bits
float_to_bits-bits c = no_nan 128 c.args.p c.requires

pub places-requires : goal.places-requires
places-requires c = omega (arith, exponent-bounded c.args.p (passes _ c.well_formed.0.1) c.requires)

pub cut-requires : goal.cut-requires
cut-requires c = (
  rw c.significand.ensures (significand_small (exponent (bits c.args.p)) (digits (bits c.args.p)) (digits-small c.args.p)),
  rw c.places.ensures (places_small (exponent (bits c.args.p))),
)

pub returns : goal.returns
returns c =
    let n = bits c.args.p in
    let f = passes _ c.well_formed.0.1 in
    c.cut.ensures
    ∙ ap₂ (λ (q j : ℕ). whole_next_to (signed (negative n) q) (pos (2 ^ j))) c.significand.ensures c.places.ensures
    ∙ sym (cut_at (negative n) (exponent n) (digits n) (digits-small c.args.p) (exponent-bounded c.args.p f c.requires))
    ∙ ap (λ z. whole_next_to z (pos 16 *ℤ sixteenth)) (sym (units_of_bits 128 c.args.p f c.requires))
