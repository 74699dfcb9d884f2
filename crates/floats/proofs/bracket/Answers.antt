use mathlib.Core.Path.{◌≡◌, sym, ap, subst, ◌∙◌}
use mathlib.Core.Bool.{true}
use denote.Floats.{passes}
use lib.Dec.{T}
use lib.Ieee.{binary32, mul, of_bits}
use Rattle.floats.specs.Brackets.{in_range}
use Rattle.std.specs.Prelude.{Some}
use Rattle.floats.proofs.Product.{Sixteenfold, sixteen, nothing_lost}
use Rattle.floats.proofs.Meaning.{product_next, inside, outside}
use Rattle.floats.proofs.bracket.Goals as goal
use Rattle.floats.proofs.bracket.Goals.{Then-in_range}

-- the test passed
passed : (c : Then-in_range) → in_range c.args.x ≡ true
passed c = sym c.in_range.ensures ∙ c.if-in_range.true

exact : (c : Then-in_range) → Sixteenfold c.args.x (mul binary32 c.args.x sixteen)
exact c = nothing_lost c.args.x (passes _ c.well_formed.0.1) (subst T (sym (passed c)) tt)

pub next_to-requires : goal.next_to-requires
unfolding of_bits
next_to-requires c = (exact c).within

pub returns-then-in_range : goal.returns-then-in_range
unfolding of_bits
returns-then-in_range c =
    let t = (goal.at.returns-then-in_range c).Then-in_range in
    ap Some (c.next_to.ensures ∙ product_next (exact t)) ∙ sym (inside c.args.x (passed t))

pub returns-else-in_range : goal.returns-else-in_range
returns-else-in_range c = sym (outside c.args.x (sym c.in_range.ensures ∙ c.if-in_range.false))
