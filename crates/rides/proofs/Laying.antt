-- Gathering into lent buffers: the sizes of the buffers, and the checks behind these.
use mathlib.Core.Path.{◌≡◌, sym, ◌∙◌}
use mathlib.Core.Bool.{Bool, true, false≢true, ◌&&◌}
use Prim.Native.Nat.{ℕ, ◌*◌}
use lib.Dec.{eqb}
use lib.IntN.{ℤ}
use borrow.Author.Tests.{eqb-true}
use Rattle.tables.specs.Ranges.{limit_range}
use Rattle.tables.specs.Checks.{order_ok, order_of, within}
use Rattle.tables.specs.Problem.{constraint_sized}
use Rattle.tables.specs.declared.problem.Constraint.{Constraint}
use Rattle.tables.specs.declared.problem.Sizes.{Sizes}
use Rattle.tables.specs.declared.problem.Lengths.{Lengths}
use Rattle.tables.proofs.Checks.{and_left, and_right}
use Rattle.tables.proofs.Admission.{order-none}
use Rattle.tables.proofs.Problems.{constraint_sized_lem, constraint_sizes-of}
use Rattle.floats.specs.declared.Neighbours.{Neighbours}
use Rattle.std.specs.Prelude.{Err}
use Rattle.sums.specs.Sums.{terms_in}
use Rattle.samples.specs.Samples.{factor_count}
use Rattle.samples.specs.Gathering.{sums_sized, added_within, checked_sums, entered_sums}
use Rattle.rides.specs.Act.{SumsSizes}

-- ---- check 1
pub order_given : (n : ℤ) → order_ok n ≡ true → order_of n ≡ 0 → ⊥
order_given n o z = false≢true (sym (order-none n z) ∙ o)

-- ---- check 2
pub sums-sizes-of : (taken : ℕ → ℕ) (n : ℕ) (b : Lengths) (α : ℕ) → sums_sized taken n b α ≡ true → SumsSizes taken n b α
unfolding sums_sized
sums-sizes-of taken n b α e =
    let z : Sizes = record { table = taken (factor_count * factor_count); vector = taken factor_count } in
    let f = and_right (eqb n factor_count) (constraint_sized z b && eqb α (taken 1)) e in
    let v = constraint_sizes-of z b (and_left (constraint_sized z b) (eqb α (taken 1)) f) in
    record {
      order = eqb-true n factor_count (and_left (eqb n factor_count) (constraint_sized z b && eqb α (taken 1)) e);
      low = v.0;
      high = v.1;
      linear_low = v.2;
      linear_high = v.3;
      limit = eqb-true α (taken 1) (and_right (constraint_sized z b) (eqb α (taken 1)) f);
    }

-- where n is an order and the buffers have their sizes, 3, 4, 5, 16 and 18 are all that is left to ask
pub sums-sized : (F : ℕ → Neighbours) (D : Neighbours) (n : ℤ) (sized : Bool) (c : Constraint) → order_ok n ≡ true → sized ≡ true →
    c.order ≡ order_of n → checked_sums F D c ≡ entered_sums F D n sized c
unfolding checked_sums
sums-sized F D n sized c o z e = sym (constraint_sized_lem Err n sized (terms_in (within limit_range c.limit) c) c
    (added_within F D c) o z e)
