use mathlib.Core.Path.{◌≡◌}
use mathlib.Core.Bool.{false}
use Prim.Native.Nat.{◌≤◌}
use native.Mathlib.Omega.{arith}
use lib.IntN.{ℤ, pos, nat_abs}
use lib.Signed.{◌≤ℤ◌, lt_z}
use mir.Syntax.{w64}
use mir.Val.{SFits, to_z, of_z}
use Rattle.integers.proofs.Machine.{clean, lt_yes, lt_no, fits_literal, as_usize, within_in, signed}
use Rattle.integers.proofs.Parts.{le_z_true, le_z_false}
use Rattle.bus.specs.Registers.{status, order, read_at}
use Rattle.bus.proofs.registers.read_at.Goals as goal

module _ {a : ℤ} (f : SFits w64 a) where
  -- from the status on
  low : lt_z (to_z w64 (of_z w64 a)) (to_z w64 (of_z w64 (pos status))) ≡ false → pos status ≤ℤ a
  low e = lt_no f (fits_literal tt) e

  -- up to the order
  high : lt_z (to_z w64 (of_z w64 (pos order))) (to_z w64 (of_z w64 a)) ≡ false → a ≤ℤ pos order
  high e = lt_no (fits_literal tt) f e

-- the address is a register's number
small : {a : ℤ} → pos status ≤ℤ a → a ≤ℤ pos order → nat_abs a ≤ order
small h k = (within_in {m = order} (omega (signed, h)) k).size

pub returns-then-address : goal.returns-then-address
unfolding read_at
returns-then-address c =
    let a = c.args.address in rw (le_z_false {x = pos status} {y = a} (lt_yes c.ranges.address (fits_literal tt) c.if-address.true))

pub returns-then-address-2 : goal.returns-then-address-2
unfolding read_at
returns-then-address-2 c =
    let a = c.args.address in
    rw (
      le_z_true {x = pos status} {y = a} (low c.ranges.address c.if-address.false),
      le_z_false {x = a} {y = pos order} (lt_yes (fits_literal tt) c.ranges.address c.if-address-2.true),
    )

pub overflow_cast-result : goal.overflow_cast-result
overflow_cast-result c = as_usize c.ranges.address (omega (signed, low c.ranges.address c.if-address.false))

pub bounds-block-address : goal.bounds-block-address
bounds-block-address c =
    rw (clean c.ranges.address)
    (omega (arith, small (low c.ranges.address c.if-address.false) (high c.ranges.address c.if-address-2.false), c.requires))

pub returns : goal.returns
unfolding read_at
returns c =
    let a = c.args.address in
    rw (
      clean c.ranges.address,
      le_z_true {x = pos status} {y = a} (low c.ranges.address c.if-address.false),
      le_z_true {x = a} {y = pos order} (high c.ranges.address c.if-address-2.false),
    )
