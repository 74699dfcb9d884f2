use mathlib.Core.Path.{◌≡◌, sym, ◌∙◌}
use mathlib.Core.Bool.{Bool, true, false}
use Prim.Native.Nat.{◌<◌}
use native.Mathlib.Omega.{arith}
use lib.IntN.{ℤ, pos, nat_abs}
use lib.Signed.{◌≤ℤ◌, lt_z}
use mir.Syntax.{w64}
use mir.Val.{SFits, to_z, of_z}
use Rattle.integers.proofs.Machine.{clean, lt_holds, lt_yes, lt_no, fits_literal, as_usize, within_in, signed}
use Rattle.integers.proofs.Parts.{le_z_true, le_z_false}
use Rattle.bus.specs.Registers.{block_bytes}
use Rattle.bus.specs.Bus.{where_sized, written, write}
use Rattle.bus.proofs.Sizes.{bus-sized-of}
use Rattle.bus.proofs.acts.write.Goals as goal

-- whether the address is a register's number
module _ {a : ℤ} (f : SFits w64 a) where
  low : lt_z (to_z w64 (of_z w64 a)) (pos 0) ≡ false → pos 0 ≤ℤ a
  low e = lt_no f (fits_literal tt) e

  high : {b : Bool} → lt_z (to_z w64 (of_z w64 a)) (pos block_bytes) ≡ b → lt_z a (pos block_bytes) ≡ b
  high e = rw (clean f) at e

  small : lt_z (to_z w64 (of_z w64 a)) (pos 0) ≡ false → lt_z (to_z w64 (of_z w64 a)) (pos block_bytes) ≡ true → nat_abs a < block_bytes
  small e g =
      omega (
        arith,
        (within_in {m = 31} {x = a} (omega (signed, low e)) (omega (signed, lt_holds {x = a} {y = pos block_bytes} (high g)))).size,
      )

pub returns-then-not-bus_sized : goal.returns-then-not-bus_sized
unfolding write where_sized
returns-then-not-bus_sized c = record { exact = rw (write, where_sized, sym c.bus_sized.ensures ∙ c.if-not-bus_sized.true) }

pub returns-then-address-lt0 : goal.returns-then-address-lt0
unfolding write where_sized written
returns-then-address-lt0 c =
    record {
      exact =
          rw (
            write,
            where_sized,
            sym c.bus_sized.ensures ∙ c.if-not-bus_sized.false,
            written,
            le_z_false {x = pos 0} {y = c.args.address} (lt_yes c.ranges.address (fits_literal tt) c.if-address-lt0.true),
          );
    }

pub overflow_cast-address : goal.overflow_cast-address
overflow_cast-address c = as_usize c.ranges.address (low c.ranges.address c.if-address-lt0.false)

pub write_at-requires : goal.write_at-requires
write_at-requires c =
    let z = bus-sized-of _ _ (sym c.bus_sized.ensures ∙ c.if-not-bus_sized.false) in
    (z.0, z.1, rw (clean c.ranges.address) (small c.ranges.address c.if-address-lt0.false c.if-address.true))

pub returns-then-address : goal.returns-then-address
unfolding write where_sized written
returns-then-address c =
    record {
      exact =
          rw (
            write,
            where_sized,
            sym c.bus_sized.ensures ∙ c.if-not-bus_sized.false,
            written,
            le_z_true {x = pos 0} {y = c.args.address} (low c.ranges.address c.if-address-lt0.false),
            high c.ranges.address c.if-address.true,
          )
          (rw (clean c.ranges.address) at c.write_at.ensures);
    }

pub returns : goal.returns
unfolding write where_sized written
returns c =
    record {
      exact =
          rw (
            write,
            where_sized,
            sym c.bus_sized.ensures ∙ c.if-not-bus_sized.false,
            written,
            le_z_true {x = pos 0} {y = c.args.address} (low c.ranges.address c.if-address-lt0.false),
            high c.ranges.address c.if-address.false,
          );
    }
