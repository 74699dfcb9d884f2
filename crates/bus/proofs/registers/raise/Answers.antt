use native.Mathlib.Omega.{arith}
use lib.Bits.{bit_or}
use lib.Seq.{get_or-set_other}
use Rattle.bus.specs.Registers.{status, flags, register, raised}
use Rattle.bus.proofs.registers.raise.Goals as goal

pub overflow_sub-block : goal.overflow_sub-block
unfolding raised
overflow_sub-block c = omega (arith, c.slice_known-1.given status)

pub returns : goal.returns
unfolding raised
returns c =
    let a = c.args in
    rw (get_or-set_other a.block.now status flags (bit_or (register a.block.now status) a.bit) 0 (λ e. omega (arith, e)))
