use native.Mathlib.Omega.{arith}
use lib.Seq.{get_or-set_other}
use Rattle.bus.specs.Registers.{status, verdict, settled_block}
use Rattle.bus.proofs.registers.settle.Goals as goal

pub returns : goal.returns
unfolding settled_block
returns c =
    let a = c.args in
    rw (← get_or-set_other a.block.now verdict status a.verdict 0 (λ e. omega (arith, e))) c.raise.ensures
