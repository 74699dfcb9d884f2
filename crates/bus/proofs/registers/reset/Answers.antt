use mathlib.Core.Path.{◌≡◌, ◌∙◌}
use native.Mathlib.Omega.{arith}
use lib.ListN.{replicate}
use Rattle.std.proofs.lemmas.List.Edits.{fill_more}
use Rattle.words.proofs.Lists.{append-drop_end}
use Rattle.bus.specs.Registers.{block_bytes, reset_value, reset_block}
use Rattle.bus.proofs.registers.reset.Goals as goal

pub loop-k-preserved : goal.loop-k-preserved
unfolding reset_value
loop-k-preserved c =
    let l = c.loop-k in
    rw (l.invariant, c.reset_value.ensures) (fill_more l.k 0 c.args.block.now (omega arith))

pub returns : goal.returns
unfolding reset_block
returns c =
    let e : c.loop-k.k ≡ block_bytes = omega arith in
    rw e at c.loop-k.invariant ∙ append-drop_end (replicate block_bytes 0) c.args.block.now block_bytes (omega arith)
