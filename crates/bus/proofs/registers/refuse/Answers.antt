use mathlib.Core.Path.{ap, ◌∙◌}
use mathlib.Core.List.{List}
use Prim.Native.Nat.{ℕ}
use lib.ListN.{set}
use Rattle.bus.specs.Registers.{number, refused, raised, refused_block}
use Rattle.bus.proofs.registers.refuse.Goals as goal

pub returns : goal.returns
unfolding refused_block
returns c =
    c.raise.ensures ∙ ap (λ (b : List ℕ). raised refused (set b number c.args.number)) c.clear.ensures
