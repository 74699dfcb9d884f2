use mathlib.Core.Path.{ap, ◌∙◌}
use Prim.Native.Nat.{ℕ}
use lib.ListN.{replicate}
use Rattle.bus.specs.Area.{blank_bytes}
use Rattle.bus.proofs.area.blank.Goals as goal

pub returns : goal.returns
unfolding blank_bytes
returns c = c.fill.ensures.after (λ y e. e) ∙ ap (λ (n : ℕ). replicate n 0) c.requires
