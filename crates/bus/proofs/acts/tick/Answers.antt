use mathlib.Core.Path.{sym, ap, ◌∙◌}
use Rattle.std.specs.Prelude.{Ok}
use Rattle.bus.specs.Running.{Bus}
use Rattle.bus.specs.Bus.{Moved, where_sized, ticked, tick}
use Rattle.bus.proofs.Sizes.{bus-sized-of}
use Rattle.bus.proofs.acts.tick.Goals as goal

abbrev let_through : Bus → Moved
let_through s = record { answer = Ok tt; bus = s }

pub returns-then-not-bus_sized : goal.returns-then-not-bus_sized
unfolding tick where_sized
returns-then-not-bus_sized c = record { exact = rw (tick, where_sized, sym c.bus_sized.ensures ∙ c.if-not-bus_sized.true) }

pub is_busy-requires : goal.is_busy-requires
is_busy-requires c = (bus-sized-of _ _ (sym c.bus_sized.ensures ∙ c.if-not-bus_sized.false)).0

pub step-requires : goal.step-requires
step-requires c = bus-sized-of _ _ (sym c.bus_sized.ensures ∙ c.if-not-bus_sized.false)

pub returns-then-is_busy : goal.returns-then-is_busy
unfolding tick where_sized ticked
returns-then-is_busy c =
    record {
      exact =
          rw (tick, where_sized, sym c.bus_sized.ensures ∙ c.if-not-bus_sized.false, ticked, ← c.is_busy.ensures, c.if-is_busy.true)
          (ap let_through c.step.ensures);
    }

pub returns-else-is_busy : goal.returns-else-is_busy
unfolding tick where_sized ticked
returns-else-is_busy c =
    record {
      exact =
          rw (tick, where_sized, sym c.bus_sized.ensures ∙ c.if-not-bus_sized.false, ticked, ← c.is_busy.ensures, c.if-is_busy.false);
    }
