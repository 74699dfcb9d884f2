use mathlib.Core.Path.{◌≡◌, refl, sym, ap, ◌∙◌}
use mathlib.Core.Bool.{false≢true}
use native.Mathlib.Omega.{arith}
use lib.IntN.{pos}
use lib.ListN.{length, length-replicate}
use Rattle.tables.specs.Ranges.{greatest_order}
use Rattle.tables.proofs.Admission.{padded-nth}
use Rattle.buffers.proofs.Loading.{loaded, loaded_room}
use Rattle.buffers.proofs.entering.load_terms.Lts as lts
use Rattle.buffers.proofs.entering.load_terms.Tie as tie
use Rattle.buffers.proofs.entering.load_terms.Reads as reads
use Rattle.buffers.proofs.entering.load_terms.Goals as goal

abbrev Start : Type 0
Start = lts.Start tie.the-claims reads.Pre reads.Post

-- the array's room
room : (s : Start) → length s.args.x.now ≡ greatest_order
room s = ap length s.requires.2 ∙ length-replicate greatest_order (pos 0)

pub load_numbers-requires : goal.load_numbers-requires
load_numbers-requires c = (refl, c.requires.1 c.if-sized.true, omega (arith, c.requires.0, room c.before.before.before.before))

pub returns-then-sized : goal.returns-then-sized
returns-then-sized c =
    record {
      size = loaded_room _ c.requires.2 c.requires.0 c.load_numbers.ensures;
      numbers =
          λ e. padded-nth (loaded _ c.requires.2 c.requires.0 c.load_numbers.ensures);
    }

pub returns-else-sized : goal.returns-else-sized
returns-else-sized c = record { size = room c.before.before.before; numbers = λ e. absurd (false≢true (sym c.if-sized.false ∙ e)) }
