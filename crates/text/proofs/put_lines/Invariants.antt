use Prim.Native.Nat.{◌*◌}
use lib.ListN.{length}
use Rattle.text.specs.Putting.{Put}
use Rattle.text.specs.Text.{lines, line_room}
use Rattle.text.proofs.put_lines.Given as goal

abbrev pub invariant-loop-i : goal.invariant-loop-i
invariant-loop-i l =
    Put l.initial.out l.at (lines l.word l.x l.width l.i) (l.i * line_room (length l.word) l.width) l.next l.out
