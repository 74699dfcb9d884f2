use Prim.Native.Nat.{◌*◌}
use Rattle.tables.specs.Matrix.{nth}
use Rattle.text.specs.Putting.{Put}
use Rattle.text.specs.Text.{numbers, spaced}
use Rattle.text.proofs.put_numbers.Given as goal

abbrev pub invariant-loop-v : goal.invariant-loop-v
invariant-loop-v l = Put l.initial.out l.at (numbers (nth l.x) l.v-index) (l.v-index * spaced) l.next l.out
