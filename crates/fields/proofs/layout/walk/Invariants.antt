-- The loop's invariant: the walk over the file is the walk from here. The measure is what is left of the file.
use mathlib.Core.Path.{◌≡◌}
use Prim.Native.Nat.{◌-◌, ◌≤◌}
use lib.ListN.{length}
use Rattle.fields.specs.Layouts.{walk, walked}
use Rattle.fields.proofs.layout.walk.Given as goal

abbrev pub invariant-loop-field : goal.invariant-loop-field
invariant-loop-field l = (l.at ≤ length l.file) × (walked l.file ≡ walk l.file l.at l.last l.layout)

abbrev pub decreases-loop-field : goal.decreases-loop-field
decreases-loop-field l = length l.file - l.at
