-- The bounds L and U of a bounded matrix.
use Rattle.tables.specs.Matrix.{Matrix, at}
use Rattle.tables.specs.declared.bounded.Bounded.{Bounded}

abbrev pub low_of : Bounded → Matrix
low_of b = at b.order b.low.now

abbrev pub high_of : Bounded → Matrix
high_of b = at b.order b.high.now
