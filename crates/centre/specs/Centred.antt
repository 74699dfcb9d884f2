-- The linear terms and the centre of a problem, and its g(k).
use Rattle.std.specs.Prelude.{ℕ, ℤ}
use Rattle.tables.specs.Matrix.{nth}
use Rattle.tables.specs.Members.{Ends}
use Rattle.tables.specs.Problem.{ends_of}
use Rattle.tables.specs.Bounded.{low_of, high_of}
use Rattle.centre.specs.Centre.{gradient}
use Rattle.centre.specs.declared.centred.Centred.{Centred}

abbrev pub terms_of : Centred → Ends
terms_of p = ends_of p.from.now p.to.now

abbrev pub centre_of : Centred → ℕ → ℤ
centre_of p = nth p.centre.now

abbrev pub gradient_of : Centred → ℕ → ℤ
gradient_of p = gradient p.bounds.order (low_of p.bounds) (high_of p.bounds) (terms_of p) (centre_of p)
