-- The box that the code states, and what it is of.
use Rattle.std.specs.Prelude.{List, ℕ, ℤ, Option, Result, Ok, Err}
use Rattle.tables.specs.declared.Refusal.{Refusal}
use Rattle.sides.specs.Required.{box_in}
use Rattle.tables.specs.Bounded.{low_of, high_of}
use Rattle.centre.specs.Centred.{terms_of, centre_of}
use Rattle.centre.specs.declared.centred.Centred.{Centred}
use Rattle.enclosure.specs.Box.{Box, refused, boxed}

-- the sides stand in the first 2 n numbers of what is answered, where there are some
unfoldable pub stated : ℕ → Result (Option (List ℤ)) Refusal → Box
stated n (Ok o) = box_in n o
stated n (Err r) = refused r

-- the box of a problem behind the door
abbrev pub boxed_of : Centred → ℤ → Box
boxed_of p α = boxed p.bounds.order (low_of p.bounds) (high_of p.bounds) (terms_of p) α (centre_of p)
