-- Running sums in slices, lent for writing or to be read, by the constraint that stands there.
use Rattle.std.specs.Prelude.{◌≡◌, ◌++◌, ℕ, ◌*◌, ◌≤◌, length, take, drop}
use Rattle.tables.specs.Ranges.{greatest_order}
use Rattle.tables.specs.Checks.{Checked}
use Rattle.tables.specs.declared.problem.Constraint.{Constraint}
use Rattle.sums.specs.Sums.{Outcome}
use Rattle.sums.specs.Required.{sums_at, Rooms, Ranged, Sums, stated, Stated, Tried}
use Rattle.sums.specs.declared.running.SumsMut.{SumsMut}
use Rattle.sums.specs.declared.running.SumsRef.{SumsRef}

-- the sums
abbrev pub sums_in : SumsMut → Constraint
sums_in s = sums_at s.order s.low.now s.high.now s.from.now s.to.now s.limit

-- their slices have room for them
abbrev pub Roomy : SumsMut → Type 0
Roomy s = (s.order ≤ greatest_order) × Rooms s.order s.low.now s.high.now s.from.now s.to.now

-- and they are in their ranges
abbrev pub InRanges : SumsMut → Type 0
InRanges s = (s.order ≤ greatest_order) × Ranged s.order s.low.now s.high.now s.from.now s.to.now s.limit

-- the sums c stand there
abbrev pub Standing : Constraint → SumsMut → Type 0
Standing c s = Sums c s.order s.low.now s.high.now s.from.now s.to.now s.limit

-- the order and the slices are the same, and each slice keeps its length
pub record SamePlace (s t : SumsMut) : Type 0 where
  pub order : t.order ≡ s.order
  pub low : t.low.ghost_name ≡ s.low.ghost_name
  pub high : t.high.ghost_name ≡ s.high.ghost_name
  pub from : t.from.ghost_name ≡ s.from.ghost_name
  pub to : t.to.ghost_name ≡ s.to.ghost_name
  pub low_size : length t.low.now ≡ length s.low.now
  pub high_size : length t.high.now ≡ length s.high.now
  pub from_size : length t.from.now ≡ length s.from.now
  pub to_size : length t.to.now ≡ length s.to.now

-- what an answer says of the sums there
abbrev pub stated_in : Checked → SumsMut → Outcome
stated_in r s = stated s.order r s.low.now s.high.now s.from.now s.to.now s.limit

-- an act leaves the sums of an outcome there, or answers its refusal
abbrev pub Leaving : Outcome → Checked → SumsMut → Type 0
Leaving o r s = Stated s.order o r s.low.now s.high.now s.from.now s.to.now s.limit

-- the sums c with g added stand there, where each is in its range then; or the sums as they were
abbrev pub Trying : Constraint → Constraint → Checked → SumsMut → Type 0
Trying g c r s = Tried s.order g c r s.low.now s.high.now s.from.now s.to.now s.limit

-- the sums of order n that are to be read
abbrev pub sums_behind : ℕ → SumsRef → Constraint
sums_behind n g = sums_at n g.low.now g.high.now g.from.now g.to.now g.limit

abbrev pub BehindRoomy : ℕ → SumsRef → Type 0
BehindRoomy n g = Rooms n g.low.now g.high.now g.from.now g.to.now

abbrev pub BehindInRanges : ℕ → SumsRef → Type 0
BehindInRanges n g = Ranged n g.low.now g.high.now g.from.now g.to.now g.limit

-- the sums of order n behind g were copied to where s was
pub record Copied (n : ℕ) (g : SumsRef) (s t : SumsMut) : Type 0 where
  pub low : t.low.now ≡ take (n * n) g.low.now ++ drop (n * n) s.low.now
  pub high : t.high.now ≡ take (n * n) g.high.now ++ drop (n * n) s.high.now
  pub from : t.from.now ≡ take n g.from.now ++ drop n s.from.now
  pub to : t.to.now ≡ take n g.to.now ++ drop n s.to.now
  pub limit : t.limit ≡ g.limit

-- g is what stands at s
pub record Viewing (s : SumsMut) (g : SumsRef) : Type 0 where
  pub low : g.low.now ≡ s.low.now
  pub high : g.high.now ≡ s.high.now
  pub from : g.from.now ≡ s.from.now
  pub to : g.to.now ≡ s.to.now
  pub limit : g.limit ≡ s.limit
