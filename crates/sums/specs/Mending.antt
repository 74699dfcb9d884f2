-- Running sums in slices, whose bounds are lent to be mended and whose linear terms are read.
use Rattle.std.specs.Prelude.{◌≡◌, ◌≤◌, length}
use Rattle.tables.specs.Ranges.{greatest_order}
use Rattle.tables.specs.Checks.{Checked}
use Rattle.tables.specs.declared.problem.Constraint.{Constraint}
use Rattle.sums.specs.Sums.{Outcome}
use Rattle.sums.specs.Required.{sums_at, Rooms, Stated}
use Rattle.sums.specs.declared.running.SumsRef.{SumsRef}
use Rattle.sums.specs.declared.mending.SumsToMend.{SumsToMend}

-- the sums
abbrev pub to_mend : SumsToMend → Constraint
to_mend s = sums_at s.order s.low.now s.high.now s.from.now s.to.now s.limit

-- their slices have room for them
abbrev pub RoomToMend : SumsToMend → Type 0
RoomToMend s = (s.order ≤ greatest_order) × Rooms s.order s.low.now s.high.now s.from.now s.to.now

-- the order and the slices of the bounds are the same, and each slice keeps its length
pub record SameBounds (s t : SumsToMend) : Type 0 where
  pub order : t.order ≡ s.order
  pub low : t.low.ghost_name ≡ s.low.ghost_name
  pub high : t.high.ghost_name ≡ s.high.ghost_name
  pub low_size : length t.low.now ≡ length s.low.now
  pub high_size : length t.high.now ≡ length s.high.now

-- the linear terms and the running limit are kept
pub record SameTerms (s t : SumsToMend) : Type 0 where
  pub from : t.from.now ≡ s.from.now
  pub to : t.to.now ≡ s.to.now
  pub limit : t.limit ≡ s.limit

-- an act leaves the sums of an outcome there, or answers its refusal
abbrev pub LeavingMended : Outcome → Checked → SumsToMend → Type 0
LeavingMended o r s = Stated s.order o r s.low.now s.high.now s.from.now s.to.now s.limit

-- g is what stands at s
pub record ViewingMended (s : SumsToMend) (g : SumsRef) : Type 0 where
  pub low : g.low.now ≡ s.low.now
  pub high : g.high.now ≡ s.high.now
  pub from : g.from.now ≡ s.from.now
  pub to : g.to.now ≡ s.to.now
  pub limit : g.limit ≡ s.limit
