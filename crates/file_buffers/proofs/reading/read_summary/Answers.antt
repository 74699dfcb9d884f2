use Rattle.std.proofs.Common.{◌≡◌, refl, sym, ◌∙◌, true, ◌≤◌, length}
use mir.Syntax.{w64}
use mir.Val.{bytes}
use Rattle.tables.specs.Ranges.{greatest_order, table_room}
use Rattle.tables.specs.declared.problem.Problem.{Problem}
use Rattle.summary.specs.Problems.{LetThrough}
use Rattle.file_buffers.specs.Parts.{Parts, parts, Numbers, parts_roomy}
use Rattle.file_buffers.proofs.Handing.{roomy_of, parts_by, handing_written}
use Rattle.file_buffers.proofs.reading.read_summary.Goals as goal
use Rattle.file_buffers.proofs.reading.read_summary.Goals.{Start, After-parts_roomy}

-- the buffers as they are lent
abbrev lent : Start → Parts
lent s =
    let a = s.args in
    parts a.order.now a.low.now a.high.now a.from.now a.to.now a.limit.now a.centre.now

-- what check 2 finds
sized : (c : After-parts_roomy) → parts_roomy (lent (goal.at.After-parts_roomy c).Start) ≡ c.parts_roomy.result
sized c = sym (rw c.lengths_of-lengths.ensures at c.parts_roomy.ensures)

-- what the buffers b are asked to be for the problem that was read
module _ {p : Problem} (b : Parts) (z : parts_roomy b ≡ true) (t : LetThrough p) where
  bounds : Numbers table_room p.constraint.low b.low × Numbers table_room p.constraint.high b.high
  bounds =
      let o = roomy_of b z in
      (record { count = t.rooms.low; size = o.low }, record { count = t.rooms.high; size = o.high })

  linear : Numbers greatest_order p.constraint.linear.low b.from × Numbers greatest_order p.constraint.linear.high b.to
  linear =
      let o = roomy_of b z in
      (record { count = t.rooms.linear_low; size = o.from }, record { count = t.rooms.linear_high; size = o.to })

  others : (p.constraint.order ≤ greatest_order) × (length b.order ≡ bytes w64) ×
      (length b.limit ≡ bytes w64) × Numbers greatest_order p.centre b.centre
  others =
      let o = roomy_of b z in
      (t.rooms.order, o.order, o.limit, record { count = t.rooms.centre; size = o.centre })

pub store_bounds-requires : goal.store_bounds-requires
store_bounds-requires c =
    let g = goal.at.store_bounds-requires c in
    bounds (lent g.Start) (sized g.After-parts_roomy ∙ c.if-not-parts_roomy.false) (c.in_ok-problem.ensures.meaning.through refl)

pub store_linear-requires : goal.store_linear-requires
store_linear-requires c =
    let g = goal.at.store_linear-requires c in
    linear (lent g.Start) (sized g.After-parts_roomy ∙ c.if-not-parts_roomy.false) (c.in_ok-problem.ensures.meaning.through refl)

pub store_others-requires : goal.store_others-requires
store_others-requires c =
    let g = goal.at.store_others-requires c in
    others (lent g.Start) (sized g.After-parts_roomy ∙ c.if-not-parts_roomy.false) (c.in_ok-problem.ensures.meaning.through refl)

pub returns : goal.returns
returns c =
    let g = goal.at.returns c in
    let o = c.store_others.ensures in
    let l = c.store_linear.ensures in
    let b = c.store_bounds.ensures in
    handing_written _ (lent g.Start) (sized g.After-parts_roomy
    ∙ c.if-not-parts_roomy.false) c.in_ok-problem.ensures.exact (parts_by o.0 b.0 b.1 l.0 l.1 o.1 o.2)
