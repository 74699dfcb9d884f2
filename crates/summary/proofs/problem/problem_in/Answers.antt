use Rattle.std.proofs.Common.{◌≡◌, ℕ, ◌≤◌, List, arith}
use Rattle.tables.specs.Ranges.{greatest_order}
use Rattle.tables.proofs.Matrix.{table_fits}
use Rattle.fields.specs.declared.field.Kind.{Kind}
use Rattle.fields.specs.declared.layout.Layout.{Layout}
use Rattle.fields.specs.Layouts.{length_of}
use Rattle.summary.specs.Problems.{order_in, length_for, FieldsFit}
use Rattle.summary.proofs.Spelled.{length_is}
use Rattle.summary.proofs.problem.problem_in.Goals as goal

-- n, and the lengths that it calls for
module _ {s : List ℕ} {l : Layout} {n : ℕ} (h : FieldsFit s l) (e : n ≡ order_in s l) where
  small : n ≤ greatest_order
  small = rw e h.order

  called : (k : Kind) → length_of l k ≡ length_for n k
  called = length_is _ _ (rw e h.sizes)

pub vector_in-requires : goal.vector_in-requires
vector_in-requires c =
    let e = c.order_in-n.ensures in
    (c.requires.inside, omega (arith, called c.requires e Kind.LinearLow), small c.requires e)

pub vector_in-requires-2 : goal.vector_in-requires-2
vector_in-requires-2 c =
    let e = c.order_in-n.ensures in
    (c.requires.inside, omega (arith, called c.requires e Kind.LinearHigh), small c.requires e)

pub table_in-requires : goal.table_in-requires
table_in-requires c =
    let e = c.order_in-n.ensures in
    (c.requires.inside, omega (arith, called c.requires e Kind.Low), table_fits (small c.requires e))

pub table_in-requires-2 : goal.table_in-requires-2
table_in-requires-2 c =
    let e = c.order_in-n.ensures in
    (c.requires.inside, omega (arith, called c.requires e Kind.High), table_fits (small c.requires e))

pub number_in-requires : goal.number_in-requires
number_in-requires c = (c.requires.inside, omega (arith, called c.requires c.order_in-n.ensures Kind.Limit))

pub vector_in-requires-3 : goal.vector_in-requires-3
vector_in-requires-3 c =
    let e = c.order_in-n.ensures in
    (c.requires.inside, omega (arith, called c.requires e Kind.Centre), small c.requires e)
