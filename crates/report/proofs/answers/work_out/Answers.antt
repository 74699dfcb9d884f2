-- The box leaves the tables as they were, so that the decision is on those of the problem.
use Rattle.std.proofs.Common.{◌∙◌, sym, arith}
use Rattle.integers.proofs.Machine.{clean_element}
use Rattle.tables.proofs.Matrix.{table_fits}
use Rattle.report.proofs.Fitting.{verdict_is, box_is, tables, rooms, order-positive, terms, limit}
use Rattle.report.proofs.answers.work_out.Goals as goal

pub invariant_of-bounds : goal.invariant_of-bounds
invariant_of-bounds c = record { checked = tables c.requires }

pub invariant_of-centred : goal.invariant_of-centred
invariant_of-centred c = record { terms = terms c.requires }

pub box_bounds-sides-requires : goal.box_bounds-sides-requires
box_bounds-sides-requires c = rw (clean_element c.args.problem.constraint.limit (omega arith)) (limit c.requires)

pub decide-decision-requires : goal.decide-decision-requires
decide-decision-requires c =
    let l = c.requires in
    (tables l, rooms l, order-positive l, table_fits l.rooms.order)

pub returns : goal.returns
returns c =
    let l = c.requires in
    record {
      verdict = rw (verdict_is l) c.decide-decision.ensures;
      box = (rw (clean_element c.args.problem.constraint.limit (omega arith)) at c.box_bounds-sides.ensures) ∙ sym (box_is l);
    }
