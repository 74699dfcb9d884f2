use mathlib.Core.Path.{sym, ap, ◌∙◌}
use Prim.Native.Nat.{◌<◌}
use native.Mathlib.Omega.{arith}
use Rattle.tables.specs.Ranges.{greatest_order}
use Rattle.cholesky.proofs.Store.{length-columns_of}
use Rattle.bus.specs.Area.{area_of}
use Rattle.bus.specs.Running.{nothing, column, column_work, column_taken, worked}
use Rattle.bus.proofs.Loaded.{loaded-columns, loaded_room, safe_padded, next-padded}
use Rattle.bus.proofs.Worked.{safe_ready, step_tells, worked-yes, worked-no}
use Rattle.bus.proofs.ticking.take_column.Goals as goal

pub work_column-step-requires : goal.work_column-step-requires
work_column-step-requires c =
    let h : c.args.j < greatest_order = omega (arith, c.requires.2, c.requires.3) in
    safe_ready _ c.args.j (loaded_room c.args.run.now {j = c.args.j} h c.load_part.ensures) h
    (sym c.column_safe.ensures ∙ c.if-column_safe.true)

pub keep_column-requires : goal.keep_column-requires
keep_column-requires c =
    let p = c.requires in (
      p.0,
      p.1,
      p.2,
      p.3,
      c.work_column-step.ensures.size,
      (step_tells c.work_column-step.new.s c.args.j _ _ (length-columns_of _ _) c.work_column-step.ensures).1,
    )

pub returns-then-column_safe : goal.returns-then-column_safe
unfolding column_work worked
returns-then-column_safe c =
    let a = c.args in
    let loaded = loaded-columns a.run.now {j = a.j} (omega (arith, c.requires.2, c.requires.3)) c.load_part.ensures in
    let tells = step_tells c.work_column-step.new.s a.j _ _ (length-columns_of _ _) c.work_column-step.ensures in
    c.keep_column.ensures
    ∙ ap (column_taken a.block.now (area_of a.run.now) a.n a.j) (tells.0 ∙ next-padded loaded a.j)
    ∙ worked-yes a.block.now a.run.now (column a.n a.j) nothing
    (sym (c.column_safe.ensures ∙ safe_padded loaded a.j) ∙ c.if-column_safe.true)

pub returns-else-column_safe : goal.returns-else-column_safe
unfolding column_work worked
returns-else-column_safe c =
    let a = c.args in
    let loaded = loaded-columns a.run.now {j = a.j} (omega (arith, c.requires.2, c.requires.3)) c.load_part.ensures in
    worked-no _ _ (column a.n a.j) nothing (sym (c.column_safe.ensures ∙ safe_padded loaded a.j) ∙ c.if-column_safe.false)
