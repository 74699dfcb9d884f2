use mathlib.Core.Path.{◌∙◌}
use native.Mathlib.Omega.{arith}
use Rattle.integers.proofs.Machine.{read_i64, clean_element}
use Rattle.buffers.proofs.Stores.{number-stored}
use Rattle.file_buffers.proofs.Fronts.{numbers-stored}
use Rattle.file_buffers.proofs.storing.store_others.Goals as goal

pub returns : goal.returns
returns c =
    let a = c.args in
    let p = c.requires in (
      number-stored a.order.now p.1 (read_i64 _ (omega (arith, p.0))) c.store_signed.ensures,
      number-stored a.limit.now p.2 (clean_element a.problem.now.constraint.limit (omega arith)) c.store_signed-2.ensures,
      c.store_numbers.ensures ∙ numbers-stored p.3,
    )
