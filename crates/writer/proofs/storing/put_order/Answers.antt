-- The head, and one byte behind it.
use mathlib.Core.Path.{refl}
use mathlib.Core.List.{[], ◌∷◌}
use native.Mathlib.Omega.{arith}
use Rattle.fields.specs.declared.field.Kind.TheVariants as Kind
use Rattle.text.proofs.Puts.{put_byte, put_room}
use Rattle.writer.proofs.Fields.{field_put}
use Rattle.writer.proofs.storing.put_order.Goals as goal

pub returns : goal.returns
returns c =
    let n = c.args.n in
    field_put Kind.Order (n ∷ []) refl (omega (arith, c.requires.0)) c.put_head-start.ensures
    (put_byte n (put_room c.put_head-start.ensures 1 c.requires.0))
