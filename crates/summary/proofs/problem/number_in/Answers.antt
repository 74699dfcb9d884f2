use mathlib.Core.Path.{refl}
use Rattle.fields.proofs.Parts.{length-content}
use Rattle.summary.proofs.problem.number_in.Goals as goal

pub load_signed-requires : goal.load_signed-requires
load_signed-requires c = let p = c.requires in (refl, rw (c.content.ensures, length-content _ _ _ p.0) p.1)
