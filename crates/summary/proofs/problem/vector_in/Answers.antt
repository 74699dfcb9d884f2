use mathlib.Core.Path.{refl, ◌∙◌}
use mir.Syntax.{w64}
use Rattle.words.proofs.Filling.{fill_zeros}
use Rattle.tables.specs.Ranges.{greatest_order}
use Rattle.fields.proofs.Parts.{length-content}
use Rattle.summary.proofs.problem.vector_in.Goals as goal

pub load_numbers-requires : goal.load_numbers-requires
load_numbers-requires c = let p = c.requires in (refl, rw (c.content.ensures, length-content _ _ _ p.0) p.1, p.2)

pub returns : goal.returns
returns c = c.load_numbers.ensures ∙ rw c.content.ensures (fill_zeros w64 greatest_order _ _ c.requires.2)
