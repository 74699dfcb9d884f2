use mathlib.Core.Path.{◌∙◌}
use Rattle.file_buffers.proofs.Fronts.{numbers-stored}
use Rattle.file_buffers.proofs.storing.store_bounds.Goals as goal

pub returns : goal.returns
returns c =
    (c.store_numbers.ensures ∙ numbers-stored c.requires.0, c.store_numbers-2.ensures ∙ numbers-stored c.requires.1)
