use mathlib.Core.Path.{sym, ◌∙◌}
use Rattle.integers.proofs.Machine.{clean_result}
use Rattle.bus.proofs.Areas.{nth-area}
use Rattle.bus.proofs.area.number_in.Goals as goal

pub returns : goal.returns
returns c =
    clean_result c.load_signed ∙ c.load_signed.ensures ∙ sym (nth-area c.args.run.now c.args.k c.requires.1)
