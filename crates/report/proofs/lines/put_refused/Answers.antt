use mathlib.Core.Path.{ap, ◌∙◌}
use native.Mathlib.Omega.{arith}
use lib.IntN.{pos}
use Rattle.integers.proofs.Machine.{clean_element}
use Rattle.text.specs.Text.{numbers, line}
use Rattle.text.proofs.Puts.{put-within}
use Rattle.report.specs.Lines.{numbered}
use Rattle.report.proofs.lines.put_refused.Goals as goal

pub returns : goal.returns
unfolding numbered line numbers
returns c =
    let k = c.from in
    put-within (rw (clean_element k.result k.type_inv ∙ k.ensures ∙ ap pos c.number.ensures) at c.put_line.ensures) (omega arith)
