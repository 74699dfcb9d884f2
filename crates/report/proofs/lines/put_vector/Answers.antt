use native.Mathlib.Omega.{arith}
use Rattle.text.specs.Text.{ascii}
use Rattle.text.proofs.Puts.{put-within, put_then}
use Rattle.text.proofs.SameLines.{first-lines}
use Rattle.report.specs.Lines.{verdict_text}
use Rattle.report.proofs.lines.put_vector.Goals as goal

pub returns : goal.returns
unfolding verdict_text
returns c =
    rw (← first-lines (ascii "vector") c.args.x.now c.args.n 1 c.args.n (omega arith))
    (put-within (put_then c.put_text-next.ensures (omega (arith, c.requires.1)) c.put_lines.ensures) (omega (arith, c.requires.0)))
