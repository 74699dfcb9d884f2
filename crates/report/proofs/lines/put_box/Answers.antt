-- By the box.
use Prim.Native.Nat.{◌+◌}
use native.Mathlib.Omega.{arith}
use Rattle.sides.specs.Required.{box_in}
use Rattle.enclosure.specs.Stating.{stated}
use Rattle.text.specs.Text.{ascii, lines}
use Rattle.text.proofs.Puts.{put-within}
use Rattle.text.proofs.SameLines.{first-lines}
use Rattle.report.specs.Lines.{box_text}
use Rattle.report.proofs.lines.put_box.Goals as goal

pub returns-in-Ok-Some : goal.returns-in-Ok-Some
unfolding stated box_in box_text
returns-in-Ok-Some c =
    let n = c.args.n in
    let x = c.in-Ok-Some.x in
    rw (c.in-Ok-Some.is, rw c.in-Ok-Some.is at c.in-Ok-Some.field-0-is, ← first-lines (ascii "side") x 2 n (n + n) (omega arith))
    (put-within {t = lines (ascii "side") x 2 n} c.put_lines.ensures (omega (arith, c.requires.0)))

pub returns-in-Ok-None : goal.returns-in-Ok-None
unfolding stated box_in box_text
returns-in-Ok-None c =
    rw (c.in-Ok-None.is, rw c.in-Ok-None.is at c.in-Ok-None.field-0-is) (put-within c.put_text.ensures (omega arith))

pub returns-in-Err : goal.returns-in-Err
unfolding stated box_text
returns-in-Err c = rw c.in-Err.is (put-within c.put_refused.ensures (omega arith))
