-- The rows follow the word, and what they have over follows the rows.
use mathlib.Core.List.{◌++◌}
use Prim.Native.Nat.{ℕ, ◌*◌, ◌≤◌}
use native.Mathlib.Nat.{mul-le-mul}
use native.Mathlib.Omega.{arith}
use mir.Syntax.{w64}
use mir.Val.{to_z, of_z}
use Rattle.integers.proofs.Machine.{clean}
use Rattle.tables.specs.Ranges.{greatest_order}
use Rattle.text.specs.Text.{ascii, line_room, numbers, line, lines}
use Rattle.text.proofs.Puts.{put-within, put_room, put_then}
use Rattle.text.proofs.SameLines.{first-lines}
use Rattle.report.specs.Lines.{over_text, verdict_text}
use Rattle.report.proofs.lines.put_factor.Goals as goal

-- the rows of the greatest order take up most
rows_room : {n : ℕ} → n ≤ greatest_order → n * line_room 3 n ≤ greatest_order * line_room 3 greatest_order
rows_room {n} h = let l : line_room 3 n ≤ line_room 3 greatest_order = omega arith in mul-le-mul h l

pub returns : goal.returns
unfolding verdict_text line numbers
returns c =
    let n = c.args.n in
    let rows = lines (ascii "row") c.args.f.now n n in
    let over = over_text (to_z w64 (of_z w64 c.args.over)) in
    let room = put_room c.put_text-rows.ensures 0 (omega (arith, c.requires.1)) in
    let both = put_then {t = rows} c.put_lines-next.ensures {s = over} (omega arith) c.put_line.ensures in
    rw (← clean c.ranges.over, ← first-lines (ascii "row") c.args.f.now n n (n * n) (omega arith))
    (put-within (put_then c.put_text-rows.ensures {s = rows ++ over} (omega (arith, c.requires.1)) both)
    (omega (arith, rows_room c.requires.0)))
