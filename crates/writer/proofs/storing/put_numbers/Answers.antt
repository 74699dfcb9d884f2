-- The head, and the numbers behind it.
use Rattle.std.proofs.Common.{◌≡◌, ℕ, ◌*◌, sym, ap, length, List, ℤ, ◌∙◌, arith}
use mir.Val.{bytes}
use Rattle.words.specs.Numbers.{width_of, bytes_of}
use Rattle.words.proofs.Laws.{length-bytes_of}
use Rattle.text.proofs.Puts.{put_room}
use Rattle.writer.proofs.Fields.{part-put, field_put}
use Rattle.writer.proofs.storing.put_numbers.Goals as goal

-- the bytes of a number, and of the numbers
each : (size count : ℕ) → size ≡ bytes (width_of size) → count * bytes (width_of size) ≡ count * size
each size count e = ap (λ (n : ℕ). count * n) (sym e)

sizes : (size count : ℕ) (x : List ℤ) → size ≡ bytes (width_of size) → length (bytes_of (width_of size) x count) ≡ count * size
sizes size count x e = length-bytes_of (width_of size) x count ∙ each size count e

pub returns : goal.returns
returns c =
    let a = c.args in
    let n = a.count * a.size in
    let t = bytes_of (width_of a.size) a.x.now a.count in
    let e = sizes a.size a.count a.x.now c.requires.0 in
    field_put a.kind t e (omega (arith, c.requires.2)) c.put_head-start.ensures
    (part-put _ _ t _ n e (each a.size a.count c.requires.0) (put_room c.put_head-start.ensures n c.requires.2) c.store_numbers.ensures)
