use mathlib.Core.Path.{◌≡◌, ◌∙◌}
use Prim.Native.Nat.{◌-◌, ◌*◌, ◌≤◌}
use native.Mathlib.Omega.{arith}
use lib.ListN.{length, take, drop, length-drop}
use lib.Seq.{take_all}
use Rattle.pool.proofs.Counting.{part_inside}
use Rattle.pool.proofs.Fronts.{loaded-nth}
use Rattle.pool.proofs.parts.load_part.Goals as goal

pub returns : goal.returns
returns g c m h =
    let law = g.met.E.Listed.parts in
    let n = c.args.count in
    let f = c.args.k * n in
    let later = drop (g.E.Element.taken f) c.args.x.now in
    let rest = length c.args.x.now - g.E.Element.taken f in
    let all : take rest later ≡ later = take_all rest later (rw length-drop (omega arith)) in
    let q = rw (c.taken.ensures, all) at c.load.ensures in
    let room : g.E.Element.taken n ≤ length later = rw (length-drop, law.each f, law.each n) (omega (arith, c.requires.0)) in
    record {
      size = c.load.auto.out;
      entries = λ i l. loaded-nth (g.E.Element.numbers later n) _ (law.room later n room) q i l
          ∙ law.later c.args.x.now f n (m * n) i (part_inside n h) l;
    }
