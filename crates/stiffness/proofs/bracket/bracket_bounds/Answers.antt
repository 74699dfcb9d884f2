use mathlib.Core.Path.{◌∙◌}
use Prim.Native.Nat.{◌≤◌}
use native.Mathlib.Omega.{arith}
use lib.ListN.{length}
use Rattle.tables.proofs.Buffers.{stored-whole}
use Rattle.stiffness.proofs.Stating.{stated-laid}
use Rattle.stiffness.proofs.bracket.bracket_bounds.Goals as goal

pub returns : goal.returns
returns g c =
    let elements = g.E.Element.elements in
    let n = c.args.bounds.order in
    let x = c.find-found.new.x in
    let s = c.find-found.ensures in
    let room : n ≤ length x = omega (arith, c.args.bounds.checked.order, s.size) in
    rw (c.store.ensures ∙ stored-whole elements x c.args.vector.now room c.requires.1)
    (stated-laid n _ _ (λ x. elements x n) s c.args.vector.now)
