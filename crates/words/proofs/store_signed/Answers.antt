use mathlib.Core.Path.{ap, ◌∙◌}
use Prim.Native.Nat.{ℕ}
use lib.ListN.{take}
use native.Mathlib.Omega.{arith}
use mir.Syntax.{w64}
use mir.Val.{of_z}
use mir.Facts.{to_z-of_z}
use Rattle.std.specs.Int.{to_le_bytes}
use Rattle.words.proofs.Library.{with_low_bytes}
use Rattle.words.proofs.Sign.{narrow-of}
use Rattle.words.specs.Numbers.{with_unsigned, with_signed}
use Rattle.words.proofs.store_signed.Goals as goal

pub returns : goal.returns
unfolding with_signed
returns c =
    let a = c.args in
    let u = of_z w64 a.v in
    let p = c.copy_from_slice in
    let e = p.ensures.after ∙ ap (take a.size) (c.to_le_bytes.ensures ∙ ap (λ z. to_le_bytes w64 (of_z w64 z)) (to_z-of_z {w = w64} c.ranges.v)) in
    with_low_bytes a.size a.b.now p.new.self a.at u (omega (arith, narrow-of a.size)) e ∙ ap (λ (n : ℕ). with_unsigned n a.b.now a.at u) c.requires.0
