use mathlib.Core.Path.{ap, ◌∙◌}
use Prim.Native.Nat.{ℕ, ◌*◌}
use native.Mathlib.Nat.{zero-mul}
use native.Mathlib.Omega.{arith}
use lib.ListN.{get_or}
use lib.IntN.{pos}
use mir.Syntax.{w64}
use mir.Val.{bytes, SFits}
use mir.Facts.{to_z-of_z}
use Rattle.words.specs.Numbers.{width_of, with_signed, bytes_of}
use Rattle.words.proofs.Filling.{fill_bytes}
use Rattle.words.proofs.store_numbers.Goals as goal

pub loop-i-init : goal.loop-i-init
unfolding bytes_of
loop-i-init c = rw (zero-mul (bytes (width_of c.args.size)))

pub loop-i-preserved : goal.loop-i-preserved
loop-i-preserved c =
    let s = c.store_signed in
    let l = c.loop-i in
    let a = c.args in
    let v : SFits w64 (get_or a.a.now l.i (pos 0)) = record { sfits = omega arith } in
    let e = ap (λ (n : ℕ). with_signed (width_of a.size) l.out (l.i * n) (get_or a.a.now l.i (pos 0))) c.requires.0 in
    rw (to_z-of_z {w = w64} v) at s.ensures ∙ e ∙ rw l.invariant (fill_bytes (width_of a.size) a.a.now a.out.now l.i)
