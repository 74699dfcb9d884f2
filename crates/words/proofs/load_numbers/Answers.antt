use mathlib.Core.Path.{refl, ap, ◌∙◌}
use Prim.Native.Nat.{ℕ, ◌*◌}
use native.Mathlib.Omega.{arith}
use borrow.Author.Rules.{sfits_of}
use mir.Syntax.{w64}
use mir.Facts.{to_z-of_z}
use Rattle.words.specs.Numbers.{width_of, signed_at, numbers_of}
use Rattle.words.proofs.Filling.{fill_number}
use Rattle.words.proofs.load_numbers.Goals as goal

pub loop-i-init : goal.loop-i-init
unfolding numbers_of
loop-i-init c = refl

pub loop-i-preserved : goal.loop-i-preserved
loop-i-preserved c =
    let l = c.loop-i in
    let a = c.args in
    let e = ap (λ (n : ℕ). signed_at (width_of a.size) a.b.now (l.i * n)) c.requires.0 in
    let v = to_z-of_z {w = w64} (sfits_of c.load_signed.type_inv) ∙ c.load_signed.ensures ∙ e in
    rw (l.invariant, v) (fill_number (width_of a.size) a.b.now a.out.now l.i (omega arith))
