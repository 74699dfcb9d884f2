use mathlib.Core.Path.{◌≡◌, ap, ◌∙◌}
use Prim.Native.Nat.{ℕ}
use native.Mathlib.Omega.{arith}
use borrow.Author.Rules.{sfits_of}
use mir.Syntax.{w64}
use mir.Val.{to_z, bytes}
use mir.Facts.{to_z-of_z}
use Rattle.words.specs.Numbers.{width_of, unsigned_at, signed_at}
use Rattle.words.proofs.Laws.{unsigned_at_fits}
use Rattle.words.proofs.load_signed.Goals as goal
use Rattle.words.proofs.load_signed.Goals.{After-load_unsigned}

read : (c : After-load_unsigned)
    → c.load_unsigned.result ≡ unsigned_at (bytes (width_of c.args.size)) c.args.b.now c.args.at
read c =
    let a = c.args in
    c.load_unsigned.ensures ∙ ap (λ (n : ℕ). unsigned_at n a.b.now a.at) c.requires.0

pub signed_of-requires : goal.signed_of-requires
unfolding signed_at
signed_of-requires c =
    let a = c.args in
    rw (read c) (unsigned_at_fits (width_of a.size) a.b.now a.at (record { each = λ j. omega (arith, c.type_inv.b j) }))

pub returns : goal.returns
unfolding signed_at
returns c =
    to_z-of_z {w = w64} (sfits_of c.signed_of.type_inv) ∙ c.signed_of.ensures ∙ ap (to_z (width_of c.args.size)) (read (goal.at.returns c).After-load_unsigned)
