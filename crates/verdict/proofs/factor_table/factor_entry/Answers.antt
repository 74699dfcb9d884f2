-- By the test.
use mathlib.Core.Path.{sym}
use native.Mathlib.Omega.{arith}
use mir.Syntax.{w64}
use mir.Val.{SFits}
use Rattle.std.proofs.Common.{rules}
use Rattle.std.proofs.lemmas.Int.{to_z-of_z}
use Rattle.cholesky.specs.Store.{upper}
use Rattle.cholesky.proofs.Store.{triangle_on, triangle-below}
use Rattle.verdict.proofs.factor_table.factor_entry.Goals as goal

pub returns-then-i-j : goal.returns-then-i-j
unfolding upper
returns-then-i-j c =
    let e : SFits w64 (upper c.args.t.now c.args.i c.args.j) = search rules in
    simp to_z-of_z (sym (triangle_on _ _ _ (omega arith)))

pub returns : goal.returns
unfolding upper
returns c = sym (triangle-below _ _ _ (omega arith))
