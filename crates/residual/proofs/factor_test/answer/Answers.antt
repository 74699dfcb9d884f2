-- By the sign of what the rows have over.
use mathlib.Core.Path.{◌≡◌, sym, ◌∙◌}
use mathlib.Core.Bool.{Bool, true, false}
use native.Mathlib.Omega.{arith}
use lib.IntN.{pos}
use lib.Signed.{le_z}
use mir.Syntax.{w64}
use mir.Val.{to_z, of_z, SFits}
use Rattle.std.specs.Prelude.{Ok}
use Rattle.std.proofs.Common.{rules}
use Rattle.std.proofs.lemmas.Int.{ints, to_z-of_z}
use Rattle.tables.specs.Answers.{after}
use Rattle.tables.specs.Checks.{first_refusal}
use Rattle.tables.specs.Matrix.{at}
use Rattle.residual.specs.FactorTest.{tested, factor_answer}
use Rattle.residual.proofs.Meaning.{accepts-over}
use Rattle.residual.proofs.factor_test.answer.Goals as goal
use Rattle.residual.proofs.factor_test.answer.Goals.{After-over-v}

answered : (c : After-over-v) (b : Bool) → le_z (pos 0) c.over-v.result ≡ b → let a = c.args in
    Ok (tested b (to_z w64 (of_z w64 c.over-v.result))) ≡ factor_answer a.n (at a.n a.low.now) (at a.n a.high.now) (at a.n a.factor.now)
unfolding factor_answer after first_refusal
answered c b e =
    let a = c.args in
    let f : SFits w64 c.over-v.result = search rules in
    let d = accepts-over a.n (at a.n a.factor.now) (at a.n a.low.now) (at a.n a.high.now) in
    let s = sym c.factor_shape.ensures ∙ c.if-not-factor_shape.false in
    rw (s, d, ← c.over-v.ensures, e, to_z-of_z w64 _ f)

pub returns-then-v-lt0 : goal.returns-then-v-lt0
unfolding tested
returns-then-v-lt0 c = answered (goal.at.returns-then-v-lt0 c).After-over-v false (grind (arith, ints))

pub returns : goal.returns
unfolding tested
returns c = answered (goal.at.returns c).After-over-v true (grind (arith, ints))
