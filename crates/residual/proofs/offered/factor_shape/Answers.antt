use mathlib.Core.Path.{◌≡◌, sym, ◌∙◌}
use mathlib.Core.List.{List}
use Prim.Native.Nat.{ℕ, ◌+◌, ◌*◌, ◌-◌, ◌≤◌, ◌<◌}
use native.Mathlib.Nat.{mul-le-mul_right}
use native.Mathlib.Omega.{arith}
use lib.IntN.{ℤ}
use lib.ListN.{length, take, drop}
use lib.Seq.{length-take-le}
use Rattle.std.proofs.lemmas.List.{get_or-take, get_or-drop, length-drop}
use Rattle.tables.specs.Matrix.{nth, at}
use Rattle.tables.specs.Checks.{all}
use Rattle.tables.proofs.Checks.{all_more, all_false, all_ext}
use Rattle.residual.specs.FactorTest.{factor_entry, factor_shape}
use Rattle.residual.proofs.offered.factor_shape.Goals as goal
use Rattle.residual.proofs.offered.factor_shape.Goals.{After-row_shape}

-- a row of the factor, and its entries
row : (n i : ℕ) (f : List ℤ) → i < n → n * n ≤ length f →
    let r : List ℤ = take (i * n + n - i * n) (drop (i * n) f) in
    all (length r) (λ j. factor_entry i j (nth r j)) ≡ all n (λ j. factor_entry i j (at n f i j))
unfolding at
row n i f h l =
    let e : i * n + n - i * n ≡ n = omega arith in
    let m : i * n + n ≤ length f = omega (arith, mul-le-mul_right n h) in
    let k : length (take n (drop (i * n) f)) ≡ n = length-take-le n (drop (i * n) f) (omega (arith, length-drop (i * n) f)) in
    rw (e, k) (all_ext n _ _ (λ j o. rw (get_or-take, get_or-drop)))

pub returns-then-not-row_shape : goal.returns-then-not-row_shape
unfolding factor_shape
returns-then-not-row_shape c =
    let e = row c.args.n c.loop-i.i c.args.factor.now c.loop-i-test.true c.requires.1 in
    sym (all_false _ _ c.loop-i.i c.loop-i-test.true (sym (c.row_shape.ensures ∙ e) ∙ c.if-not-row_shape.true))

pub loop-i-preserved : goal.loop-i-preserved
loop-i-preserved c =
    let e = row c.args.n c.loop-i.i c.args.factor.now c.loop-i-test.true c.requires.1 in
    all_more _ c.loop-i.i c.loop-i.invariant (sym (c.row_shape.ensures ∙ e) ∙ c.if-not-row_shape.false)
