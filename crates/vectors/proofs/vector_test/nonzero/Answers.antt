use mathlib.Core.Path.{◌≡◌, refl, ◌∙◌}
use mathlib.Core.Bool.{Bool, true, false, not, ◌&&◌, ◌||◌}
use mathlib.Core.List.{List}
use Prim.Native.Nat.{ℕ, zero, suc, ◌≤◌}
use native.Mathlib.Omega.{arith}
use lib.IntN.{ℤ, pos}
use lib.ListN.{length, take}
use lib.Seq.{take-suc}
use borrow.Author.Rules.{rules}
use borrow.Author.Tests.{tests}
use Rattle.std.specs.List.{list_any}
use Rattle.std.proofs.lemmas.Iterator.{YieldsList-from_slice}
use Rattle.std.proofs.lemmas.Iterator.Search.{any_from_yields_List}
use Rattle.std.proofs.lemmas.List.Folds.{list_any-append}
use Rattle.tables.specs.Matrix.{nth}
use Rattle.tables.specs.Checks.{all, same}
use Rattle.vectors.specs.Least.{nonzero}
use Rattle.vectors.proofs.vector_test.nonzero.Goals as goal

differs : ℤ → Bool
differs v = not (same v (pos 0))

either : (a b : Bool) → (not a || (not b || false)) ≡ not (a && b)
either true true = refl
either true false = refl
either false b = refl

-- one of the first n entries differs from 0
any_first : (n : ℕ) (x : List ℤ) → n ≤ length x → list_any differs (take n x) ≡ nonzero n (nth x)
unfolding all nonzero differs
any_first zero x h = refl
any_first (suc n) x h =
    rw (take-suc x n (pos 0) h, list_any-append differs (take n x), any_first n x (omega arith)) (either (all n (λ i. same (nth x i) (pos 0))) (same (nth x n) (pos 0)))

pub returns : goal.returns
unfolding differs same
returns c =
    let a = c.args in
    any_from_yields_List differs _ _ c.any.result c.any.ensures.ran (YieldsList-from_slice (take a.n a.x.now) cc) (λ x b q k. search (rules, tests))
    ∙ any_first a.n a.x.now c.requires
