-- By the test. What is added to the root fits by its size alone.
use mathlib.Core.Path.{◌≡◌, ap, ap₂, ◌∙◌}
use native.Mathlib.Omega.{arith}
use lib.IntN.{pos, ◌-ℤ◌}
use lib.Signed.{◌<ℤ◌}
use Rattle.std.proofs.lemmas.Int.{ints}
use Rattle.integers.specs.Numbers.{Within}
use Rattle.integers.specs.Division.{ceil_div}
use Rattle.integers.specs.Root.{whole_root}
use Rattle.arithmetic.specs.Required.{bound_range}
use Rattle.arithmetic.proofs.Quotients.{within_ceil, within-whole_root, root_none, root_some}
use Rattle.arithmetic.proofs.least_root.Goals as goal
use Rattle.arithmetic.proofs.least_root.Goals.{After-ceil_div-q, After-whole_root}

quotient : (c : After-ceil_div-q) → c.ceil_div-q.result ≡ ceil_div c.args.b c.args.t
quotient c = c.ceil_div-q.ensures ∙ ap₂ ceil_div (omega (arith, ints)) (omega (arith, ints))

pub returns-then-q-le0 : goal.returns-then-q-le0
returns-then-q-le0 c =
    let q = quotient (goal.at.returns-then-q-le0 c).After-ceil_div-q in
    root_none c.args.t c.args.b (rw (← q) (grind (arith, ints)))

-- where there is a root: it is that of the quotient less 1, and not above it
some : (c : After-whole_root) → pos 0 <ℤ ceil_div c.args.b c.args.t
some c = let q = quotient (goal.at.After-whole_root c).After-ceil_div-q in rw (← q) (grind (arith, ints))

root : (c : After-whole_root) → c.whole_root.result ≡ whole_root (ceil_div c.args.b c.args.t -ℤ pos 1)
root c = let q = quotient (goal.at.After-whole_root c).After-ceil_div-q in c.whole_root.ensures ∙ ap whole_root (omega (arith, ints))

small : (c : After-whole_root) → Within bound_range c.whole_root.result
small c =
    let s = some c in
    let w = within_ceil c.args.t c.requires.0 in
    rw (root c) (within-whole_root (omega (arith, ints)) (record { size = omega (arith, ints) }))

pub overflow_add-result : goal.overflow_add-result
overflow_add-result c = let w = small c in omega (arith, ints)

pub returns : goal.returns
returns c =
    let r = root (goal.at.returns c).After-whole_root in
    let w = small (goal.at.returns c).After-whole_root in
    rw (← root_some c.args.t c.args.b (some (goal.at.returns c).After-whole_root), ← r) (omega (arith, ints))
