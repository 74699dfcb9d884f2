use mathlib.Core.Path.{◌≡◌, sym, ◌∙◌}
use mathlib.Core.Bool.{true}
use Prim.Native.Nat.{◌<◌}
use native.Mathlib.Omega.{arith}
use Rattle.integers.proofs.Machine.{clean}
use Rattle.tables.specs.Checks.{all}
use Rattle.cholesky.specs.Store.{upper}
use Rattle.steps.specs.Tables.{stays}
use Rattle.steps.proofs.Diagonals.{trial_fails, trial-none, trial_factorable, trial-one, trial-ends}
use Rattle.steps.proofs.trial.Goals as goal
use Rattle.steps.proofs.trial.Goals.{Else-not-stays}

-- the diagonal stays
kept : (c : Else-not-stays) → (let a = c.args in all a.last (stays (upper a.h.now) a.first a.e) ≡ true)
kept c = rw (clean c.ranges.e) at (sym c.if-not-stays.ensures)

pub returns-then-not-stays : goal.returns-then-not-stays
returns-then-not-stays c = sym (trial_fails c.requires.0 _ (rw (clean c.ranges.e) at (sym c.if-not-stays.ensures)))

pub returns-then-n-first : goal.returns-then-n-first
returns-then-n-first c = sym (trial-none c.requires.0 _ c.if-n-first.true)

pub ends_from-requires : goal.ends_from-requires
ends_from-requires c =
    let w = rw (clean c.ranges.e) at c.lower.ensures in
    let s = kept (goal.at.ends_from-requires c).Else-not-stays in
    let h : c.args.first < c.args.n = omega (arith, c.if-n-first.false) in
    (trial_factorable c.requires.0 _ s w c.requires.1, h, trial-one c.requires.0 _ s w c.requires.1 h)

pub returns : goal.returns
returns c =
    let w = rw (clean c.ranges.e) at c.lower.ensures in
    let s = kept (goal.at.returns c).Else-not-stays in
    c.ends_from.ensures ∙ trial-ends c.requires.0 _ s w c.requires.1
