use mathlib.Core.Path.{◌≡◌, refl, sym, ◌∙◌}
use mathlib.Core.Bool.{Bool, true, false, ◌&&◌}
use Prim.Native.Nat.{suc}
use native.Mathlib.Omega.{arith}
use native.Mathlib.Numerals.{add-one}
use lib.IntN.{ℤ, pos}
use Rattle.tables.specs.Ranges.{factor_range}
use Rattle.tables.specs.Checks.{all, within}
use Rattle.tables.proofs.Checks.{all_none, all_more, all_false, and_of, and_first_false, read_less, read_not_less}
use Rattle.cholesky.specs.Store.{upper}
use Rattle.bus.specs.Running.{factor_columns}
use Rattle.bus.proofs.safety.factor_columns.Goals as goal
use Rattle.bus.proofs.safety.factor_columns.Goals.{At-loop-l, After-column_within}

-- diagonal entry l
abbrev diagonal : At-loop-l → ℤ
diagonal c = upper c.args.t.now c.loop-l.l c.loop-l.l

and_second_false : (a : Bool) {b : Bool} → b ≡ false → (a && b) ≡ false
and_second_false true e = e
and_second_false false e = refl

-- what the range of column l gives
module _ (c : After-column_within) where
  abbrev ranged : Bool
  ranged = let l = c.loop-l.l in all (suc l) (λ k. within factor_range (upper c.args.t.now k l))

  found : c.column_within.result ≡ ranged
  found = rw (← add-one c.loop-l.l) c.column_within.ensures

pub loop-l-init : goal.loop-l-init
unfolding factor_columns upper
loop-l-init c = all_none _

pub returns-then-not-column_within : goal.returns-then-not-column_within
unfolding factor_columns upper
returns-then-not-column_within c =
    sym (all_false _ _ c.loop-l.l c.loop-l-test.true (and_first_false _ (sym (found c.before) ∙ c.if-not-column_within.true)))

pub returns-then-t-l-lt1 : goal.returns-then-t-l-lt1
unfolding factor_columns upper
returns-then-t-l-lt1 c =
    sym (all_false _ _ c.loop-l.l c.loop-l-test.true
    (and_second_false (ranged c.before.before.before)
    (read_less (diagonal c.before.before.before.before.before) (pos 1) c.t11-1.given (omega arith) c.if-t-l-lt1.true)))

pub loop-l-preserved : goal.loop-l-preserved
unfolding factor_columns upper
loop-l-preserved c =
    all_more _ c.loop-l.l c.loop-l.invariant
    (and_of (sym (found c.before.before.before) ∙ c.if-not-column_within.false)
    (read_not_less (diagonal c.before.before.before.before.before) (pos 1) c.t11-1.given (omega arith) c.if-t-l-lt1.false))
