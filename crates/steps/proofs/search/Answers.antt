use mathlib.Core.Path.{◌≡◌}
use Prim.Native.Nat.{suc, ◌*◌, ◌-◌, ◌^◌, ◌%◌}
use native.Mathlib.Omega.{arith}
use mir.Syntax.{w64}
use mir.Val.{to_z}
use lib.IntN.{pos}
use Rattle.integers.proofs.Machine.{clean, fits_within}
use Rattle.cholesky.specs.Store.{upper}
use Rattle.steps.proofs.Searches.{Searching, shifted, tried-within, scaled-within, search_bit, search_start, search_tried, search_more}
use Rattle.steps.proofs.Searches.{search_left, search_end}
use Rattle.steps.proofs.search.Goals as goal
use Rattle.steps.proofs.search.Goals.{In-loop-b}

-- before bit b - 1, and what is tried with it
module _ (c : In-loop-b) where
  searching : (let s = c.args in
      Searching s.n s.first s.last (upper s.h.now) (to_z w64 c.loop-b.t-bits) (suc (c.loop-b.b - 1)))
  searching = search_bit c.loop-b-test.true c.loop-b.invariant

  bit : to_z w64 (1 * 2 ^ (c.loop-b.b - 1) % 2 ^ 64) ≡ pos (2 ^ (c.loop-b.b - 1))
  bit = shifted (c.loop-b.b - 1) (omega (arith, c.loop-b.invariant.least))

pub overflow_add-next : goal.overflow_add-next
overflow_add-next c = rw (bit c) (fits_within (tried-within (search_tried (searching c))) (omega arith))

pub overflow_mul-next : goal.overflow_mul-next
overflow_mul-next c = rw (clean (overflow_add-next c), bit c) (fits_within (scaled-within (search_tried (searching c))) (omega arith))

pub loop-b-init : goal.loop-b-init
loop-b-init c = search_start

pub loop-b-preserved-then-trial : goal.loop-b-preserved-then-trial
loop-b-preserved-then-trial c =
    let r =
    rw (clean (overflow_mul-next c.before.before), clean (overflow_add-next c.before.before), bit c.before.before) at c.trial.ensures in
    rw (clean (overflow_add-next c.before.before), bit c.before.before) (search_more (searching c.before.before) (rw r at c.if-trial.true))

pub loop-b-preserved : goal.loop-b-preserved
loop-b-preserved c =
    let r =
    rw (clean (overflow_mul-next c.before.before), clean (overflow_add-next c.before.before), bit c.before.before) at c.trial.ensures in
    search_left (searching c.before.before) (rw r at c.if-trial.false)

pub returns : goal.returns
returns c =
    let l = c.loop-b in
    let e : l.b ≡ 0 = omega arith in
    search_end (rw e at l.invariant)
