use mathlib.Core.Path.{◌≡◌, sym, ◌∙◌}
use Prim.Native.Nat.{◌<◌}
use native.Mathlib.Omega.{arith}
use lib.IntN.{pos, ◌+ℤ◌}
use mir.Syntax.{w64}
use mir.Val.{to_z, of_z}
use Rattle.std.proofs.lemmas.List.{length_push}
use lib.ListN.{take, length}
use lib.Seq.{get_or-take, length-take-le}
use Rattle.std.proofs.lemmas.Slice.Zip.{zip_turn, zip_end}
use Rattle.integers.proofs.Machine.{clean, fits_within}
use Rattle.tables.specs.Matrix.{nth}
use Rattle.tables.proofs.Checks.{all_none, all_more, all_false}
use Rattle.sums.proofs.Fronts.{sum_fits, all-added}
use Rattle.sums.proofs.adding.added_within.Goals as goal
use Rattle.sums.proofs.adding.added_within.Goals.{In-Some}

-- the numbers that a step adds
turn : (c : In-Some) →
    let a = c.args in
    let k = length c.loop-v.yielded in
    (k < a.count) × (to_z w64 (of_z w64 c.in-Some.v.now) +ℤ to_z w64 (of_z w64 c.in-Some.more.now) ≡ nth a.x.now k +ℤ nth a.g.now k)
turn c =
    let a = c.args in
    let n = a.count in
    let k = length c.loop-v.yielded in
    let p = c.requires in
    let t = zip_turn (take n a.x.now) (take n a.g.now) c.loop-v.yielded _ _ c.next.new.self _ (cc) (cc) c.loop-v.yielded_by
    (c.in-Some.v, c.in-Some.more) c.in-Some.is c.next.ensures.steps in
    let m : k < n = omega (arith, length-take-le n a.x.now p.1.room) in (
      m,
      rw (
        t.2 (pos 0),
        t.3 (pos 0),
        get_or-take n a.x.now k (pos 0) m,
        get_or-take n a.g.now k (pos 0) m,
        clean (fits_within (p.1.small k m) (omega arith)),
        clean (fits_within (p.0.small k m) (omega arith)),
      ),
    )

pub loop-v-init : goal.loop-v-init
loop-v-init c = all_none _

pub overflow_add-v : goal.overflow_add-v
overflow_add-v c =
    let p = c.requires in
    let t = turn (goal.at.overflow_add-v c).In-Some in
    rw t.1 (sum_fits (p.1.small _ t.0) (p.0.small _ t.0))

pub returns-then-not-within : goal.returns-then-not-within
returns-then-not-within c =
    let a = c.args in
    let p = c.requires in
    let t = turn (goal.at.returns-then-not-within c).In-Some in
    let tested = rw (t.1, clean (sum_fits (p.1.small _ t.0) (p.0.small _ t.0)), clean c.ranges.bound) at c.within.ensures in
    sym (all_false _ a.count _ t.0 (sym tested ∙ c.if-not-within.true)) ∙ all-added _ a.count a.g.now a.x.now

pub loop-v-preserved : goal.loop-v-preserved
loop-v-preserved c =
    let p = c.requires in
    let t = turn (goal.at.loop-v-preserved c).In-Some in
    let tested = rw (t.1, clean (sum_fits (p.1.small _ t.0) (p.0.small _ t.0))) at c.within.ensures in
    rw length_push (all_more _ _ c.loop-v.invariant (sym tested ∙ c.if-not-within.false))

pub returns : goal.returns
returns c =
    let a = c.args in
    let n = a.count in
    let p = c.requires in
    let t = zip_end (take n a.x.now) (take n a.g.now) c.loop-v.yielded _ _ c.next.new.self _ (cc)
    (cc) c.loop-v.yielded_by c.in-None.is c.next.ensures.steps in
    let e : length c.loop-v.yielded ≡ n = omega (arith, length-take-le n a.x.now p.1.room, length-take-le n a.g.now p.0.room) in
    sym (rw (clean c.ranges.bound, e) at c.loop-v.invariant) ∙ all-added _ a.count a.g.now a.x.now
