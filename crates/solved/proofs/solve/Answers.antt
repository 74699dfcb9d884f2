use mathlib.Core.Path.{◌≡◌, sym, subst, ◌∙◌}
use mathlib.Core.Bool.{true, false}
use Prim.Native.Nat.{suc, ◌-◌, ◌<◌}
use native.Mathlib.Omega.{arith}
use mir.Syntax.{w64}
use mir.Val.{to_z, of_z}
use Rattle.integers.proofs.Machine.{clean, clean_result}
use Rattle.tables.specs.Ranges.{vector_range}
use Rattle.tables.specs.Checks.{within}
use Rattle.solved.specs.Stopped.{entry_of}
use Rattle.solved.proofs.Solving.{Solving, solving_start, solving_ready, solving_row, solving_none, solving_end}
use Rattle.solved.proofs.solve.Lts as lts
use Rattle.solved.proofs.solve.Tie as tie
use Rattle.solved.proofs.solve.Reads as reads
use Rattle.solved.proofs.solve.Goals as goal

abbrev Else1 : Type 0
Else1 = lts.Else1 tie.the-claims reads.Pre reads.Post goal.the-invariant-loop-i goal.the-decreases-loop-i

abbrev After-x : Type 0
After-x = lts.After-x tie.the-claims reads.Pre reads.Post goal.the-invariant-loop-i goal.the-decreases-loop-i

abbrev Then1 : Type 0
Then1 = lts.Then1 tie.the-claims reads.Pre reads.Post goal.the-invariant-loop-i goal.the-decreases-loop-i

-- in the loop: there is a row, and what holds before it
inside : (c : After-x) → c.loop-i.i - 1 < c.args.stop.rows
inside c = omega arith

walked : (c : After-x) →
    (let a = c.args in
    let l = c.loop-i in
    Solving a.n a.t.now a.stop.column a.stop.rows (to_z w64 (of_z w64 a.s)) l.x (suc (l.i - 1)))
walked c =
    let l = c.loop-i in
    let e : l.i ≡ suc (l.i - 1) = omega arith in
    subst (Solving _ _ _ _ _ _) e l.invariant

-- what the range test found
passed : (c : Else1) →
    (let a = c.args in
    within vector_range (entry_of a.t.now c.loop-i.x (c.loop-i.i - 1) a.stop.column) ≡ true)
passed c =
    let e = c.entry-e in
    rw (clean_result e, e.ensures) at (sym c.within.ensures ∙ c.if-not-within.false)

failed : (c : Then1) →
    (let a = c.args in
    within vector_range (entry_of a.t.now c.loop-i.x (c.loop-i.i - 1) a.stop.column) ≡ false)
failed c =
    let e = c.entry-e in
    rw (clean_result e, e.ensures) at (sym c.within.ensures ∙ c.if-not-within.true)

pub loop-i-init : goal.loop-i-init
loop-i-init c = rw (clean c.ranges.s) (solving_start c.requires.0 c.requires.1)

pub entry-e-requires : goal.entry-e-requires
entry-e-requires c = solving_ready c.requires.0 (inside c) (walked c)

pub returns-then-not-within : goal.returns-then-not-within
returns-then-not-within c =
    rw (clean c.ranges.s) at (solving_none c.requires.0 (inside c.before.before.before) (walked c.before.before.before) (failed c))

pub loop-i-preserved : goal.loop-i-preserved
loop-i-preserved c =
    let e = c.entry-e in
    let h = inside c.before.before.before in
    rw (clean_result e, e.ensures) (solving_row c.requires.0 h (walked c.before.before.before) (passed c))

pub returns : goal.returns
returns c =
    let l = c.loop-i in
    let e : l.i ≡ 0 = omega arith in
    rw (clean c.ranges.s) at (solving_end c.requires.0 (rw e at l.invariant))
