use mathlib.Core.Path.{◌≡◌, sym}
use native.Mathlib.Omega.{arith}
use lib.IntN.{pos}
use Rattle.std.proofs.lemmas.List.{get_or-take, length-take-le}
use Rattle.integers.proofs.Machine.{clean, clean_element}
use Rattle.tables.specs.Matrix.{nth}
use Rattle.tables.specs.Checks.{all_within}
use Rattle.tables.proofs.Checks.{all_none, all_more, all_false}
use Rattle.tables.proofs.all_within.Goals as goal

pub loop-v-init : goal.loop-v-init
unfolding all_within
loop-v-init c = all_none _

pub within-requires : goal.within-requires
within-requires c = rw (clean c.ranges.bound) c.requires.1

pub returns-then-not-within : goal.returns-then-not-within
unfolding all_within
returns-then-not-within c =
    let i = c.loop-v.v-index in
    let size = length-take-le c.args.count c.args.x.now c.requires.0 in
    let q = get_or-take c.args.count c.args.x.now i (pos 0) (omega arith) in
    let x = clean_element (nth c.args.x.now i) (rw q at c.within-arg-1.given) in
    rw (← clean c.ranges.bound) (sym (all_false _ c.args.count i (omega arith) (cc (q, x, c.if-not-within.true))))

pub loop-v-preserved : goal.loop-v-preserved
unfolding all_within
loop-v-preserved c =
    let i = c.loop-v.v-index in
    let size = length-take-le c.args.count c.args.x.now c.requires.0 in
    let q = get_or-take c.args.count c.args.x.now i (pos 0) (omega arith) in
    let x = clean_element (nth c.args.x.now i) (rw q at c.within-arg-1.given) in
    all_more _ i c.loop-v.invariant (cc (q, x, c.if-not-within.false))

pub returns : goal.returns
unfolding all_within
returns c =
    let size = length-take-le c.args.count c.args.x.now c.requires.0 in
    let e : c.loop-v.v-index ≡ c.args.count = omega arith in
    sym (rw (clean c.ranges.bound, e) at c.loop-v.invariant)
