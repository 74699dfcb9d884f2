use mathlib.Core.Path.{◌≡◌, sym, ap, ◌∙◌}
use mathlib.Core.Bool.{Bool, true, ◌&&◌}
use Prim.Native.Nat.{◌*◌}
use lib.IntN.{◌+ℤ◌}
use Rattle.integers.proofs.Machine.{clean}
use Rattle.integers.proofs.Parts.{pos_nonneg}
use Rattle.tables.specs.Ranges.{entry_range, linear_range, limit_range}
use Rattle.tables.specs.Checks.{within, all_within, linear_within, tables_within}
use Rattle.sums.specs.Sums.{added_to, plus, sums_within}
use Rattle.sums.specs.Running.{sums_in, sums_behind}
use Rattle.sums.proofs.Fronts.{plus-front, ranged-low, ranged-high, ranged-from, ranged-to, ranged-limit, limit_fits, sum_fits}
use Rattle.sums.proofs.adding.sums_within.Goals as goal
use Rattle.sums.proofs.adding.sums_within.Goals.{Start, Else-not-added_within, Else-not-added_within-2, After-within}

-- the five tests
abbrev tests : Start → Bool
tests c =
    let g = c.args.gains in
    let s = c.args.sums.now in
    let n = s.order in
    (all_within linear_range n (added_to n g.from.now s.from.now) && all_within linear_range n (added_to n g.to.now s.to.now))
    && (within limit_range (s.limit +ℤ g.limit)
    && (all_within entry_range (n * n) (added_to (n * n) g.low.now s.low.now)
    && all_within entry_range (n * n) (added_to (n * n) g.high.now s.high.now)))

asked : (c : Start) → let s = c.args.sums.now in sums_within (plus (sums_behind s.order c.args.gains) (sums_in s)) ≡ tests c
unfolding sums_within linear_within tables_within
asked c =
    let g = c.args.gains in
    let s = c.args.sums.now in
    ap sums_within
    (plus-front s.order g.low.now g.high.now g.from.now g.to.now g.limit s.low.now s.high.now s.from.now s.to.now s.limit)

pub overflow_add-sums : goal.overflow_add-sums
overflow_add-sums c =
    rw (clean (limit_fits c.requires.0.1), clean (limit_fits c.requires.1))
    (sum_fits (ranged-limit c.requires.0.1) (ranged-limit c.requires.1))

-- what the test of the limit finds
limit : (c : After-within) → c.within.result ≡ within limit_range (c.args.sums.now.limit +ℤ c.args.gains.limit)
limit c =
    let fits = sum_fits (ranged-limit c.requires.0.1) (ranged-limit c.requires.1) in
    rw (clean (limit_fits c.requires.0.1), clean (limit_fits c.requires.1), clean fits) at c.within.ensures

-- the tests that passed
from : (c : Else-not-added_within) → let n = c.args.sums.now.order in
    all_within linear_range n (added_to n c.args.gains.from.now c.args.sums.now.from.now) ≡ true
from c = sym c.added_within.ensures ∙ c.if-not-added_within.false

to : (c : Else-not-added_within-2) → let n = c.args.sums.now.order in
    all_within linear_range n (added_to n c.args.gains.to.now c.args.sums.now.to.now) ≡ true
to c = sym c.added_within-2.ensures ∙ c.if-not-added_within-2.false

pub added_within-requires : goal.added_within-requires
added_within-requires c = (ranged-from c.requires.1, ranged-from c.requires.0.1, pos_nonneg linear_range)

pub returns-then-not-added_within : goal.returns-then-not-added_within
returns-then-not-added_within c =
    let p = goal.at.returns-then-not-added_within c in
    sym (asked p.Start ∙ rw (sym c.added_within.ensures ∙ c.if-not-added_within.true))

pub added_within-requires-2 : goal.added_within-requires-2
added_within-requires-2 c = (ranged-to c.requires.1, ranged-to c.requires.0.1, pos_nonneg linear_range)

pub returns-then-not-added_within-2 : goal.returns-then-not-added_within-2
returns-then-not-added_within-2 c =
    let p = goal.at.returns-then-not-added_within-2 c in
    sym (asked p.Start ∙ rw (from p.Else-not-added_within, sym c.added_within-2.ensures ∙ c.if-not-added_within-2.true))

pub returns-then-not-within : goal.returns-then-not-within
returns-then-not-within c =
    let p = goal.at.returns-then-not-within c in
    sym (asked p.Start ∙ rw (from p.Else-not-added_within, to p.Else-not-added_within-2, sym (limit p.After-within) ∙ c.if-not-within.true))

pub added_within-requires-3 : goal.added_within-requires-3
added_within-requires-3 c = (ranged-low c.requires.1, ranged-low c.requires.0.1, pos_nonneg entry_range)

pub returns-then-not-added_within-3 : goal.returns-then-not-added_within-3
returns-then-not-added_within-3 c =
    let p = goal.at.returns-then-not-added_within-3 c in
    let within-limit = sym (limit p.After-within) ∙ c.if-not-within.false in
    let low = sym c.added_within-3.ensures ∙ c.if-not-added_within-3.true in
    sym (asked p.Start ∙ rw (from p.Else-not-added_within, to p.Else-not-added_within-2, within-limit, low))

pub added_within-requires-4 : goal.added_within-requires-4
added_within-requires-4 c = (ranged-high c.requires.1, ranged-high c.requires.0.1, pos_nonneg entry_range)

pub returns : goal.returns
returns c =
    let p = goal.at.returns c in
    let within-limit = sym (limit p.After-within) ∙ c.if-not-within.false in
    let low = sym c.added_within-3.ensures ∙ c.if-not-added_within-3.false in
    c.added_within-4.ensures ∙ sym (asked p.Start ∙ rw (from p.Else-not-added_within, to p.Else-not-added_within-2, within-limit, low))
