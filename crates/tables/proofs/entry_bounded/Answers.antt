use mathlib.Core.Path.{◌≡◌}
use mathlib.Core.Bool.{true}
use lib.IntN.{pos, neg_ℤ}
use lib.Signed.{le_z}
use Rattle.integers.proofs.Parts.{le_z_true, le_z_false}
use Rattle.integers.proofs.Machine.{clean, fits_literal, lt_yes, lt_no}
use Rattle.tables.specs.Ranges.{entry_range}
use Rattle.tables.specs.Pairs.{entry_bounded}
use Rattle.tables.proofs.entry_bounded.Lts as lts
use Rattle.tables.proofs.entry_bounded.Reads as reads
use Rattle.tables.proofs.entry_bounded.Goals as goal

abbrev Else1 : Type 0
Else1 = lts.Else1 reads.Pre reads.Post

abbrev Else2 : Type 0
Else2 = lts.Else2 reads.Pre reads.Post

not_low : (c : Else1) → le_z (neg_ℤ (pos entry_range)) c.args.l ≡ true
not_low c = le_z_true (lt_no {y = neg_ℤ (pos entry_range)} c.ranges.l (fits_literal tt) c.if-l.false)

not_high : (c : Else2) → le_z c.args.u (pos entry_range) ≡ true
not_high c = le_z_true (lt_no {x = pos entry_range} (fits_literal tt) c.ranges.u c.if-u-gt-ENTRY_RANGE.false)

pub returns-then-l : goal.returns-then-l
unfolding entry_bounded
returns-then-l c = rw (le_z_false (lt_yes {y = neg_ℤ (pos entry_range)} c.ranges.l (fits_literal tt) c.if-l.true))

pub returns-then-u-gt-ENTRY_RANGE : goal.returns-then-u-gt-ENTRY_RANGE
unfolding entry_bounded
returns-then-u-gt-ENTRY_RANGE c = rw (not_low c.before, le_z_false (lt_yes {x = pos entry_range} (fits_literal tt) c.ranges.u c.if-u-gt-ENTRY_RANGE.true))

pub returns : goal.returns
unfolding entry_bounded
returns c = let f = c.ranges in rw (not_low c.before, not_high c, clean f.l, clean f.u)
