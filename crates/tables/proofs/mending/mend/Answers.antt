use mathlib.Core.Path.{◌≡◌, refl, ap, ◌∙◌}
use mathlib.Core.List.{List}
use native.Mathlib.Omega.{arith}
use native.Mathlib.Numerals.{add-one}
use lib.IntN.{ℤ}
use lib.ListN.{length}
use Rattle.integers.specs.Numbers.{min_ℤ, max_ℤ}
use Rattle.tables.specs.Pairs.{joined_row, joined_rows}
use Rattle.tables.proofs.MendedTables.{greater_pairing, smaller_pairing}
use Rattle.tables.proofs.Joining.{rows-size, rows-mended}
use Rattle.tables.proofs.mending.mend.Lts as lts
use Rattle.tables.proofs.mending.mend.Tie as tie
use Rattle.tables.proofs.mending.mend.Reads as reads
use Rattle.tables.proofs.mending.mend.Goals as goal

abbrev At-loop : Type 0
At-loop = lts.At-loop tie.the-claims reads.Pre reads.Post goal.the-invariant-loop-i goal.the-decreases-loop-i

-- both tables keep their lengths
module _ (c : At-loop) where
  low-kept : length c.loop-i.low ≡ length c.args.low.now
  low-kept = let a = c.args in ap length c.loop-i.invariant.1 ∙ rows-size greater_pairing a.n a.low.now (omega arith) c.loop-i.i (omega arith)

  high-kept : length c.loop-i.high ≡ length c.args.high.now
  high-kept = let a = c.args in ap length c.loop-i.invariant.2 ∙ rows-size smaller_pairing a.n a.high.now (omega arith) c.loop-i.i (omega arith)

pub loop-i-init : goal.loop-i-init
unfolding joined_rows
loop-i-init c = (omega arith, refl, refl)

pub mend_row-requires : goal.mend_row-requires
unfolding joined_rows
mend_row-requires c =
    (c.requires.0, omega arith, omega (arith, low-kept c.before.before.before, high-kept c.before.before.before), omega (arith, low-kept c.before.before.before, high-kept c.before.before.before))

pub loop-i-preserved : goal.loop-i-preserved
unfolding joined_rows
loop-i-preserved c =
    let i = c.loop-i.i in
    let n = c.args.n in (
      omega arith,
      c.mend_row.ensures.0 ∙ ap (λ (t : List ℤ). joined_row max_ℤ n i i t) c.loop-i.invariant.1 ∙ rw add-one refl,
      c.mend_row.ensures.1 ∙ ap (λ (t : List ℤ). joined_row min_ℤ n i i t) c.loop-i.invariant.2 ∙ rw add-one refl,
    )

pub shape_of-low : goal.shape_of-low
unfolding joined_rows
shape_of-low c = low-kept c.before

pub shape_of-high : goal.shape_of-high
unfolding joined_rows
shape_of-high c = high-kept c.before

pub returns : goal.returns
unfolding joined_rows
returns c =
    let l = c.loop-i in
    let e : l.i ≡ c.args.n = omega arith in (
      (rw e at l.invariant.1) ∙ rows-mended greater_pairing c.args.n c.args.low.now (omega arith),
      (rw e at l.invariant.2) ∙ rows-mended smaller_pairing c.args.n c.args.high.now (omega arith),
    )
