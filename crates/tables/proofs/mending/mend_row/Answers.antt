use mathlib.Core.Path.{◌≡◌, refl, ap, ◌∙◌}
use mathlib.Core.List.{List}
use Prim.Native.Nat.{ℕ, ◌+◌, ◌*◌, ◌≤◌, ◌<◌}
use native.Mathlib.Omega.{arith}
use native.Mathlib.Numerals.{add-one}
use lib.IntN.{ℤ}
use lib.ListN.{length}
use mir.Syntax.{w64}
use mir.Val.{Fits}
use Rattle.integers.specs.Numbers.{min_ℤ, max_ℤ}
use Rattle.integers.proofs.Machine.{clean_result, clean_element}
use Rattle.tables.specs.Ranges.{greatest_order}
use Rattle.tables.specs.Matrix.{nth}
use Rattle.tables.specs.Pairs.{joined, joined_row}
use Rattle.tables.proofs.Matrix.{inside, table_fits}
use Rattle.tables.proofs.MendedTables.{greater_pairing, smaller_pairing}
use Rattle.tables.proofs.Joining.{row-size}
use Rattle.tables.proofs.mending.mend_row.Lts as lts
use Rattle.tables.proofs.mending.mend_row.Tie as tie
use Rattle.tables.proofs.mending.mend_row.Reads as reads
use Rattle.tables.proofs.mending.mend_row.Goals as goal

abbrev At-loop : Type 0
At-loop = lts.At-loop tie.the-claims reads.Pre reads.Post goal.the-invariant-loop-j goal.the-decreases-loop-j

abbrev In-loop : Type 0
In-loop = lts.In-loop tie.the-claims reads.Pre reads.Post goal.the-invariant-loop-j goal.the-decreases-loop-j

-- both tables keep their lengths
module _ (c : At-loop) where
  low-kept : length c.loop-j.low ≡ length c.args.low.now
  low-kept = let a = c.args in ap length c.loop-j.invariant.1 ∙ row-size greater_pairing a.n a.low.now (omega arith) a.i c.loop-j.j (omega arith) (omega arith)

  high-kept : length c.loop-j.high ≡ length c.args.high.now
  high-kept = let a = c.args in ap length c.loop-j.invariant.2 ∙ row-size smaller_pairing a.n a.high.now (omega arith) a.i c.loop-j.j (omega arith) (omega arith)

-- a place in a table
place : {n i j : ℕ} → n ≤ greatest_order → i < n → j < n → Fits w64 (i * n + j)
place o h k = record { fits = omega (arith, table_fits o, inside h k) }

row : {n i : ℕ} → n ≤ greatest_order → i < n → Fits w64 (i * n)
row o h = record { fits = omega (arith, table_fits o, inside {j = 0} h (omega arith)) }

-- both places of the pair at hand lie in both tables
module _ (c : In-loop) where
  column : c.loop-j.j < c.args.n
  column = omega arith

  abbrev p : ℕ
  p = c.args.i * c.args.n + c.loop-j.j

  abbrev q : ℕ
  q = c.loop-j.j * c.args.n + c.args.i

  low_first : p < length c.loop-j.low
  low_first = omega (arith, inside c.requires.1 column, low-kept c.before)

  low_second : q < length c.loop-j.low
  low_second = omega (arith, inside column c.requires.1, low-kept c.before)

  high-first : p < length c.loop-j.high
  high-first = omega (arith, inside c.requires.1 column, high-kept c.before)

  high-second : q < length c.loop-j.high
  high-second = omega (arith, inside column c.requires.1, high-kept c.before)

  eighth_first : Fits w64 (p * 8)
  eighth_first = record { fits = omega (arith, table_fits c.requires.0, inside c.requires.1 column) }

  eighth_second : Fits w64 (q * 8)
  eighth_second = record { fits = omega (arith, table_fits c.requires.0, inside column c.requires.1) }

pub loop-j-preserved : goal.loop-j-preserved
unfolding joined_row joined
loop-j-preserved c =
    let s = c.loop-j in
    let a = c.args in
    let x = clean_result c.greater-greatest
    ∙ (rw (clean_element (nth s.low (p c.before.before.before.before.before.before.before.before.before.before.before.before)) c.greater-arg-1.given, clean_element (nth s.low (q c.before.before.before.before.before.before.before.before.before.before.before.before)) c.greater-arg-in-loop-j-1.given) at c.greater-greatest.ensures) in
    let y = clean_result c.smaller-least
    ∙ (rw (clean_element (nth s.high (p c.before.before.before.before.before.before.before.before.before.before.before.before)) c.smaller-arg-1.given, clean_element (nth s.high (q c.before.before.before.before.before.before.before.before.before.before.before.before)) c.smaller-arg-in-loop-j-1.given) at c.smaller-least.ensures) in (
      omega arith,
      ◌∙◌ {b = joined max_ℤ s.low (p c.before.before.before.before.before.before.before.before.before.before.before.before) (q c.before.before.before.before.before.before.before.before.before.before.before.before)} (rw x at c.put_pair.ensures) (ap (λ (t : List ℤ). joined max_ℤ t (p c.before.before.before.before.before.before.before.before.before.before.before.before) (q c.before.before.before.before.before.before.before.before.before.before.before.before)) s.invariant.1 ∙ rw add-one refl),
      ◌∙◌ {b = joined min_ℤ s.high (p c.before.before.before.before.before.before.before.before.before.before.before.before) (q c.before.before.before.before.before.before.before.before.before.before.before.before)} (rw y at c.put_pair-in-loop-j.ensures) (ap (λ (t : List ℤ). joined min_ℤ t (p c.before.before.before.before.before.before.before.before.before.before.before.before) (q c.before.before.before.before.before.before.before.before.before.before.before.before)) s.invariant.2 ∙ rw add-one refl),
    )

pub loop-j-init : goal.loop-j-init
unfolding joined_row
loop-j-init c = (omega arith, refl, refl)

pub overflow_mul-p : goal.overflow_mul-p
unfolding joined_row
overflow_mul-p c = let s = c.requires in row s.0 s.1

pub overflow_add-p : goal.overflow_add-p
unfolding joined_row
overflow_add-p c = let s = c.requires in place s.0 s.1 (omega arith)

pub overflow_mul-q : goal.overflow_mul-q
unfolding joined_row
overflow_mul-q c = let s = c.requires in row s.0 (omega arith)

pub overflow_add-q : goal.overflow_add-q
unfolding joined_row
overflow_add-q c = let s = c.requires in place s.0 (omega arith) s.1

pub offset_bounds-low-p : goal.offset_bounds-low-p
unfolding joined_row
offset_bounds-low-p c = eighth_first c

pub slice_copy_out-greater : goal.slice_copy_out-greater
unfolding joined_row
slice_copy_out-greater c = low_first c

pub offset_bounds-low-q : goal.offset_bounds-low-q
unfolding joined_row
offset_bounds-low-q c = eighth_second c.before

pub slice_copy_out-greater-in-loop-j : goal.slice_copy_out-greater-in-loop-j
unfolding joined_row
slice_copy_out-greater-in-loop-j c = low_second c.before

pub put_pair-requires : goal.put_pair-requires
unfolding joined_row
put_pair-requires c = (low_first c.before.before.before.before, low_second c.before.before.before.before)

pub offset_bounds-high-p : goal.offset_bounds-high-p
unfolding joined_row
offset_bounds-high-p c = eighth_first c.before.before.before.before.before.before

pub slice_copy_out-smaller : goal.slice_copy_out-smaller
unfolding joined_row
slice_copy_out-smaller c = high-first c.before.before.before.before.before.before

pub offset_bounds-high-q : goal.offset_bounds-high-q
unfolding joined_row
offset_bounds-high-q c = eighth_second c.before.before.before.before.before.before.before

pub slice_copy_out-smaller-in-loop-j : goal.slice_copy_out-smaller-in-loop-j
unfolding joined_row
slice_copy_out-smaller-in-loop-j c = high-second c.before.before.before.before.before.before.before

pub put_pair-requires-in-loop-j : goal.put_pair-requires-in-loop-j
unfolding joined_row
put_pair-requires-in-loop-j c = (high-first c.before.before.before.before.before.before.before.before.before.before, high-second c.before.before.before.before.before.before.before.before.before.before)

pub shape_of-low : goal.shape_of-low
unfolding joined_row
shape_of-low c = low-kept c.before

pub shape_of-high : goal.shape_of-high
unfolding joined_row
shape_of-high c = high-kept c.before

pub returns : goal.returns
unfolding joined_row
returns c =
    let e : c.loop-j.j ≡ c.args.i = omega arith in
    (rw e at c.loop-j.invariant.1, rw e at c.loop-j.invariant.2)
