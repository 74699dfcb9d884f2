use mathlib.Core.Path.{◌≡◌, ap, ◌∙◌}
use mathlib.Core.Bool.{Bool, true}
use Prim.Native.Nat.{ℕ, suc, ◌+◌, ◌-◌, ◌≤◌, ◌<◌}
use native.Mathlib.Numerals.{add-one}
use native.Mathlib.Omega.{arith}
use lib.IntN.{ℤ, pos, nat_abs, ◌-ℤ◌}
use lib.Signed.{le_z}
use mir.Syntax.{w64}
use mir.Val.{SFits, to_z, of_z}
use Rattle.integers.proofs.Machine.{clean, fits, same_bits, fits_literal, as_usize, read_i64}
use Rattle.integers.proofs.Parts.{pos_nonneg}
use Rattle.tables.specs.Ranges.{greatest_order}
use Rattle.tables.proofs.Checks.{le_of}
use Rattle.bus.specs.Running.{nothing, work_at, worked}
use Rattle.bus.proofs.Worked.{stop_row, below_zero, worked-yes, worked-no}
use Rattle.bus.proofs.ticking.work.Goals as goal

-- j + 1 as a signed number
next : (j : ℕ) → j < greatest_order → to_z w64 (j + 1) ≡ pos (suc j)
next j h = read_i64 (j + 1) (omega arith) ∙ ap pos (add-one j)

module _ {p : ℤ} (f : SFits w64 p) where
  -- 1 ≤ p, and p < 1
  at-least : {b : Bool} → le_z (pos 1) (to_z w64 (of_z w64 p)) ≡ b → le_z (pos 1) p ≡ b
  at-least e = rw (clean f) at e

  module _ {j n : ℕ} (o : n ≤ greatest_order) (h : j < n) where
    -- p ≤ j + 1, and j + 1 < p
    at-most : {b : Bool} → le_z (to_z w64 (of_z w64 p)) (to_z w64 (j + 1)) ≡ b → le_z p (pos (suc j)) ≡ b
    at-most e = rw (clean f, next j (omega (arith, o, h))) at e

    -- the rows of the stop
    module _ (d : le_z (pos 1) (to_z w64 (of_z w64 p)) ≡ true) (e : le_z (to_z w64 (of_z w64 p)) (to_z w64 (j + 1)) ≡ true) where
      row : (p -ℤ pos 1 ≡ pos (nat_abs p - 1)) × (nat_abs p - 1 ≤ j)
      row = stop_row p j (le_of _ _ (at-least d)) (le_of _ _ (at-most e))

      fit : SFits w64 (p -ℤ pos 1)
      fit = rw row.0 (fits (omega (arith, row.1, o, h)))

      read : nat_abs (to_z w64 (of_z w64 (to_z w64 (of_z w64 p) -ℤ pos 1))) ≡ nat_abs p - 1
      read = rw (clean f, clean fit, row.0)

pub overflow_sub-p : goal.overflow_sub-p
overflow_sub-p c = let p = c.requires in rw (clean c.ranges.p) (fit c.ranges.p p.2 p.3 c.if-p-ge1.true c.if-p-j.true)

pub overflow_cast-p : goal.overflow_cast-p
overflow_cast-p c =
    let p = c.requires in
    rw (clean c.ranges.p)
    (as_usize (fit c.ranges.p p.2 p.3 c.if-p-ge1.true c.if-p-j.true)
    (rw (row c.ranges.p p.2 p.3 c.if-p-ge1.true c.if-p-j.true).0 (pos_nonneg _)))

pub search-requires : goal.search-requires
search-requires c =
    let p = c.requires in (
      p.0,
      p.1,
      p.2,
      p.3,
      rw (read c.ranges.p p.2 p.3 c.if-p-ge1.true c.if-p-j.true) (row c.ranges.p p.2 p.3 c.if-p-ge1.true c.if-p-j.true).1,
    )

pub returns-then-p-j : goal.returns-then-p-j
unfolding work_at worked
returns-then-p-j c =
    let p = c.requires in
    (rw (read c.ranges.p p.2 p.3 c.if-p-ge1.true c.if-p-j.true) at c.search.ensures)
    ∙ worked-yes _ _ _ nothing (at-most c.ranges.p p.2 p.3 c.if-p-j.true) ∙ worked-yes _ _ _ _ (at-least c.ranges.p c.if-p-ge1.true)

pub returns-else-p-j : goal.returns-else-p-j
unfolding work_at worked
returns-else-p-j c =
    let p = c.requires in
    worked-no _ _ _ nothing (at-most c.ranges.p p.2 p.3 c.if-p-j.false) ∙ worked-yes _ _ _ _ (at-least c.ranges.p c.if-p-ge1.true)

pub returns-then-p-eq0 : goal.returns-then-p-eq0
unfolding work_at worked
returns-then-p-eq0 c =
    let zero : c.args.p ≡ pos 0 = same_bits c.ranges.p (fits_literal tt) c.if-p-eq0.true in
    c.take_column.ensures ∙ worked-yes _ _ _ nothing (ap (le_z (pos 0)) zero) ∙ worked-no _ _ _ _ (at-least c.ranges.p c.if-p-ge1.false)

pub returns-else-p-eq0 : goal.returns-else-p-eq0
unfolding work_at worked
returns-else-p-eq0 c =
    let none = at-least c.ranges.p c.if-p-ge1.false in
    worked-no _ _ _ nothing (below_zero c.args.p none (λ e. c.if-p-eq0.false (ap (of_z w64) e))) ∙ worked-no _ _ _ _ none
