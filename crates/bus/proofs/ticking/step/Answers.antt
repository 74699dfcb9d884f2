use mathlib.Core.Path.{◌≡◌, refl, sym, ap, ◌∙◌}
use mathlib.Core.Bool.{Bool, true, false, ◌&&◌}
use mathlib.Core.List.{List}
use Prim.Native.Nat.{ℕ, ◌≤◌, ◌<◌, ◌^◌}
use native.Mathlib.Omega.{arith}
use borrow.Author.Tests.{le-ltb}
use lib.IntN.{ℤ, pos, negsuc, nat_abs}
use lib.Signed.{◌≤ℤ◌, le_z, lt_z, mag}
use mir.Syntax.{w64}
use mir.Val.{to_z, of_z}
use Rattle.integers.proofs.Machine.{clean_element, fits, lt_holds, lt_fails, as_usize, read_i64}
use Rattle.integers.proofs.Parts.{pos_nonneg, le_z_true, le_z_false}
use Rattle.std.specs.Prelude.{Ok}
use Rattle.tables.specs.Ranges.{greatest_order}
use Rattle.tables.specs.Matrix.{nth}
use Rattle.tables.specs.Checks.{ordered, order_of}
use Rattle.tables.proofs.Checks.{and_first_false}
use Rattle.tables.proofs.Admission.{order_small, order-passed, order-refused}
use Rattle.bus.specs.Area.{order_at, column_at, stop_at, area_of}
use Rattle.bus.specs.Running.{Work, nothing, work_at, work_of, worked}
use Rattle.bus.proofs.Worked.{nat_abs-below, worked-yes, worked-no}
use Rattle.bus.proofs.ticking.step.Goals as goal

-- a number as the code reads it
read : {x y : ℤ} → mag x < 2 ^ 63 → x ≡ y → to_z w64 (of_z w64 x) ≡ y
read h e = clean_element _ h ∙ e

-- the order
module _ (s : List ℕ) {x : ℤ} {n : ℕ} (h : mag x < 2 ^ 63) (e : x ≡ nth (area_of s) order_at)
    (o : Ok n ≡ ordered (to_z w64 (of_z w64 x))) where
  order : n ≡ order_of (nth (area_of s) order_at)
  order = (order-passed (record { sfits = h }) o).0 ∙ ap order_of e

  small : n ≤ greatest_order
  small = omega (arith, order, order_small (nth (area_of s) order_at))

  -- the column, from 0 up, and below the order or not
  module _ {y : ℤ} (k : mag y < 2 ^ 63) (f : y ≡ nth (area_of s) column_at)
      (q : lt_z (to_z w64 (of_z w64 y)) (pos 0) ≡ false) {b : Bool} (t : lt_z (to_z w64 (of_z w64 y)) (to_z w64 n) ≡ b) where
    up : pos 0 ≤ℤ nth (area_of s) column_at
    up = lt_fails (rw (read k f) at q)

    below : lt_z (nth (area_of s) column_at) (pos (order_of (nth (area_of s) order_at))) ≡ b
    below = rw (read k f, read_i64 n (omega (arith, small)) ∙ ap pos order) at t

    within : (le_z (pos 0) (nth (area_of s) column_at) && lt_z (nth (area_of s) column_at) (pos (order_of (nth (area_of s) order_at)))) ≡ b
    within = ap (λ (z : Bool). z && lt_z (nth (area_of s) column_at) (pos (order_of (nth (area_of s) order_at)))) (le_z_true up) ∙ below

    column : b ≡ true → nat_abs (to_z w64 (of_z w64 y)) < n
    column g = rw (read k f, order) (nat_abs-below up (lt_holds (below ∙ g)))

-- below 0
under : (s : List ℕ) {y : ℤ} → mag y < 2 ^ 63 → y ≡ nth (area_of s) column_at → lt_z (to_z w64 (of_z w64 y)) (pos 0) ≡ true →
    (le_z (pos 0) (nth (area_of s) column_at) && lt_z (nth (area_of s) column_at) (pos (order_of (nth (area_of s) order_at)))) ≡ false
under s k f t = and_first_false _ (le_z_false {x = pos 0} {y = nth (area_of s) column_at} (lt_holds (rw (read k f) at t)))

-- nor is a number from 0 up below 0
none-below : (j : ℤ) → (le_z (pos 0) j && lt_z j (pos 0)) ≡ false
none-below (pos k) =
    ap (λ (b : Bool). b && lt_z (pos k) (pos 0)) (le_z_true {x = pos 0} {y = pos k} (pos_nonneg k)) ∙ le-ltb k 0 (omega arith)
none-below (negsuc k) = refl

-- what is done then
module _ (b s : List ℕ) where
  abbrev test : Bool
  test = le_z (pos 0) (nth (area_of s) column_at) && lt_z (nth (area_of s) column_at) (pos (order_of (nth (area_of s) order_at)))

  abbrev next : Work
  next = work_at (area_of s) (order_of (nth (area_of s) order_at)) (nat_abs (nth (area_of s) column_at)) (nth (area_of s) stop_at)

  idle : test ≡ false → record { block = b; run = s } ≡ worked b s (work_of (area_of s))
  unfolding work_of worked
  idle e = worked-no b s next nothing e

  busy : test ≡ true → worked b s next ≡ worked b s (work_of (area_of s))
  unfolding work_of
  busy e = worked-yes b s next nothing e

pub returns-in_default : goal.returns-in_default
returns-in_default c =
    let a = c.args in
    let n = c.number_in in
    let o = order-refused (record { sfits = n.type_inv }) (sym c.in_default.is ∙ c.order.ensures) in
    idle a.block.now a.run.now (rw (sym (ap order_of n.ensures) ∙ o.1) (none-below (nth (area_of a.run.now) column_at)))

pub returns-then-j-lt0 : goal.returns-then-j-lt0
returns-then-j-lt0 c =
    let a = c.args in let j = c.number_in-j in idle a.block.now a.run.now (under a.run.now j.type_inv j.ensures c.if-j-lt0.true)

pub overflow_cast-n : goal.overflow_cast-n
overflow_cast-n c = fits (omega (arith, small c.args.run.now c.number_in.type_inv c.number_in.ensures c.in-Ok.ensures))

pub overflow_cast-j : goal.overflow_cast-j
overflow_cast-j c =
    let j = c.number_in-j in
    as_usize {x = j.result} (record { sfits = j.type_inv }) (lt_fails (rw (clean_element _ j.type_inv) at c.if-j-lt0.false))

pub work-requires : goal.work-requires
work-requires c =
    let p = c.requires in
    let n = c.number_in in
    let j = c.number_in-j in
    let s = c.args.run.now in (
      p.0,
      p.1,
      small s n.type_inv n.ensures c.in-Ok.ensures,
      column s n.type_inv n.ensures c.in-Ok.ensures j.type_inv j.ensures c.if-j-lt0.false c.if-j-n.true refl,
    )

pub returns-then-j-n : goal.returns-then-j-n
returns-then-j-n c =
    let a = c.args in
    let s = a.run.now in
    let n = c.number_in in
    let j = c.number_in-j in
    let p = c.number_in-p in
    (rw (order s n.type_inv n.ensures c.in-Ok.ensures, read j.type_inv j.ensures, read p.type_inv p.ensures) at c.work.ensures)
    ∙ busy a.block.now s (within s n.type_inv n.ensures c.in-Ok.ensures j.type_inv j.ensures c.if-j-lt0.false c.if-j-n.true)

pub returns-else-j-n : goal.returns-else-j-n
returns-else-j-n c =
    let a = c.args in
    let s = a.run.now in
    let n = c.number_in in
    let j = c.number_in-j in
    idle a.block.now s (within s n.type_inv n.ensures c.in-Ok.ensures j.type_inv j.ensures c.if-j-lt0.false c.if-j-n.false)
