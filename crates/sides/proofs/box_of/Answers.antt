-- By the tests of B and of B2.
use mathlib.Core.Path.{◌≡◌, ◌∙◌}
use mathlib.Core.Bool.{true, false}
use mathlib.Core.List.{List}
use Prim.Native.Nat.{ℕ}
use mir.Syntax.{w64}
use mir.Val.{SFits, to_z, of_z}
use lib.IntN.{ℤ, pos, ◌+ℤ◌, ◌*ℤ◌}
use lib.Signed.{le_z, lt_z}
use Rattle.integers.specs.Sum.{sum}
use Rattle.integers.specs.Division.{ceil_div}
use Rattle.integers.specs.Root.{least_root}
use Rattle.integers.proofs.Parts.{le_z_true, le_z_false}
use Rattle.integers.proofs.Machine.{clean, clean_result, lt_yes, lt_no, fits_literal}
use Rattle.tables.specs.Ranges.{greatest_order}
use Rattle.tables.specs.Matrix.{nth}
use Rattle.tables.specs.Buffers.{Filled}
use Rattle.sides.specs.Sides.{bound, second_bound}
use Rattle.sides.proofs.HalfSides.{bound-within, halves-within, half-terms, second-within, second_is, box_none, box_empty, box_sides}
use Rattle.sides.proofs.box_of.Goals as goal
use Rattle.sides.proofs.box_of.Goals.{After-first_halves-y}

-- the test of a number r, which is z, against 0
module _ {r z : ℤ} (e : r ≡ z) (f : SFits w64 r) where
  negative : lt_z (to_z w64 (of_z w64 r)) (to_z w64 (of_z w64 (pos 0))) ≡ true → le_z (pos 0) z ≡ false
  negative t = rw e at (le_z_false {x = pos 0} {y = r} (lt_yes f (fits_literal tt) t))

  not-negative : lt_z (to_z w64 (of_z w64 r)) (to_z w64 (of_z w64 (pos 0))) ≡ false → le_z (pos 0) z ≡ true
  not-negative t = rw e at (le_z_true {x = pos 0} {y = r} (lt_no f (fits_literal tt) t))

-- B
bound_is : (n : ℕ) (g : ℕ → ℤ) {d t r : ℤ} → SFits w64 d → SFits w64 t →
    r ≡ bound n (to_z w64 (of_z w64 d)) (to_z w64 (of_z w64 t)) g → r ≡ bound n d t g
bound_is n g f h e = e ∙ rw (clean f, clean h)

-- the Y(k)
filled : (c : After-first_halves-y) →
    let a = c.args in
    Filled greatest_order a.n (λ k. ceil_div (nth a.g.now k) a.t +ℤ least_root a.t (bound a.n a.d a.t (nth a.g.now)))
    c.first_halves-y.result
filled c =
    rw (clean_result c.bound-b, bound_is _ _ c.ranges.d c.ranges.t c.bound-b.ensures, clean c.ranges.t) at c.first_halves-y.ensures

-- B2
second-bound_is : (n : ℕ) (c : ℕ → ℤ) {d : ℤ} (t : ℤ) (g : ℕ → ℤ) {y : List ℤ} {r : ℤ} → SFits w64 d →
    Filled greatest_order n (λ k. ceil_div (g k) t +ℤ least_root t (bound n d t g)) y →
    r ≡ to_z w64 (of_z w64 d) +ℤ pos 2 *ℤ sum n (λ k. g k *ℤ nth y k) → r ≡ second_bound n d t g
second-bound_is n c t g h f e = e ∙ rw (clean h) (second_is n c _ t c g f)

pub bound-b-requires : goal.bound-b-requires
bound-b-requires c = rw (clean c.ranges.t, clean c.ranges.d) (c.requires.near, c.requires.difference)

pub returns-then-b-lt0 : goal.returns-then-b-lt0
returns-then-b-lt0 c =
    let b = c.bound-b in
    box_none _ _ _ _ _ _ (negative (bound_is _ _ c.ranges.d c.ranges.t b.ensures) (record { sfits = b.type_inv }) c.if-b-lt0.true)

pub first_halves-y-requires : goal.first_halves-y-requires
first_halves-y-requires c =
    rw (clean c.ranges.t, clean_result c.bound-b, bound_is _ _ c.ranges.d c.ranges.t c.bound-b.ensures)
    (c.requires.near, bound-within c.requires.near c.requires.difference)

pub second_bound-b2-requires : goal.second_bound-b2-requires
second_bound-b2-requires c =
    let q = c.requires in
    let f = filled (goal.at.second_bound-b2-requires c).After-first_halves-y in
    rw (clean c.ranges.d) (half-terms q.near (bound-within q.near q.difference) f, q.difference)

pub returns-then-b2-lt0 : goal.returns-then-b2-lt0
returns-then-b2-lt0 c =
    let f = filled (goal.at.returns-then-b2-lt0 c).After-first_halves-y in
    let b = c.bound-b in
    let s = c.second_bound-b2 in
    box_empty _ _ _ _ _ _ f (not-negative (bound_is _ _ c.ranges.d c.ranges.t b.ensures) (record { sfits = b.type_inv }) c.if-b-lt0.false)
    (negative (second-bound_is _ (nth c.args.c.now) _ _ c.ranges.d f s.ensures) (record { sfits = s.type_inv }) c.if-b2-lt0.true)

pub sides_from-sides-requires : goal.sides_from-sides-requires
sides_from-sides-requires c =
    let q = c.requires in
    let w = bound-within q.near q.difference in
    let f = filled (goal.at.sides_from-sides-requires c).After-first_halves-y in
    record {
      order = q.near.order;
      centre-length = q.centre-length;
      centre = q.centre;
      halves = halves-within q.near w f;
      bound =
          rw (clean_result c.second_bound-b2, c.second_bound-b2.ensures, clean c.ranges.d)
          (second-within (half-terms q.near w f) q.difference);
    }

pub returns : goal.returns
returns c =
    let f = filled (goal.at.returns c).After-first_halves-y in
    let b = c.bound-b in
    let s = c.second_bound-b2 in
    let e = second-bound_is _ (nth c.args.c.now) _ _ c.ranges.d f s.ensures in
    box_sides _ _ _ _ _ _ f (not-negative (bound_is _ _ c.ranges.d c.ranges.t b.ensures) (record { sfits = b.type_inv }) c.if-b-lt0.false)
    (not-negative e (record { sfits = s.type_inv }) c.if-b2-lt0.false) (rw (clean_result s, e) at c.sides_from-sides.ensures)
