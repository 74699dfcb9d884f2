-- What the box act's answer means, of any call at all.
use mathlib.Core.Bool.{Bool, false≢true}
use mathlib.Core.List.{List}
use lib.IntN.{ℤ}
use Prim.Native.Nat.{ℕ}
use Rattle.tables.specs.Matrix.{nth}
use Rattle.tables.specs.Entering.{low_bounds, high_bounds}
use Rattle.tables.specs.Checks.{order_of}
use Rattle.tables.specs.Problem.{constraint_of, problem_of, ends_in}
use Rattle.tables.specs.declared.problem.Constraint.{Constraint}
use Rattle.tables.proofs.Checks.{passed-bounds}
use Rattle.tables.proofs.MendedTables.{member_mended}
use Rattle.tables.proofs.Admission.{order_small}
use Rattle.tables.proofs.Problems.{constraint_means}
use Rattle.enclosure.specs.Box.{Box, sides, empty, refused, boxed, problem_box, boxing}
use Rattle.enclosure.specs.Points.{Point, Allowed}
use Rattle.enclosure.specs.Act.{Enclosed, laid_sides, Meaning}
use Rattle.enclosure.proofs.Enclosing.{Says, box_says}

-- the sides as they are
abbrev whole : Box → List ℤ → Enclosed (List ℤ)
whole = laid_sides (λ s. s)

-- a point of the constraint as it is handed in is one of the mended tables
pub point_mended : (c : Constraint) {X : ℕ → ℤ} {p : ℤ} → Allowed c X p →
    Point c.order (low_bounds c.order c.low) (high_bounds c.order c.high) (ends_in c) c.limit X p
point_mended c x = record {
  matrix = x.matrix;
  denominator = x.denominator;
  member = member_mended c.order c.low c.high x.member;
  terms = x.terms;
  scale = x.scale;
  between = x.between;
  whole = x.whole;
  inside = x.inside;
}

pub box_means : (c : Constraint) (s : List ℤ) (b : Box) →
    Says c.order (low_bounds c.order c.low) (high_bounds c.order c.high) (ends_in c) c.limit b →
    Meaning (whole b s).answer c (whole b s).sides
box_means c s (sides t) h = record { holds = λ e X p x. h X p (point_mended c x); none = λ e. absurd (false≢true cc) }
box_means c s empty h = record { holds = λ e. absurd (false≢true cc); none = λ e X p x. h X p (point_mended c x) }
box_means c s (refused r) h = record { holds = λ e. absurd (false≢true cc); none = λ e. absurd (false≢true cc) }

-- whatever sizes check 2 asks for
pub boxing-means : (n : ℤ) (sized : Bool) (l u a b : List ℤ) (α : ℤ) (c s : List ℤ) →
    (let j = whole (boxing n sized (problem_of (order_of n) l u a b α c)) s in Meaning j.answer (constraint_of (order_of n) l u a b α) j.sides)
unfolding boxing problem_box
boxing-means n sized l u a b α c s =
    let k = order_of n in
    let d = constraint_of k l u a b α in
    constraint_means refused n sized _ d _ (λ (x : Box). let j = whole x s in Meaning j.answer d j.sides)
    (λ r. box_means d s (refused r) tt)
    (λ e. box_means d s (boxed k (low_bounds k l) (high_bounds k u) (ends_in d) α (nth c)) (box_says k (order_small n) (low_bounds k l) (high_bounds k u) (passed-bounds k l u e.tables) (ends_in d) α (nth c)))
