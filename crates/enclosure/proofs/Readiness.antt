-- The bounds at a centre of which each g(k) is let through are what the sides ask for.
use mathlib.Core.Path.{◌≡◌}
use mathlib.Core.Bool.{true}
use mathlib.Core.List.{List}
use Prim.Native.Nat.{ℕ}
use native.Mathlib.Omega.{arith}
use lib.IntN.{ℤ, pos}
use lib.Signed.{◌≤ℤ◌, le_z}
use Rattle.integers.specs.Numbers.{Within}
use Rattle.integers.proofs.Machine.{within_more}
use Rattle.tables.specs.Ranges.{greatest_order, limit_range, gradient_range}
use Rattle.tables.specs.Matrix.{at, nth}
use Rattle.tables.specs.Problem.{ends_of}
use Rattle.tables.specs.Buffers.{Filled}
use Rattle.tables.specs.Bounds.{CheckedTables}
use Rattle.tables.specs.Checks.{all}
use Rattle.arithmetic.proofs.Quotients.{nonneg-within}
use Rattle.centre.specs.Centre.{gradient, at_centre}
use Rattle.centre.specs.Required.{LinearTerms}
use Rattle.centre.proofs.Magnitudes.{centre-within, gradient-nonneg, near_within}
use Rattle.sides.specs.Required.{Near, SidesReady}

module _ {n : ℕ} {l u a b c : List ℤ} (q : CheckedTables n l u) (r : LinearTerms n a b c) {t : ℤ} (s : pos 1 ≤ℤ t) {g : List ℤ}
    (f : Filled greatest_order n (gradient n (at n l) (at n u) (ends_of a b) (nth c)) g)
    (e : all n (λ k. le_z (nth g k) (pos gradient_range)) ≡ true) where
  pub near_of : Near n t g
  near_of = record {
    order = q.order;
    size = f.size;
    step = s;
    entries = λ k h.
        nonneg-within (rw (f.entries k h) (gradient-nonneg n (at n l) (at n u) (ends_of a b) (nth c) k)) (near_within n (nth g) e k h);
  }

  pub ready_of : {α : ℤ} → Within limit_range α → SidesReady n c (at_centre n (at n l) (at n u) (ends_of a b) (nth c) α) t g
  ready_of w = record {
    near = near_of;
    centre-length = r.centre-length;
    centre = r.centre;
    difference = within_more (omega arith) (centre-within q r w);
  }
