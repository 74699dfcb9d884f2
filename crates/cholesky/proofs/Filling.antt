-- The matrix H in its table: how large its entries get, and the walk of the code through a column.
use mathlib.Core.Path.{◌≡◌, ◌∙◌}
use mathlib.Core.Logic.{by_cases}
use mathlib.Core.List.{List}
use Prim.Native.Nat.{ℕ, suc, ◌+◌, ◌*◌, ◌^◌, ◌≤◌, ◌<◌}
use native.Mathlib.Omega.{arith}
use native.Mathlib.Decide.{ℕ_discrete}
use lib.IntN.{ℤ, pos, ◌+ℤ◌, ◌-ℤ◌, ◌*ℤ◌}
use lib.Signed.{◌≤ℤ◌, mag}
use lib.ListN.{length, set, length-set}
use mir.Syntax.{w64}
use mir.Val.{SFits, to_z, of_z}
use Rattle.integers.specs.Numbers.{Within}
use Rattle.integers.proofs.Machine.{within_more, within-+, within--, within-*, within-sum, fits_within, clean_element}
use Rattle.tables.specs.Ranges.{greatest_order, table_room, entry_range}
use Rattle.tables.specs.Matrix.{Matrix, row_width}
use Rattle.tables.specs.Bounds.{Bounds, CheckedTables}
use Rattle.tables.proofs.Matrix.{inside, table_fits}
use Rattle.cholesky.specs.Scale.{half_scale, take_off, scaled}
use Rattle.cholesky.specs.Store.{upper, stride}
use Rattle.cholesky.specs.Scaling.{Ranged, Lent, Scaled}
use Rattle.cholesky.specs.Rows.{product_range, rest_range, Factorable}
use Rattle.cholesky.proofs.ScaledMatrix.{scaled_off, scaled_on, scaled_top, take_off_within, take_off_suffices}
use Rattle.cholesky.proofs.Store.{upper-same, upper_other}

-- ---- where entry (i, j) stands in the tables of L and U
pub record Placed (n i j : ℕ) (l u : List ℤ) : Type 0 where
  pub low : i * n + j < length l
  pub high : i * n + j < length u
  pub small : i * n + j < table_room

pub placed : {n i j : ℕ} {l u : List ℤ} → Lent n l u → i < n → j < n → Placed n i j l u
placed {n} {i} {j} a h k =
    let p : i * n + j < n * n = inside h k in
    record { low = omega (arith, a.low-length); high = omega (arith, a.high-length); small = omega (arith, table_fits a.order) }

-- two entries that were just read, added up
pub clean-sum : (x y : ℤ) → mag x < 2 ^ 63 → mag y < 2 ^ 63 → to_z w64 (of_z w64 x) +ℤ to_z w64 (of_z w64 y) ≡ x +ℤ y
clean-sum x y f g = rw (clean_element x f, clean_element y g)

-- ---- sizes
numeral_within : (m : ℕ) → Within m (pos m)
numeral_within m = record { size = omega arith }

module _ {n : ℕ} {L U : Matrix} (o : n ≤ greatest_order) (r : Ranged n L U) where
  module _ {i j : ℕ} (h : i < n) (k : j < n) where
    gap_within : Within (2 * entry_range) (U i j -ℤ L i j)
    gap_within = within_more (omega arith) (within-- (r.high i j h k) (r.low i j h k))

    pub gap_fits : SFits w64 (U i j -ℤ L i j)
    gap_fits = fits_within gap_within (omega arith)

    middle-within : Within (2 * entry_range) (L i j +ℤ U i j)
    middle-within = within_more (omega arith) (within-+ (r.low i j h k) (r.high i j h k))

    pub middle_fits : SFits w64 (L i j +ℤ U i j)
    middle_fits = fits_within middle-within (omega arith)

    pub doubled_within : Within product_range (half_scale *ℤ (L i j +ℤ U i j))
    doubled_within = within_more (omega arith) (within-* (numeral_within (2 ^ 31)) middle-within)

    pub doubled_fits : SFits w64 (half_scale *ℤ (L i j +ℤ U i j))
    doubled_fits = fits_within doubled_within (omega arith)

  module _ {i : ℕ} (h : i < n) where
    -- w(i), and the sum before column m
    widths-within : (m : ℕ) → m ≤ n → Within (greatest_order * (2 * entry_range)) (row_width m L U i)
    unfolding row_width
    widths-within m l = within_more (omega arith) (within-sum m (2 * entry_range) _ (λ j k. gap_within h (omega arith)))

    pub width_fits : (m : ℕ) → m < n → SFits w64 (row_width m L U i +ℤ (U i m -ℤ L i m))
    width_fits m l = fits_within (within-+ (widths-within m (omega arith)) (gap_within h l)) (omega arith)

    scaled-width-within : Within (greatest_order * product_range) (half_scale *ℤ row_width n L U i)
    scaled-width-within = within_more (omega arith) (within-* (numeral_within (2 ^ 31)) (widths-within n (omega arith)))

    pub scaled_width_fits : SFits w64 (half_scale *ℤ row_width n L U i)
    scaled_width_fits = fits_within scaled-width-within (omega arith)

    taken-within : Within (product_range + greatest_order * product_range) (take_off n +ℤ half_scale *ℤ row_width n L U i)
    taken-within = within-+ (take_off_within n) scaled-width-within

    pub taken_fits : SFits w64 (take_off n +ℤ half_scale *ℤ row_width n L U i)
    taken_fits = fits_within taken-within (omega arith)

    module _ {j : ℕ} (k : j < n) where
      on-within : Within rest_range (half_scale *ℤ (L i j +ℤ U i j) -ℤ (take_off n +ℤ half_scale *ℤ row_width n L U i))
      on-within = within_more (omega arith) (within-- (doubled_within h k) taken-within)

      pub on_fits : SFits w64 (half_scale *ℤ (L i j +ℤ U i j) -ℤ (take_off n +ℤ half_scale *ℤ row_width n L U i))
      on_fits = fits_within on-within (omega arith)

-- ---- H can be factored
pub bounds-ranged : {n : ℕ} {L U : Matrix} → Bounds n L U → Ranged n L U
bounds-ranged b = record { low = λ i j h k. record { size = b.low_range i j h k }; high = λ i j h k. record { size = b.high_range i j h k } }

module _ {n : ℕ} {L U : Matrix} (b : Bounds n L U) (o : n ≤ greatest_order) where
  -- off the diagonal, and on it from above
  pub bounds_off : (i j : ℕ) → i < j → j < n → Within product_range (scaled n L U i j)
  bounds_off i j h k = rw (scaled_off (take_off n) n L U i j (omega arith)) (doubled_within o (bounds-ranged b) (omega arith) k)

  pub bounds_top : (j : ℕ) → j < n → scaled n L U j j ≤ℤ pos product_range
  bounds_top = scaled_top (take_off n) n L U b (take_off_suffices n o)

pub scaled_factorable : {n : ℕ} {L U : Matrix} {h : List ℤ} → Bounds n L U → n ≤ greatest_order → Scaled n L U h n → Factorable h n 0
scaled_factorable {n} {L} {U} b o w =
    record {
      size = w.size;
      order = o;
      off = λ i j p q k. rw (w.entries i j (omega arith) k) (within_more (omega arith) (bounds_off b o i j q k));
      on = λ j p k. rw (w.entries j j (omega arith) k, scaled_on (take_off n) n L U j) (on-within o (bounds-ranged b) k k);
      top = λ j p k. rw (w.entries j j (omega arith) k) (bounds_top b o j k);
    }

-- tables that passed the checks can be scaled
pub checked_lent : {n : ℕ} {l u : List ℤ} → CheckedTables n l u → Lent n l u
checked_lent p = record { order = p.order; low-length = p.low-length; high-length = p.high-length; ranged = bounds-ranged p.bounds }

-- ---- the walk of the code: before row i of column j
pub record Filling (n : ℕ) (L U : Matrix) (h : List ℤ) (j i : ℕ) : Type 0 where
  pub before : Scaled n L U h j
  pub here : (k : ℕ) → k < i → upper h k j ≡ scaled n L U k j

module _ {n : ℕ} {L U : Matrix} {h : List ℤ} {j : ℕ} where
  pub filling_row : {i : ℕ} {v : ℤ} → i ≤ j → j < greatest_order → v ≡ scaled n L U i j → Filling n L U h j i → Filling n L U (set h (stride * j + i) v) j (suc i)
  filling_row {i} {v} l m e f =
      record {
        before = record {
          size = length-set h (stride * j + i) v ∙ f.before.size;
          entries = λ k c p q. upper_other h i j v k c (omega arith) ∙ f.before.entries k c p q;
        };
        here = λ k p.
            by_cases (ℕ_discrete k i) (λ q. rw (q, upper-same h i j v (omega (arith, f.before.size))) e)
            (λ q. upper_other h i j v k j (omega arith) ∙ f.here k (omega arith));
      }

  pub filling_end : Filling n L U h j (suc j) → Scaled n L U h (suc j)
  filling_end f = record {
    size = f.before.size;
    entries = λ k c p q. by_cases (ℕ_discrete c j) (λ m. rw m (f.here k (omega arith))) (λ m. f.before.entries k c p (omega arith));
  }
