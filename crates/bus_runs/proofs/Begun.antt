-- R28.5 and R28.8 of docs/RULES.md: what a start leaves in the run area: order and mended tables, and H in the columns.
use mathlib.Core.Path.{◌≡◌, refl, sym, ap, ◌∙◌}
use mathlib.Core.Logic.{by_cases}
use mathlib.Core.List.{List, [], ◌∷◌, ◌++◌, append_assoc}
use Prim.Native.Nat.{ℕ, zero, suc, ◌*◌, ◌-◌, ◌≤◌, ◌<◌}
use native.Mathlib.Omega.{arith}
use native.Mathlib.Decide.{ℕ_discrete}
use lib.IntN.{ℤ, pos}
use lib.ListN.{length, set, length-replicate, get_or-replicate}
use mir.Syntax.{w64}
use mir.Val.{SFits}
use Rattle.integers.proofs.Machine.{fits_within}
use Rattle.words.proofs.Laws.{AllFit}
use Rattle.tables.specs.Ranges.{greatest_order, table_room}
use Rattle.tables.specs.Matrix.{Matrix, at, tabulate}
use Rattle.tables.proofs.Matrix.{length-tabulate, nth-tabulate}
use Rattle.tables.proofs.Admission.{zeros}
use Rattle.cholesky.specs.Scale.{take_off, scaled}
use Rattle.cholesky.specs.Factoring.{factoring, columns_from}
use Rattle.cholesky.specs.Store.{stride, columns_of}
use Rattle.cholesky.specs.Scaling.{Scaled}
use Rattle.cholesky.proofs.ScaledMatrix.{scaled_on}
use Rattle.cholesky.proofs.Filling.{bounds_off, bounds-ranged, on_fits}
use Rattle.bus.specs.Area.{order_at, low_at, high_at, blank_area, laid_over, laid_columns, begun_area}
use Rattle.bus.proofs.Areas.{tabulate_fit, laid_fit}
use Rattle.bus_runs.proofs.RunArea.{Tables, tables-bounds, fits_small, fits_list, area, front, filled, filled_room, low-short, high-short}
use Rattle.bus_runs.proofs.RunArea.{laid-part, area-laid, upper-laid, upper-kept, table-laid}
use Rattle.bus_runs.proofs.Ticks.{Phase, next}

module _ (n : ℕ) (l u : List ℤ) (a : Tables n l u) where
  abbrev H : Matrix
  H = scaled n (at n l) (at n u)

  -- the first k columns of H are laid
  record Laid (k : ℕ) : Type 0 where
    table : List ℤ
    laid : laid_columns H k (area n l u 0 0 (zeros table_room)) ≡ area n l u 0 0 table
    entries : Scaled n (at n l) (at n u) table k
    fits : AllFit w64 table

  -- every entry of H fits
  scaled_fits : (i j : ℕ) → i ≤ j → j < n → SFits w64 (H i j)
  scaled_fits i j h k =
      by_cases (ℕ_discrete i j)
      (λ e. rw (e, scaled_on (take_off n) n (at n l) (at n u) j) (on_fits a.order (bounds-ranged (tables-bounds a)) k k))
      (λ d. fits_within (bounds_off (tables-bounds a) a.order i j (omega arith) k) (omega arith))

  columns-laid : (k : ℕ) → k ≤ n → Laid k
  unfolding laid_columns
  columns-laid zero h =
      record {
        table = zeros table_room;
        laid = refl;
        entries = record { size = length-replicate table_room (pos 0); entries = λ i j p q. absurd (omega arith) };
        fits =
            fits_list
            (λ i p. rw (get_or-replicate table_room i (pos 0) (pos 0) (omega (arith, length-replicate table_room (pos 0))))
            (fits_small (omega arith)));
      }
  columns-laid (suc k) h =
      let b = columns-laid k (omega arith) in
      let c = tabulate (suc k) (λ i. H i k) in
      let e : length c ≡ suc k = length-tabulate (suc k) (λ i. H i k) in
      let o = a.order in
      let s = b.entries.size in
      let inside : k < greatest_order = omega arith in
      let short : length c ≤ greatest_order = omega arith in
      record {
        table = laid_over b.table (stride * k) c;
        laid = rw b.laid (area-laid n l u a 0 0 b.table k c);
        entries = record {
          size = table-laid b.table k c s inside short;
          entries = λ i j p q.
              by_cases (ℕ_discrete j k)
              (λ f. rw f (upper-laid b.table k c s inside short i (omega arith) ∙ nth-tabulate (suc k) (λ i. H i k) i (omega arith)))
              (λ f. upper-kept b.table k c s inside short i j (omega arith) f ∙ b.entries.entries i j p (omega arith));
        };
        fits =
            laid_fit b.table (stride * k) c b.fits (tabulate_fit (suc k) (λ i. H i k) (λ i p. scaled_fits i k (omega arith) (omega arith)));
      }

  -- the area before them
  blank_is : laid_over (laid_over (set blank_area order_at (pos n)) low_at l) high_at u ≡ area n l u 0 0 (zeros table_room)
  unfolding blank_area area front filled
  blank_is =
      let z = zeros table_room in
      ap (λ (r : List ℤ). laid_over r high_at u) (laid-part (pos n ∷ pos 0 ∷ pos 0 ∷ []) z (z ++ z) l low_at refl (low-short n l u a))
      ∙ laid-part (pos n ∷ pos 0 ∷ pos 0 ∷ filled l) z z u high_at (omega (arith, filled_room l (low-short n l u a))) (high-short n l u a)
      ∙ ap (λ (r : List ℤ). pos n ∷ pos 0 ∷ pos 0 ∷ r) (sym (append_assoc (filled l) (filled u) z))

  -- the area that has begun is that before the first column
  pub begun : Phase n l u 0 (begun_area n l u)
  unfolding begun_area factoring columns_of tabulate
  begun =
      let b = columns-laid n (omega arith) in
      let whole : n ≡ n - 0 = omega arith in
      next b.table
      (record {
        inside = a.some;
        size = b.entries.size;
        fits = b.fits;
        done = record { lengths = λ i h. absurd (omega arith); off = λ i j h k. absurd (omega arith); on = λ j h. absurd (omega arith) };
        left = λ k j p q h. b.entries.entries k j p h;
        so_far = ap (λ (m : ℕ). columns_from H m []) whole;
      })
      (rw blank_is b.laid)
