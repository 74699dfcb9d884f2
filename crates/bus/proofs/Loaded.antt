-- What a tick loads from a run area: numbers with zeros behind them. They read as the numbers themselves, so the columns, their tests and
-- their checks are those of the area.
use mathlib.Core.Path.{◌≡◌, refl, ap, ◌∙◌}
use mathlib.Core.Bool.{true, ◌&&◌}
use mathlib.Core.List.{List}
use Prim.Native.Nat.{ℕ, suc, ◌+◌, ◌*◌, ◌≤◌, ◌<◌}
use native.Mathlib.Numerals.{add-one}
use native.Mathlib.Omega.{arith}
use lib.IntN.{ℤ, pos}
use lib.Signed.{le_z}
use lib.ListN.{length, take, drop, length-drop}
use lib.Seq.{length-take-le}
use mir.Syntax.{w64}
use Rattle.integers.proofs.Parts.{le_z_true, ≤_in}
use Rattle.words.proofs.Laws.{length-numbers_of}
use Rattle.tables.specs.Ranges.{greatest_order, table_room, factor_range}
use Rattle.tables.specs.Matrix.{Matrix, tabulate}
use Rattle.tables.specs.Checks.{all, within, order_ok, order_of, entry_checks, table_checks}
use Rattle.tables.specs.Entering.{Over, Mended, Entered}
use Rattle.tables.specs.Checks.{Checked}
use Rattle.tables.proofs.Checks.{and_of, more-checks}
use Rattle.tables.proofs.Matrix.{table_fits}
use Rattle.tables.proofs.Admission.{Padded, padded-nth, over-padded, over_room, entry-passes, order-known, mended-after, entered-laid}
use Rattle.cholesky.specs.Factoring.{next_column}
use Rattle.cholesky.specs.Store.{stride, upper, column_of, columns_of}
use Rattle.cholesky.specs.Rows.{product_range}
use Rattle.solved.specs.Stopped.{stopped_at, stop_range}
use Rattle.bus.specs.Area.{run_numbers, columns_at, area_of, table_at, columns_to}
use Rattle.bus.specs.Running.{factor_columns, column_safe, stop_safe}
use Rattle.bus.specs.Required.{TablesLoaded}

-- ---- zeros behind the columns
module _ {x t : List ℤ} (p : Padded x t) where
  upper-padded : upper t ≡ upper x
  unfolding upper
  upper-padded = ap {B = Matrix} (λ (f : ℕ → ℤ). λ i j. f (stride * j + i)) (padded-nth p)

  factor-padded : (j : ℕ) → factor_columns t j ≡ factor_columns x j
  unfolding factor_columns
  factor-padded j = ap (λ (M : Matrix). all j (λ l. all (suc l) (λ k. within factor_range (M k l)) && le_z (pos 1) (M l l))) upper-padded

  pub safe_padded : (j : ℕ) → column_safe t j ≡ column_safe x j
  unfolding column_safe
  safe_padded j =
      rw (factor-padded j)
      (ap (λ (M : Matrix). factor_columns x j &&
      (all j (λ k. within product_range (M k j)) && le_z (M j j) (pos product_range))) upper-padded)

  pub stop_padded : (j m : ℕ) → stop_safe t j m ≡ stop_safe x j m
  unfolding stop_safe
  stop_padded j m = rw (factor-padded j) (ap (λ (M : Matrix). factor_columns x j && all m (λ k. within stop_range (M k j))) upper-padded)

  columns-padded : (j : ℕ) → columns_of t j ≡ columns_of x j
  unfolding columns_of column_of
  columns-padded j = ap (λ (M : Matrix). tabulate j (λ l. tabulate (suc l) (λ k. M k l))) upper-padded

  pub next-padded : (j : ℕ) → next_column (upper t) (columns_of t j) ≡ next_column (upper x) (columns_of x j)
  next-padded j = rw (upper-padded, columns-padded j)

  pub stopped-padded : (j m : ℕ) → stopped_at t j m ≡ stopped_at x j m
  unfolding stopped_at column_of
  stopped-padded j m = rw (columns-padded j, upper-padded)

-- ---- the columns of an area
module _ (s : List ℕ) where
  length_part : (f k : ℕ) → f + k ≤ run_numbers → length (take k (drop f (area_of s))) ≡ k
  length_part f k h =
      length-take-le k (drop f (area_of s)) (omega (arith, h, length-drop f (area_of s), length-numbers_of w64 s run_numbers))

  module _ {j : ℕ} (h : j < greatest_order) {t : List ℤ}
      (q : Over (stride * (j + 1)) (take (stride * (j + 1)) (drop columns_at (area_of s))) t) where
    pub loaded-columns : Padded (columns_to (area_of s) j) t
    unfolding columns_to
    loaded-columns = rw (← add-one j) (over-padded (length_part columns_at (stride * (j + 1)) (omega arith)) (omega arith) q)

    pub loaded_room : length t ≡ table_room
    loaded_room =
        over_room (take (stride * (j + 1)) (drop columns_at (area_of s))) (length_part columns_at (stride * (j + 1)) (omega arith))
        (omega arith) q

  pub length-table_at : {n : ℕ} (f : ℕ) → n ≤ greatest_order → f + table_room ≤ run_numbers → length (table_at n (area_of s) f) ≡ n * n
  unfolding table_at
  length-table_at {n} f small h = length_part f (n * n) (omega (arith, h, table_fits small))

-- ---- its tables of order n, after checks 3 to 5
module _ {n : ℕ} (some : 0 < n) (small : n ≤ greatest_order) where
  is_order : order_ok (pos n) ≡ true
  unfolding order_ok
  is_order =
      and_of (le_z_true {x = pos 1} {y = pos n} (≤_in (omega arith))) (le_z_true {x = pos n} {y = pos greatest_order} (≤_in (omega arith)))

  pub order_same : order_of (pos n) ≡ n
  order_same = order-known (pos n) is_order

  module _ (l u : List ℤ) {l₀ u₀ : List ℤ} (el : length l ≡ n * n) (eu : length u ≡ n * n) (ql : Over (n * n) l l₀)
      (qu : Over (n * n) u u₀) {r : Checked} {l' u' : List ℤ}
      (m : Mended (table_checks n l₀ u₀) n l₀ u₀ r l' u') where
    entered : Entered (pos n) true true l u r l' u'
    entered =
        entered-laid (pos n) true true {l = l} {u = u} {l₀ = l₀} {u₀ = u₀} (λ t. rw order_same (el, eu))
        (rw order_same (record {
          rooms = record { low-size = over_room l el (table_fits small) ql; high-size = over_room u eu (table_fits small) qu };
          low = λ t. ql;
          high = λ t. qu;
        }))
        (rw order_same (mended-after (entry_checks (pos n) true) (entry-passes (pos n) is_order refl) m))

    pub loaded-tables : TablesLoaded n l u r l' u'
    loaded-tables =
        record {
          answered =
              entered.answered
              ∙ rw order_same (more-checks (entry_checks (pos n) true) (table_checks n l u) (entry-passes (pos n) is_order refl));
          rooms = entered.rooms;
          held = λ e. rw order_same at (entered.held e);
        }
