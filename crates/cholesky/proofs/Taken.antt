-- The column step: what its loop keeps, and what it leaves.
use mathlib.Core.Path.{◌≡◌, refl, sym, ap, ap₂, ◌∙◌}
use mathlib.Core.Bool.{Bool, true, false}
use mathlib.Core.Logic.{by_cases}
use mathlib.Core.List.{List, [], ◌∷◌}
use Prim.Native.Nat.{ℕ, suc, ◌+◌, ◌*◌, ◌≤◌, ◌<◌}
use native.Mathlib.Omega.{arith}
use native.Mathlib.Numerals.{add-one}
use native.Mathlib.Decide.{ℕ_discrete}
use lib.IntN.{ℤ, pos, ◌-ℤ◌, ◌*ℤ◌}
use lib.Signed.{◌≤ℤ◌, le_z}
use lib.ListN.{length, set, length-set}
use Rattle.integers.specs.Numbers.{Within}
use Rattle.integers.specs.Division.{floor_div}
use Rattle.integers.specs.Root.{whole_root}
use Rattle.integers.proofs.Parts.{≤ℤ_trans, square_nonneg}
use Rattle.integers.proofs.Solver.{order, solver}
use Rattle.integers.proofs.Machine.{within_more, within--, within-*, within_in, within-high}
use Rattle.tables.specs.Ranges.{greatest_order, table_room, factor_range}
use Rattle.tables.specs.Matrix.{Matrix}
use Rattle.tables.proofs.Checks.{of_true}
use Rattle.cholesky.specs.Factoring.{Column, goes_on, next_column}
use Rattle.cholesky.specs.Store.{upper, column_of, columns_of, stride}
use Rattle.cholesky.specs.Rows.{product_range, Rowed, ColumnTaken}
use Rattle.cholesky.specs.Columns.{ColumnReady, left_by, IsNext, ColumnGoes, RowsTaken, step_of, ColumnWorked, Done, Stops}
use Rattle.cholesky.proofs.Loops.{passes}
use Rattle.cholesky.proofs.Store.{length-column_of, columns_of_ext, upper-same, upper_other}
use Rattle.cholesky.proofs.Unrolled.{left_by-none, left_by_suc, left_by_ext, goes_less, goes_some, goes_ext, unrolled_none, unrolled_stop, unrolled_done}

-- before row i
pub record RowsTaking (s : List ℤ) (j i : ℕ) (s' : List ℤ) : Type 0 where
  pub size : length s' ≡ table_room
  pub above : ColumnGoes (upper s) (upper s') j i
  pub left : (a : ℕ) → i ≤ a → a ≤ j → upper s' a j ≡ left_by (upper s) (upper s') i a j
  pub kept : (k l : ℕ) → k < greatest_order → (l ≡ j → ⊥) → upper s' k l ≡ upper s k l
  pub off : (a : ℕ) → i ≤ a → a < j → Within (suc i * product_range) (upper s' a j)
  pub on : Within product_range (upper s' j j)

module _ {s : List ℤ} {j : ℕ} (z : ColumnReady s j) where
  abbrev H : Matrix
  H = upper s

  pub taking-start : pos 1 ≤ℤ H j j → RowsTaking s j 0 s
  taking-start one =
      record {
        size = z.size;
        above = record { top = one; entries = λ k h. absurd (omega arith); tests = λ k h. absurd (omega arith) };
        left = λ a h k. sym (left_by-none H H a j);
        kept = λ k l h f. refl;
        off = λ a h k. within_more (omega arith) (z.off a k);
        on = within_in (order (H j j ∷ []) one (search solver depth 40 fits 20000) (omega arith)) z.top;
      }

  module _ {i : ℕ} (p : i < j) {s' : List ℤ} (w : RowsTaking s j i s') where
    pub taking_rowed : Rowed s' i j j
    taking_rowed =
        let inside = z.inside in
        record {
          size = w.size;
          inside = z.inside;
          before = p;
          row = λ k u v. rw (w.kept i k (omega arith) (omega arith)) ((z.columns k v).small i (omega arith));
          heights = λ k u v.
              by_cases (ℕ_discrete k j) (λ e. rw e (within_more (omega arith) w.on))
              (λ e. within_more (omega arith) (w.off k (omega arith) (omega arith)));
        }

    pub taking_divisor : pos 1 ≤ℤ upper s' i i
    taking_divisor = let inside = z.inside in rw (w.kept i i (omega arith) (omega arith)) (z.diagonal i p)

    module _ {answer : Bool} {s'' : List ℤ} (c : ColumnTaken s' i j (floor_div (upper s' i j) (upper s' i i)) answer s'') where
      -- the rows before it, and the other columns, are as they were
      other : (k l : ℕ) → k < greatest_order → (l ≡ j → ⊥) → upper s'' k l ≡ upper s' k l
      other k l h f = c.kept k l h (λ e g. f e)

      before : (k l : ℕ) → k < i → upper s'' k l ≡ upper s' k l
      before k l h = let inside = z.inside in c.kept k l (omega arith) (λ e g. absurd (omega arith))

      left-kept : (m a : ℕ) → m ≤ i → left_by H (upper s'') m a j ≡ left_by H (upper s') m a j
      left-kept m a h = left_by_ext H (upper s'') (upper s') m a j (λ k o. before k a (omega arith)) (λ k o. before k j (omega arith))

      above_kept : ColumnGoes H (upper s'') j i
      above_kept = goes_ext before w.above

      -- its entry
      next-is : IsNext H (upper s'') i j
      next-is =
          let inside = z.inside in
          c.stored
          ∙ sym (ap₂ floor_div (left-kept i i (omega arith) ∙ sym (w.left i (omega arith) (omega arith))) (other i i (omega arith) (omega arith)))

      left_is : (a : ℕ) → i < a → a ≤ j → left_by H (upper s'') (suc i) a j ≡ upper s' a j -ℤ upper s'' i a *ℤ floor_div (upper s' i j) (upper s' i i)
      left_is a h k =
          left_by_suc H (upper s'') i a j
          ∙ ap₂ (λ (x y : ℤ). x -ℤ upper s'' i a *ℤ y) (left-kept i a (omega arith) ∙ sym (w.left a (omega arith) k)) c.stored

      -- its test
      test-is : answer ≡ goes_on (upper s'' i j) (left_by H (upper s'') (suc i) j j)
      test-is = rw (left_is j p (omega arith), c.stored) c.answered

      pub taking_stops : answer ≡ false → RowsTaken s j i s''
      taking_stops f =
          record {
            bound = omega arith;
            size = c.size;
            above = above_kept;
            stop = λ h. (next-is, sym test-is ∙ f);
            rest = λ h. absurd (omega arith);
            kept = λ k l h g. other k l h g ∙ w.kept k l h g;
          }

      module _ (goes : answer ≡ true) where
        left-now : (a : ℕ) → i < a → a ≤ j → upper s'' a j ≡ left_by H (upper s'') (suc i) a j
        left-now a h k = c.taken goes a h k ∙ sym (left_is a h k)

        above-now : ColumnGoes H (upper s'') j (suc i)
        above-now =
            record {
              top = w.above.top;
              entries = λ k h. by_cases (ℕ_discrete k i) (λ e. rw e next-is) (λ e. above_kept.entries k (omega arith));
              tests = λ k h. by_cases (ℕ_discrete k i) (λ e. rw e (sym test-is ∙ goes)) (λ e. above_kept.tests k (omega arith));
            }

        -- the entry is a factor's
        small : Within factor_range (floor_div (upper s' i j) (upper s' i i))
        small = rw (← c.stored) (record { size = (passes _ _ (of_true (sym test-is ∙ goes))).small })

        pub taking_on : RowsTaking s j (suc i) s''
        taking_on =
            let inside = z.inside in
            record {
              size = c.size;
              above = above-now;
              left = left-now;
              kept = λ k l h g. other k l h g ∙ w.kept k l h g;
              off = λ a h k.
                  rw (c.taken goes a h (omega arith), other i a (omega arith) (omega arith))
                  (within_more (omega arith) (within-- (w.off a (omega arith) k) (within-* (taking_rowed.row a h k) small)));
              on =
                  let r = floor_div (upper s' i j) (upper s' i i) in
                  let some : pos 1 ≤ℤ upper s'' j j = rw (left-now j p (omega arith)) (passes _ _ (of_true (sym test-is ∙ goes))).some in
                  within_in (order (upper s'' j j ∷ []) some (search solver depth 40 fits 20000) (omega arith))
                  (rw (c.taken goes j p (omega arith), c.stored)
                  (≤ℤ_trans (order (upper s' j j ∷ r ∷ []) (square_nonneg r) (search solver depth 40 fits 20000) (omega arith)) (within-high w.on)));
            }

-- ---- the column, as the definition makes it
module _ {c : Column} {t : List ℤ} {j : ℕ} (size : length t ≡ table_room) where
  worked_stop : (m : ℕ) → c ≡ record { done = false; column = column_of t j m } → ColumnWorked c j (Stops m) t
  unfolding step_of
  worked_stop m e =
      rw e (record { answer = ap Stops (sym (length-column_of t j m)); size = size; column = ap (column_of t j) (length-column_of t j m) })

  worked-done : (m : ℕ) → c ≡ record { done = true; column = column_of t j m } → ColumnWorked c j Done t
  unfolding step_of
  worked-done m e = rw e (record { answer = refl; size = size; column = ap (column_of t j) (length-column_of t j m) })

module _ {s : List ℤ} {j : ℕ} (z : ColumnReady s j) where
  abbrev c : Column
  c = next_column (upper s) (columns_of s j)

  pub worked-none : le_z (pos 1) (upper s j j) ≡ false → ColumnWorked c j (Stops 0) s
  worked-none e = worked_stop z.size 0 (unrolled_none (upper s) s j e)

  -- the columns before it are as they were
  same-columns : (t : List ℤ) → ((k l : ℕ) → k < greatest_order → (l ≡ j → ⊥) → upper t k l ≡ upper s k l) → columns_of t j ≡ columns_of s j
  same-columns t f = let inside = z.inside in columns_of_ext t s j (λ k l h m. f k l (omega arith) (omega arith))

  module _ {r : ℕ} {s' : List ℤ} (w : RowsTaken s j r s') where
    pub worked_stops : r < j → ColumnWorked c j (Stops (r + 1)) s'
    worked_stops h =
        worked_stop w.size (r + 1)
        (rw (add-one, ← same-columns s' w.kept) (unrolled_stop (upper s) s' j r h w.above (w.stop h).0 (w.stop h).1))

    module _ (h : j ≤ r) where
      goes : ColumnGoes (upper s) (upper s') j j
      goes = goes_less h w.above

      -- at least 1 is left for the root
      pub worked_some : pos 1 ≤ℤ upper s' j j
      worked_some = rw (w.rest h) (goes_some j goes)

      module _ {v : ℤ} (e : v ≡ whole_root (upper s' j j)) where
        abbrev t : List ℤ
        t = set s' (stride * j + j) v

        above : (k l : ℕ) → k < j → upper t k l ≡ upper s' k l
        above k l m = let inside = z.inside in upper_other s' j j v k l (omega arith)

        others : (k l : ℕ) → k < greatest_order → (l ≡ j → ⊥) → upper t k l ≡ upper s k l
        others k l m f = let inside = z.inside in upper_other s' j j v k l (λ q. f (omega arith)) ∙ w.kept k l m f

        rest : upper s' j j ≡ left_by (upper s) (upper t) j j j
        rest = w.rest h ∙ sym (left_by_ext (upper s) (upper t) (upper s') j j j (λ k m. above k j m) (λ k m. above k j m))

        pub worked_rooted : ColumnWorked c j Done t
        worked_rooted =
            let inside = z.inside in
            worked-done (length-set s' (stride * j + j) v ∙ w.size) (suc j)
            (rw (← same-columns t others)
            (unrolled_done (upper s) t j (goes_ext above goes) (upper-same s' j j v (omega (arith, w.size)) ∙ e ∙ ap whole_root rest)))
