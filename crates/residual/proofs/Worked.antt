-- The residual as it stands in the scratch tables after it is worked out.
use mathlib.Core.Path.{◌≡◌, ◌∙◌}
use mathlib.Core.List.{List, ◌++◌}
use Prim.Native.Nat.{ℕ, ◌*◌, ◌/◌, ◌%◌, ◌≤◌, ◌<◌}
use native.Mathlib.Omega.{arith}
use lib.IntN.{ℤ}
use lib.ListN.{length, take, drop}
use Rattle.tables.specs.Ranges.{table_room}
use Rattle.tables.specs.Matrix.{Matrix, at, table}
use Rattle.tables.proofs.Matrix.{table_fits, tabulate_ext, nth-at, row_inside, column_inside}
use Rattle.tables.proofs.Buffers.{copied-whole}
use Rattle.residual.specs.Residual.{residual, least_over, over}
use Rattle.residual.specs.Scratch.{Offer, Residue, turned}
use Rattle.residual.proofs.Sizes.{residual-ranged}
use Rattle.residual.proofs.Turned.{columns-turned, turned-whole}
use Rattle.residual.proofs.Rows.{least-over_ext}

-- a table of order n that is copied into a buffer of its size
copied-table : {n : ℕ} (M : Matrix) (t o : List ℤ) → n * n ≤ length t → length o ≡ n * n →
    ((i j : ℕ) → i < n → j < n → at n t i j ≡ M i j) →
    take (n * n) t ++ drop (n * n) o ≡ table n M
unfolding table
copied-table {n} M t o h e f =
    copied-whole t o h e ∙ tabulate_ext (n * n) _ _ (λ k l. nth-at n k t ∙ f (k / n) (k % n) (row_inside n k l) (column_inside n k l))

module _ {n : ℕ} {l u f : List ℤ} (s : Offer n l u f) where
  abbrev R : Matrix
  R = at n f

  abbrev low : List ℤ
  low = turned n R l n

  abbrev high : List ℤ
  high = turned n R u n

  pub low-size : length low ≡ table_room
  low-size = (columns-turned n R l s.tables.low-length n (omega arith)).kept.size ∙ s.rooms.low-size

  pub high-size : length high ≡ table_room
  high-size = (columns-turned n R u s.tables.high-length n (omega arith)).kept.size ∙ s.rooms.high-size

  low-whole : (i j : ℕ) → i < n → j < n → at n low i j ≡ residual n R (at n l) i j
  low-whole = turned-whole n R l s.tables.low-length s.factor.shape s.tables.bounds.low_symmetric

  high-whole : (i j : ℕ) → i < n → j < n → at n high i j ≡ residual n R (at n u) i j
  high-whole = turned-whole n R u s.tables.high-length s.factor.shape s.tables.bounds.high_symmetric

  -- what the row test asks of its tables
  pub residue : Residue n low high
  residue =
      let r = residual-ranged n R s.factor.order s.factor.shape (at n l) (at n u) s.tables.bounds in
      record {
        rooms = record { low-size = low-size; high-size = high-size };
        ranged = record {
          order = s.factor.order;
          low = λ i j h k. rw (low-whole i j h k) (r.low i j h k);
          high = λ i j h k. rw (high-whole i j h k) (r.high i j h k);
          ordered = λ i j h k. rw (low-whole i j h k, high-whole i j h k) (r.ordered i j h k);
        };
      }

  -- what their rows have over is what those of the factor's residual have
  pub least-over : least_over n (at n low) (at n high) ≡ over n R (at n l) (at n u)
  unfolding over
  least-over = least-over_ext n _ _ _ _ low-whole high-whole

  -- what is copied from them is the residual's tables
  pub low-table : (o : List ℤ) → length o ≡ n * n → take (n * n) low ++ drop (n * n) o ≡ table n (residual n R (at n l))
  low-table o e = copied-table _ low o (omega (arith, table_fits s.factor.order, low-size)) e low-whole

  pub high-table : (o : List ℤ) → length o ≡ n * n → take (n * n) high ++ drop (n * n) o ≡ table n (residual n R (at n u))
  high-table o e = copied-table _ high o (omega (arith, table_fits s.factor.order, high-size)) e high-whole
