-- Both tables scaled, by a scale that is read from its array.
use mathlib.Core.Path.{◌≡◌, sym, ap, ap₂, ◌∙◌}
use mathlib.Core.Bool.{Bool, true, false, false≢true}
use mathlib.Core.List.{List}
use Prim.Native.Nat.{ℕ, ◌+◌, ◌*◌, ◌^◌, ◌<◌}
use native.Mathlib.Omega.{arith}
use lib.IntN.{ℤ, pos, ◌*ℤ◌}
use lib.ListN.{length}
use Rattle.tables.specs.Ranges.{table_room, entry_range}
use Rattle.tables.specs.Matrix.{Matrix, at}
use Rattle.tables.specs.Checks.{within}
use Rattle.tables.specs.Bounds.{Bounds, CheckedTables}
use Rattle.tables.proofs.Checks.{and_first_false, all_ext}
use Rattle.tables.proofs.Matrix.{inside, table_fits}
use Rattle.scaling.specs.Scaling.{exponents, rescaled, scaled_low, scaled_high, entries_within, scaled_within}
use Rattle.scaling.specs.Scratch.{scale_in, Scale, Rescaling, ScaledTables}
use Rattle.scaling.proofs.Scales.{scale-read}
use Rattle.scaling.proofs.Scaled.{rescaled-bounds}

-- ---- a scale rests on its first n numbers
module _ {n : ℕ} {k m : ℕ → ℕ} (e : (i : ℕ) → i < n → k i ≡ m i) (M : Matrix) where
  rescaled_ext : (i j : ℕ) → i < n → j < n → rescaled k M i j ≡ rescaled m M i j
  unfolding rescaled
  rescaled_ext i j h l = ap₂ (λ (a b : ℕ). pos (2 ^ (a + b)) *ℤ M i j) (e i h) (e j l)

  entries_ext : entries_within n (rescaled k M) ≡ entries_within n (rescaled m M)
  unfolding entries_within
  entries_ext = all_ext n _ _ (λ i h. all_ext n _ _ (λ j l. ap (within entry_range) (rescaled_ext i j h l)))

-- bounds rest on the entries of order n
bounds_ext : {n : ℕ} {A B L U : Matrix} → ((i j : ℕ) → i < n → j < n → A i j ≡ L i j) → ((i j : ℕ) → i < n → j < n → B i j ≡ U i j) →
    Bounds n L U → Bounds n A B
bounds_ext e f b = record {
  low_range = λ i j h l. rw (e i j h l) (b.low_range i j h l);
  high_range = λ i j h l. rw (f i j h l) (b.high_range i j h l);
  ordered = λ i j h l. rw (e i j h l, f i j h l) (b.ordered i j h l);
  low_symmetric = λ i j h l. e i j h l ∙ b.low_symmetric i j h l ∙ sym (e j i l h);
  high_symmetric = λ i j h l. f i j h l ∙ b.high_symmetric i j h l ∙ sym (f j i l h);
}

-- ---- bounds l₀ and u₀, the scale in x, and what is left of the tables
module _ {n : ℕ} {l₀ u₀ : List ℤ} (c : CheckedTables n l₀ u₀) {x : List ℤ} (s : Scale (exponents (at n u₀)) n x) {l : List ℤ} {p : Bool}
    (a : Rescaling n (scale_in x) (at n l₀) 0 (n * n) (entries_within n (rescaled (scale_in x) (at n l₀))) p l) where
  abbrev L : Matrix
  L = at n l₀

  abbrev U : Matrix
  U = at n u₀

  low-stays : p ≡ entries_within n (scaled_low L U)
  low-stays = a.answered ∙ entries_ext (scale-read s) L

  -- the low table does not stay inside
  pub low_leaves : p ≡ false → length u₀ ≡ table_room → ScaledTables n L U false l u₀ x
  unfolding scaled_within
  low_leaves e z = record {
    answered = sym (and_first_false _ (sym low-stays ∙ e));
    scale = s;
    rooms = record { low-size = a.size; high-size = z };
    tables = λ q. absurd (false≢true q);
    low = λ q. absurd (false≢true q);
    high = λ q. absurd (false≢true q);
  }

  -- it stays, and so the answer is the high table's
  pub both_scaled : p ≡ true → {u : List ℤ} {r : Bool} →
      Rescaling n (scale_in x) U 0 (n * n) (entries_within n (rescaled (scale_in x) U)) r u → ScaledTables n L U r l u x
  unfolding scaled_within
  both_scaled e {u} {r} b =
      let low-true = sym low-stays ∙ e in
      let low_same : (i j : ℕ) → i < n → j < n → at n l i j ≡ scaled_low L U i j =
      λ i j h m. (a.part e).scaled i j m (omega arith) (inside h m) ∙ rescaled_ext (scale-read s) L i j h m in
      let high_same : r ≡ true → (i j : ℕ) → i < n → j < n → at n u i j ≡ scaled_high U i j =
      λ q i j h m. (b.part q).scaled i j m (omega arith) (inside h m) ∙ rescaled_ext (scale-read s) U i j h m in
      let answer : r ≡ entries_within n (scaled_high U) = b.answered ∙ entries_ext (scale-read s) U in
      record {
        answered = answer ∙ rw low-true;
        scale = s;
        rooms = record { low-size = a.size; high-size = b.size };
        tables = λ q. record {
          order = c.order;
          low-length = omega (arith, a.size, table_fits c.order);
          high-length = omega (arith, b.size, table_fits c.order);
          bounds = bounds_ext low_same (high_same q) (rescaled-bounds n (exponents U) c.bounds low-true (sym answer ∙ q));
        };
        low = λ q. low_same;
        high = high_same;
      }
