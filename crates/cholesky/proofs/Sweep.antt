-- From the last row to the factoring: the columns as the definition makes them, one after the other.
use mathlib.Core.Path.{◌≡◌, refl, sym, ap, ap₂, ◌∙◌}
use mathlib.Core.Bool.{true, false}
use mathlib.Core.List.{List, []}
use Prim.Native.Nat.{ℕ, zero, suc, ◌-◌, ◌≤◌, ◌<◌}
use native.Mathlib.Omega.{arith}
use lib.IntN.{ℤ, pos}
use lib.Signed.{◌≤ℤ◌}
use Rattle.integers.specs.Division.{floor_div}
use Rattle.integers.specs.Root.{whole_root}
use Rattle.tables.specs.Matrix.{Matrix, tabulate}
use Rattle.tables.proofs.Checks.{true_of}
use Rattle.cholesky.specs.Factoring.{Column, goes_on, next_column, columns_from, factoring}
use Rattle.cholesky.specs.Store.{upper, column_of, columns_of, outcome_of, Stored, Ends, Stops}
use Rattle.cholesky.specs.Reduced.{row_entry}
use Rattle.cholesky.specs.Columns.{left_by, IsNext, ColumnGoes}
use Rattle.cholesky.proofs.Loops.{goes_on_lem, columns_on, columns_stop}
use Rattle.cholesky.proofs.Store.{length-column_of, length-columns_of, columns_of_suc}
use Rattle.cholesky.proofs.Reduced.{left_of, left_is}
use Rattle.cholesky.proofs.Walked.{Rows, Stop}
use Rattle.cholesky.proofs.Unrolled.{no_rows, left_by_ext, unrolled_none, unrolled_stop, unrolled_done}

no-columns : (t : List ℤ) → columns_of t 0 ≡ []
unfolding columns_of tabulate
no-columns t = refl

module _ {H : Matrix} {t : List ℤ} {e : ℕ} (s : Rows H t e e) (j : ℕ) (before : j ≤ e) where
  -- what is left by the entries in the table
  left_at : (m a : ℕ) → ((k : ℕ) → k < m → upper t k a ≡ row_entry (left_of H k) k a) → ((k : ℕ) → k < m → upper t k j ≡ row_entry (left_of H k) k j) →
      left_by H (upper t) m a j ≡ left_of H m a j
  unfolding left_by
  left_at m a p q = left_by_ext H (upper t) (λ k l. row_entry (left_of H k) k l) m a j p q ∙ left_is H m a j

  entry_at : (m : ℕ) → m < j → ((k : ℕ) → k < suc m → upper t k j ≡ row_entry (left_of H k) k j) → IsNext H (upper t) m j
  unfolding row_entry
  entry_at m o p =
      p m (omega arith)
      ∙ sym (ap₂ floor_div (left_at m m (λ k a. s.off k m (omega arith) a (omega arith)) (λ k a. p k (omega arith))) (s.on m (omega arith) (omega arith)))

  goes_at : (m : ℕ) → m ≤ j → pos 1 ≤ℤ H j j → ((k : ℕ) → k < m → upper t k j ≡ row_entry (left_of H k) k j) →
      ((k : ℕ) → k < m → goes_on (row_entry (left_of H k) k j) (left_of H (suc k) j j) ≡ true) → ColumnGoes H (upper t) j m
  goes_at m o top p q =
      record {
        top = top;
        entries = λ k a. entry_at k (omega arith) (λ l b. p l (omega arith));
        tests = λ k a. rw (left_at (suc k) j (λ l b. p l (omega arith)) (λ l b. p l (omega arith)), p k a) (q k a);
      }

  column_stop : (m : ℕ) → Stop H t j m → next_column H (columns_of t j) ≡ record { done = false; column = column_of t j m }
  column_stop zero x = unrolled_none H t j (x.none refl)
  column_stop (suc m) x =
      let o = x.rows in
      unrolled_stop H t j m (omega arith)
      (goes_at m (omega arith) (x.top (omega arith)) (λ k a. x.here k (omega arith)) (λ k a. x.tests k (omega arith)))
      (entry_at m (omega arith) x.here)
      (rw (left_at (suc m) j x.here x.here, x.here m (omega arith)) (x.last m refl))

  column_done : j < e → next_column H (columns_of t j) ≡ record { done = true; column = column_of t j (suc j) }
  unfolding left_of
  column_done o =
      let here : (k : ℕ) → k < j → upper t k j ≡ row_entry (left_of H k) k j = λ k a. s.off k j (omega arith) a o in
      unrolled_done H t j
      (goes_at j (omega arith) (s.top j o) here (λ k a. true_of _ (goes_on_lem _ _ ((s.walked.passed k (omega arith)).later j a o))))
      (s.on j o o ∙ ap whole_root (sym (left_at j j here here)))

module _ {H : Matrix} {t : List ℤ} {n e : ℕ} (s : Rows H t e e) (o : e ≤ n) where
  -- the columns before e are done
  swept : (j : ℕ) → j ≤ e → factoring n H ≡ columns_from H (n - j) (columns_of t j)
  unfolding factoring
  swept zero h = let z : n - 0 ≡ n = omega arith in rw (z, no-columns t) refl
  swept (suc j) h =
      let z : n - j ≡ suc (n - suc j) = omega arith in
      let c = column_done s j (omega arith) h in
      (rw z at (swept j (omega arith))) ∙ columns_on H (n - suc j) (columns_of t j) (ap (λ (c : Column). c.done) c) ∙ rw (c, columns_of_suc t j) refl

  pub sweep_end : n ≤ e → Stored (factoring n H) Ends t
  unfolding columns_from outcome_of
  sweep_end p =
      let z : n - e ≡ 0 = omega arith in
      let is : factoring n H ≡ record { ends = true; columns = columns_of t e; stopped = [] } = rw z at (swept e (omega arith)) in
      rw is (record { outcome = refl; columns = rw (length-columns_of t e) refl; stopped = no_rows t _ })

  pub sweep_stop : {m : ℕ} → e < n → Stop H t e m → Stored (factoring n H) (Stops e m) t
  unfolding outcome_of
  sweep_stop {m} p x =
      let z : n - e ≡ suc (n - suc e) = omega arith in
      let c = column_stop s e (omega arith) m x in
      let is : factoring n H ≡ record { ends = false; columns = columns_of t e; stopped = column_of t e m } =
      (rw z at (swept e (omega arith))) ∙ columns_stop H (n - suc e) (columns_of t e) (ap (λ (c : Column). c.done) c) ∙ rw c refl in
      rw is (record {
        outcome = ap₂ Stops (sym (length-columns_of t e)) (sym (length-column_of t e m));
        columns = rw (length-columns_of t e) refl;
        stopped = rw (length-columns_of t e, length-column_of t e m) refl;
      })
