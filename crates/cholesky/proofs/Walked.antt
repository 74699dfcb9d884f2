-- Row after row: what stands in the table, and where a column stopped.
use mathlib.Core.Path.{◌≡◌, refl, sym, ap, ◌∙◌, subst}
use mathlib.Core.Bool.{true, false}
use mathlib.Core.Logic.{by_cases}
use mathlib.Core.List.{List}
use Prim.Native.Nat.{ℕ, zero, suc, ◌≤◌, ◌<◌}
use native.Mathlib.Omega.{arith}
use native.Mathlib.Decide.{ℕ_discrete}
use lib.Dec.{T}
use lib.IntN.{ℤ, pos}
use lib.Signed.{◌≤ℤ◌, le_z}
use Rattle.integers.specs.Root.{whole_root}
use Rattle.tables.specs.Matrix.{Matrix}
use Rattle.tables.proofs.Checks.{of_true, true_of}
use Rattle.cholesky.specs.Factoring.{goes_on}
use Rattle.cholesky.specs.Store.{upper}
use Rattle.cholesky.specs.Reduced.{row_entry, reduced}
use Rattle.cholesky.specs.Rows.{Factorable, RowDone, ColumnsTaken, RowTaken, FirstBelowOne}
use Rattle.cholesky.proofs.Loops.{passes, goes_on_lem}
use Rattle.cholesky.proofs.Reduced.{left_of, Agree, RowPasses, entry_ext, reduced_ext}
use Rattle.cholesky.proofs.Rows.{left_factorable, factorable_less}

-- the rows before i pass in the columns before e, and what is left of H after them stands in the table
pub record Walked (H : Matrix) (t : List ℤ) (i e : ℕ) : Type 0 where
  pub left : Factorable t e i
  pub agree : Agree e i (upper t) (left_of H i)
  pub passed : (k : ℕ) → k < i → RowPasses (left_of H k) k e

-- a row more, in fewer columns where one stopped
module _ {H : Matrix} {t : List ℤ} {i e : ℕ} (w : Walked H t i e) (h : i < e) where
  -- its test in column j, on what is left of H
  test_is : (j : ℕ) → i < j → j < e → goes_on (row_entry (upper t) i j) (reduced (upper t) i j j) ≡ goes_on (row_entry (left_of H i) i j) (reduced (left_of H i) i j j)
  test_is j p q = rw (entry_ext e w.agree j (omega arith) q, (reduced_ext e w.agree).entries j j p (omega arith) q) refl

  pub walked_row : {t' : List ℤ} {r : ℕ} → pos 1 ≤ℤ upper t i i → r ≤ e → RowDone t i r t' → Walked H t' (suc i) r
  unfolding left_of
  walked_row {t'} {r} one o x =
      record {
        left = left_factorable w.left o x;
        agree = record { entries = λ a b p q l. x.left a b p q l ∙ (reduced_ext e w.agree).entries a b p q (omega arith) };
        passed = λ k q.
            by_cases (ℕ_discrete k i)
            (λ u. rw u (record {
              first = rw (← w.agree.entries i i (omega arith) (omega arith) h) one;
              later = λ j p l. passes _ _ (of_true (sym (test_is j p (omega arith)) ∙ x.tests j p l));
            }))
            (λ u. let f = w.passed k (omega arith) in record { first = f.first; later = λ j p l. f.later j p (omega arith) });
      }

  -- a row that a column stops does not pass
  pub walked_stop : {t' : List ℤ} {r : ℕ} → ColumnsTaken t i e r t' → r < e → RowPasses (left_of H i) i e → ⊥
  walked_stop {r = r} x o p =
      subst T (sym (true_of _ (goes_on_lem _ _ (p.later r x.past o))) ∙ sym (test_is r x.past o) ∙ (x.stop o).1) tt

-- ---- factoring
-- the rows before i are the factor's, and each column before e goes on
pub record Rows (H : Matrix) (t : List ℤ) (i e : ℕ) : Type 0 where
  pub walked : Walked H t i e
  pub top : (l : ℕ) → l < e → pos 1 ≤ℤ H l l
  pub off : (k l : ℕ) → k < i → k < l → l < e → upper t k l ≡ row_entry (left_of H k) k l
  pub on : (k : ℕ) → k < i → k < e → upper t k k ≡ whole_root (left_of H k k k)

-- column e stopped after m rows
pub record Stop (H : Matrix) (t : List ℤ) (e m : ℕ) : Type 0 where
  pub rows : m ≤ e
  pub here : (k : ℕ) → k < m → upper t k e ≡ row_entry (left_of H k) k e
  pub tests : (k : ℕ) → suc k < m → goes_on (row_entry (left_of H k) k e) (left_of H (suc k) e e) ≡ true
  pub top : 0 < m → pos 1 ≤ℤ H e e
  pub none : m ≡ 0 → le_z (pos 1) (H e e) ≡ false
  pub last : (k : ℕ) → m ≡ suc k → goes_on (row_entry (left_of H k) k e) (left_of H (suc k) e e) ≡ false

module _ {t : List ℤ} {n r : ℕ} (z : Factorable t n 0) (s : FirstBelowOne t n r) where
  pub rows_start : Rows (upper t) t 0 r
  unfolding left_of
  rows_start =
      record {
        walked = record { left = factorable_less s.bound z; agree = record { entries = λ a b p q l. refl }; passed = λ k p. absurd (omega arith) };
        top = s.some;
        off = λ k l p q o. absurd (omega arith);
        on = λ k p q. absurd (omega arith);
      }

  pub stop_start : r < n → Stop (upper t) t r 0
  stop_start h =
      record {
        rows = omega arith;
        here = λ k p. absurd (omega arith);
        tests = λ k p. absurd (omega arith);
        top = λ p. absurd (omega arith);
        none = λ p. s.none h;
        last = λ k p. absurd (omega arith);
      }

module _ {H : Matrix} {t : List ℤ} {i e : ℕ} (s : Rows H t i e) (h : i < e) where
  -- some is left of the next diagonal entry
  pub rows_some : pos 1 ≤ℤ upper t i i
  unfolding left_of
  rows_some = rw (s.walked.agree.entries i i (omega arith) (omega arith) h) (go i h s.walked.passed)
    where
      go : (i : ℕ) → i < e → ((k : ℕ) → k < i → RowPasses (left_of H k) k e) → pos 1 ≤ℤ left_of H i i i
      go zero p f = s.top 0 p
      go (suc i) p f = ((f i (omega arith)).later (suc i) (omega arith) p).some

  module _ {t' : List ℤ} {r : ℕ} (y : RowTaken t i e r t') where
    abbrev x : ColumnsTaken t i e r t'
    x = y.columns

    row_is : (l : ℕ) → i ≤ l → l < e → row_entry (upper t) i l ≡ row_entry (left_of H i) i l
    row_is l p q = entry_ext e s.walked.agree l p q

    pub rows_more : Rows H t' (suc i) r
    rows_more =
        let bound = x.bound in
        record {
          walked = walked_row s.walked h rows_some x.bound x.done;
          top = λ l p. s.top l (omega arith);
          off = λ k l p q o.
              by_cases (ℕ_discrete k i) (λ u. rw u (x.done.row l (omega arith) o ∙ row_is l (omega arith) (omega (arith, x.bound))))
              (λ u. x.done.above k l (omega arith) ∙ s.off k l (omega arith) q (omega (arith, x.bound)));
          on = λ k p q.
              by_cases (ℕ_discrete k i) (λ u. rw u (y.root ∙ ap whole_root (s.walked.agree.entries i i (omega arith) (omega arith) h)))
              (λ u. x.done.above k k (omega arith) ∙ s.on k (omega arith) (omega arith));
        }

    -- column r stopped
    pub stop_now : r < e → Stop H t' r (suc i)
    unfolding left_of
    stop_now o =
        let past = x.past in
        record {
          rows = x.past;
          here = λ k p.
              by_cases (ℕ_discrete k i) (λ u. rw u ((x.stop o).0 ∙ row_is r (omega (arith, x.past)) o))
              (λ u. x.done.above k r (omega arith) ∙ s.off k r (omega arith) (omega (arith, x.past)) o);
          tests = λ k p. true_of _ (goes_on_lem _ _ ((s.walked.passed k (omega arith)).later r (omega arith) o));
          top = λ p. s.top r o;
          none = λ p. absurd (omega arith);
          last = λ k p. let q : k ≡ i = omega arith in rw q (sym (test_is s.walked h r x.past o) ∙ (x.stop o).1);
        }

    -- a stop seen before stays
    pub stop_kept : {j m : ℕ} → m ≤ i → Stop H t j m → Stop H t' j m
    stop_kept {j} o f =
        record {
          rows = f.rows;
          here = λ k p. x.done.above k j (omega arith) ∙ f.here k p;
          tests = f.tests;
          top = f.top;
          none = f.none;
          last = f.last;
        }
