-- A row that was taken, and those after it: whether factoring ends.
use mathlib.Core.Path.{◌≡◌, refl, sym, ◌∙◌, subst}
use mathlib.Core.Bool.{true, false, ◌&&◌, and-true}
use mathlib.Core.List.{List}
use Prim.Native.Nat.{ℕ, suc, ◌-◌, ◌≤◌, ◌<◌}
use native.Mathlib.Omega.{arith}
use Rattle.std.specs.Prelude.{Option, Some, None, IfSome, is_some, unwrap_or}
use lib.Dec.{T}
use lib.IntN.{ℤ, pos}
use lib.Signed.{◌≤ℤ◌, le_z}
use Rattle.integers.proofs.Parts.{le_z_true}
use Rattle.tables.specs.Matrix.{Matrix}
use Rattle.tables.proofs.Checks.{of_true, false_of, true_of, and_first_false}
use Rattle.cholesky.specs.Store.{upper}
use Rattle.cholesky.specs.Reduced.{reduced, row_from, ends_from}
use Rattle.cholesky.specs.Rows.{RowDone, ColumnsTaken}
use Rattle.cholesky.proofs.Loops.{passes, goes_on_lem}
use Rattle.cholesky.proofs.Reduced.{row-passes, row_of, ends_ext}

module _ {s s' : List ℤ} {n i r : ℕ} (t : ColumnsTaken s i n r s') where
  pub row_done : n ≤ r → RowDone s i n s'
  row_done k = let e : r ≡ n = omega (arith, t.bound) in rw e at t.done

  -- at least 1 is left of the next diagonal entry
  pub row_next : n ≤ r → suc i < n → pos 1 ≤ℤ upper s' (suc i) (suc i)
  row_next k h =
      let w = row_done k in
      rw (w.left (suc i) (suc i) (omega arith) (omega arith) h) (passes _ _ (of_true (w.tests (suc i) (omega arith) h))).some

  module _ (h : i < n) (one : pos 1 ≤ℤ upper s i i) where
    from_is : ends_from (n - i) (upper s) i ≡ (row_from (upper s) i (suc i) (n - suc i) && ends_from (n - suc i) (reduced (upper s) i) (suc i))
    unfolding ends_from
    from_is = let e : n - i ≡ suc (n - suc i) = omega arith in rw (e, le_z_true one) refl

    pub ends-row : n ≤ r → ends_from (n - i) (upper s) i ≡ ends_from (n - suc i) (upper s') (suc i)
    ends-row k =
        let w = row_done k in
        from_is
        ∙ rw (row_of (upper s) i (n - suc i) (suc i) (λ l p q. passes _ _ (of_true (w.tests l p (omega arith)))))
        (sym (ends_ext n (n - suc i) (suc i) (omega arith) (record { entries = w.left })))

    pub ends_stop : r < n → ends_from (n - i) (upper s) i ≡ false
    ends_stop k =
        from_is
        ∙ and_first_false _ (false_of _ (λ e.
        subst T (sym (true_of _ (goes_on_lem _ _ (row-passes (upper s) i (n - suc i) (suc i) r e t.past (omega arith)))) ∙ (t.stop k).1) tt))

-- the last row
pub ends_last : (S : Matrix) (i : ℕ) → ends_from 1 S i ≡ le_z (pos 1) (S i i)
unfolding ends_from row_from
ends_last S i = and-true (le_z (pos 1) (S i i))

-- ---- what a row or a column answers
-- where it is some, it is before the end
pub some_before : (a : Option ℕ) {e : ℕ} → IfSome a (λ c. c < e) → is_some a ≡ true → unwrap_or a e < e
some_before (Some c) h t = h
some_before None h t = cc t

-- where it is none, it is the end
pub none_end : (a : Option ℕ) (e : ℕ) → is_some a ≡ false → unwrap_or a e ≡ e
none_end (Some c) e f = cc f
none_end None e f = refl
