-- What the tests of a tick give, and what a tick does by them.
use mathlib.Core.Path.{◌≡◌, refl, sym, ap, ◌∙◌}
use mathlib.Core.Bool.{Bool, true, false, false≢true, cond, ◌&&◌}
use mathlib.Core.List.{List, [], ◌∷◌, ◌++◌}
use Prim.Native.Nat.{ℕ, zero, suc, ◌+◌, ◌*◌, ◌-◌, ◌≤◌, ◌<◌}
use native.Mathlib.Omega.{arith}
use native.Mathlib.Numerals.{add-one}
use borrow.Author.Tests.{eqb-true, eq-eqb, le-ltb}
use lib.Dec.{eqb}
use lib.IntN.{ℤ, pos, negsuc, nat_abs, ◌-ℤ◌}
use lib.Signed.{◌≤ℤ◌, ◌<ℤ◌, le_z}
use lib.ListN.{length, take, drop, set}
use Rattle.integers.proofs.Parts.{le_z_true, ≤_in, ≤_out, <_out}
use Rattle.tables.specs.Ranges.{greatest_order, table_room, factor_range}
use Rattle.tables.specs.Matrix.{Matrix}
use Rattle.tables.specs.Checks.{all, within}
use Rattle.tables.proofs.Checks.{false_of, and_left, and_right, all-at, le_of, within_of}
use Rattle.cholesky.specs.Factoring.{Column, next_entry, rows, next_column}
use Rattle.cholesky.specs.Store.{stride, upper, column_of, SmallColumn}
use Rattle.cholesky.specs.Rows.{product_range}
use Rattle.cholesky.specs.Columns.{ColumnReady, step_of, ColumnWorked}
use Rattle.cholesky.specs.Columns.{Step}
use Rattle.cholesky.specs.Columns.{Done, Stops}
use Rattle.cholesky.proofs.Lists.{length_snoc}
use Rattle.cholesky.proofs.Loops.{rows_by, column_ind}
use Rattle.cholesky.proofs.Store.{length-column_of}
use Rattle.solved.specs.Stopped.{stop_range, Stopped}
use Rattle.bus.specs.Area.{column_at, stop_at, columns_at, run_numbers, area_bytes, laid_over, laid_column}
use Rattle.bus.specs.Running.{factor_columns, column_safe, stop_safe, Work, settled, definite_verdict, column_taken, worked}
use Rattle.bus.specs.Required.{StopsIn, column_in}

-- ---- numbers that passed the tests are in their ranges
module _ (t : List ℤ) (j : ℕ) (e : factor_columns t j ≡ true) (l : ℕ) (h : l < j) where
  passed : (all (suc l) (λ k. within factor_range (upper t k l)) && le_z (pos 1) (upper t l l)) ≡ true
  unfolding factor_columns
  passed = all-at _ j e l h

  factor-small : SmallColumn t l (suc l)
  factor-small = record { small = λ k m. within_of factor_range _ (all-at _ (suc l) (and_left _ _ passed) k m) }

  factor-diagonal : pos 1 ≤ℤ upper t l l
  factor-diagonal = le_of _ _ (and_right (all (suc l) (λ k. within factor_range (upper t k l))) _ passed)

pub safe_ready : (t : List ℤ) (j : ℕ) → length t ≡ table_room → j < greatest_order → column_safe t j ≡ true → ColumnReady t j
unfolding column_safe
safe_ready t j size inside e =
    let f = and_left (factor_columns t j) _ e in
    let g = and_right (factor_columns t j) _ e in
    record {
      size = size;
      inside = inside;
      columns = factor-small t j f;
      diagonal = factor-diagonal t j f;
      off = λ k h. within_of product_range _ (all-at _ j (and_left _ _ g) k h);
      top = le_of _ _ (and_right (all j (λ k. within product_range (upper t k j))) _ g);
    }

pub safe_stopped : {n : ℕ} (t : List ℤ) (j m : ℕ) → n ≤ greatest_order → j < n → m ≤ j → stop_safe t j m ≡ true → Stopped n t j m
unfolding stop_safe
safe_stopped t j m order inside rows e =
    let f = and_left (factor_columns t j) _ e in
    record {
      order = order;
      inside = inside;
      rows = rows;
      columns = factor-small t j f;
      diagonal = factor-diagonal t j f;
      last = λ i h. within_of stop_range _ (all-at _ m (and_right (factor_columns t j) _ e) i h);
    }

-- ---- the column that a step tells of
-- a column that is done has j + 1 entries, and one that stops at most j
record Sized (j : ℕ) (c : Column) : Type 0 where
  ends : c.done ≡ true → length c.column ≡ suc j
  stops : c.done ≡ false → length c.column ≤ j

rows-sized : (H : Matrix) (cs : List (List ℤ)) (j k : ℕ) (rest : ℤ) (c : List ℤ) → length c + k ≡ j → Sized j (rows H cs j k rest c)
unfolding rows
rows-sized H cs j zero rest c h = record { ends = λ e. length_snoc c _ ∙ omega arith; stops = λ e. absurd (false≢true (sym e)) }
rows-sized H cs j (suc k) rest c h =
    let long = length_snoc c (next_entry H cs j c) in
    rows_by H cs j k rest c (Sized j) (λ g. rows-sized H cs j k _ _ (omega (arith, long)))
    (λ g. record { ends = λ e. absurd (false≢true e); stops = λ e. omega (arith, long) })

column_sized : (H : Matrix) (cs : List (List ℤ)) → Sized (length cs) (next_column H cs)
column_sized H cs =
    column_ind H cs (Sized (length cs)) (λ h. rows-sized H cs _ _ _ [] (omega arith))
    (λ g. record { ends = λ e. absurd (false≢true e); stops = λ e. omega arith })

module _ (t : List ℤ) (j : ℕ) where
  told : (b : Bool) (x : List ℤ) → let c : Column = record { done = b; column = x } in
      Sized j c → column_of t j (length x) ≡ x → (column_in t j (step_of c) ≡ c) × StopsIn j (step_of c)
  unfolding step_of column_in StopsIn
  told true x s e = (ap (λ (y : List ℤ). record { done = true; column = y }) (rw (s.ends refl) at e), tt)
  told false x s e = (ap (λ (y : List ℤ). record { done = false; column = y }) e, s.stops refl)

  pub step_tells : (H : Matrix) (cs : List (List ℤ)) {r : Step} → length cs ≡ j → ColumnWorked (next_column H cs) j r t →
      (column_in t j r ≡ next_column H cs) × StopsIn j r
  step_tells H cs l w =
      let c = next_column H cs in rw w.answer (told c.done c.column (rw l at (column_sized H cs)) w.column)

-- ---- a number that stands before the columns, and a column
module _ (c : List ℤ) (v : ℤ) where
  over-set : (r : List ℤ) (f d k : ℕ) → k < f → f ≤ d → k < length r →
      take f (set r k v) ++ (c ++ drop d (set r k v)) ≡ set (take f r ++ (c ++ drop d r)) k v
  over-set [] f d k h m l = absurd (omega (arith, l))
  over-set (x ∷ r) zero d k h m l = absurd (omega (arith, h))
  over-set (x ∷ r) (suc f) zero k h m l = absurd (omega (arith, m))
  over-set (x ∷ r) (suc f) (suc d) zero h m l = refl
  over-set (x ∷ r) (suc f) (suc d) (suc k) h m l = ap (λ (y : List ℤ). x ∷ y) (over-set r f d k (omega arith) (omega arith) (omega arith))

pub column_set : (r : List ℤ) (j k : ℕ) (c : List ℤ) (v : ℤ) → k < columns_at → length r ≡ run_numbers →
    laid_column (set r k v) j c ≡ set (laid_column r j c) k v
unfolding laid_column laid_over
column_set r j k c v h e =
    let f = columns_at + stride * j in over-set c v r f (f + length c) k (omega arith) (omega arith) (omega (arith, e))

-- ---- what is done by a test
module _ (b s : List ℕ) {x : Bool} (u v : Work) where
  pub worked-yes : x ≡ true → worked b s u ≡ worked b s (elim x as (λ z. Work) [ true ↦ u | false ↦ v ])
  worked-yes e = rw e

  pub worked-no : x ≡ false → worked b s v ≡ worked b s (elim x as (λ z. Work) [ true ↦ u | false ↦ v ])
  worked-no e = rw e

-- ---- what is kept of a column
module _ (b : List ℕ) (r : List ℤ) (n j : ℕ) (t : List ℤ) where
  pub taken-last : j + 1 ≡ n → column_taken b r n j (column_in t j Done) ≡ settled definite_verdict b
  unfolding column_taken column_in
  taken-last e = rw (column_taken, eq-eqb (suc j) n (sym (add-one j) ∙ e))

  pub taken_next : (j + 1 ≡ n → ⊥) →
      column_taken b r n j (column_in t j Done)
      ≡ record { block = b; run = area_bytes (set (laid_column r j (column_of t j (j + 1))) column_at (pos (j + 1))) }
  unfolding column_taken column_in
  taken_next f = rw (column_taken, false_of (eqb (suc j) n) (λ e. f (add-one j ∙ eqb-true (suc j) n e)), add-one)

  pub taken_stop : (m : ℕ) →
      column_taken b r n j (column_in t j (Stops m))
      ≡ record { block = b; run = area_bytes (set (laid_column r j (column_of t j m)) stop_at (pos (m + 1))) }
  unfolding column_taken column_in
  taken_stop m = rw (length-column_of t j m, add-one)

-- ---- a stop, as the area tells it
pub stop_row : (p : ℤ) (j : ℕ) → pos 1 ≤ℤ p → p ≤ℤ pos (suc j) → (p -ℤ pos 1 ≡ pos (nat_abs p - 1)) × (nat_abs p - 1 ≤ j)
stop_row (pos k) j h g =
    (ap (λ (b : Bool). cond b (negsuc (1 - suc k)) (pos (k - 1))) (le-ltb k 1 (omega (arith, ≤_out h))), omega (arith, ≤_out g))
stop_row (negsuc k) j h g = absurd h.le

-- a number below 1 that is not 0
pub below_zero : (p : ℤ) → le_z (pos 1) p ≡ false → (p ≡ pos 0 → ⊥) → le_z (pos 0) p ≡ false
below_zero (pos zero) e f = absurd (f refl)
below_zero (pos (suc k)) e f = absurd (false≢true (sym e ∙ le_z_true {x = pos 1} {y = pos (suc k)} (≤_in (omega arith))))
below_zero (negsuc k) e f = refl

pub nat_abs-below : {x : ℤ} {n : ℕ} → pos 0 ≤ℤ x → x <ℤ pos n → nat_abs x < n
nat_abs-below {x = pos k} h g = omega (arith, <_out g)
nat_abs-below {x = negsuc k} h g = absurd h.le
