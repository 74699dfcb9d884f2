-- A row step, column by column and entry by entry.
use mathlib.Core.Path.{◌≡◌, refl, sym, ap, ap₂, ◌∙◌, subst}
use mathlib.Core.Bool.{Bool, true, false}
use mathlib.Core.Logic.{by_cases}
use mathlib.Core.List.{List, [], ◌∷◌}
use Prim.Native.Nat.{ℕ, suc, ◌+◌, ◌*◌, ◌≤◌, ◌<◌}
use native.Mathlib.Omega.{arith}
use native.Mathlib.Decide.{ℕ_discrete}
use lib.Dec.{T}
use lib.IntN.{ℤ, pos, ◌-ℤ◌, ◌*ℤ◌}
use lib.Signed.{◌≤ℤ◌, le_z}
use lib.ListN.{set, length-set}
use mir.Syntax.{w64}
use mir.Val.{SFits}
use Rattle.integers.specs.Numbers.{Within}
use Rattle.integers.specs.Division.{floor_div}
use Rattle.integers.specs.Root.{whole_root}
use Rattle.integers.proofs.Parts.{≤ℤ_trans}
use Rattle.integers.proofs.Solver.{order, solver}
use Rattle.integers.proofs.Machine.{within_more, within--, within-*, within_in, fits_within}
use Rattle.tables.specs.Ranges.{greatest_order, factor_range}
use Rattle.tables.specs.Matrix.{Matrix}
use Rattle.tables.specs.Checks.{within}
use Rattle.tables.proofs.Checks.{of_true, and_first_false}
use Rattle.cholesky.specs.Factoring.{goes_on}
use Rattle.cholesky.specs.Store.{upper, stride}
use Rattle.cholesky.specs.Reduced.{row_entry, reduced}
use Rattle.cholesky.specs.Rows.{product_range, Factorable, Rowed, Subtracted, ColumnTaken, RowDone, ColumnsTaken, RowTaken}
use Rattle.cholesky.proofs.Loops.{passes}
use Rattle.cholesky.proofs.Store.{upper-same, upper_other}
use Rattle.cholesky.proofs.Reduced.{reduced-≤}

-- ---- entries of a column, one by one
module _ {s : List ℤ} {i j : ℕ} {r : ℤ} where
  module _ {m : ℕ} {s' : List ℤ} (w : Subtracted s i j r m s') where
    -- entry (m,j) and r(i,m) are as they were
    pub taken_reads : i < m → m < greatest_order → upper s' m j -ℤ upper s' i m *ℤ r ≡ upper s m j -ℤ upper s i m *ℤ r
    taken_reads h k =
        ap₂ (λ (x y : ℤ). x -ℤ y *ℤ r) (w.kept m j k (λ e p q. absurd (omega arith))) (w.kept i m (omega arith) (λ e p q. absurd (omega arith)))

    pub taken_more : i < m → m ≤ j → j < greatest_order → {v : ℤ} → v ≡ upper s m j -ℤ upper s i m *ℤ r → Subtracted s i j r (suc m) (set s' (stride * j + m) v)
    taken_more h k l {v} e =
        record {
          size = length-set s' (stride * j + m) v ∙ w.size;
          taken = λ a p q.
              by_cases (ℕ_discrete a m) (λ u. rw u (upper-same s' m j v (omega (arith, w.size)) ∙ e))
              (λ u. upper_other s' m j v a j (omega arith) ∙ w.taken a p (omega arith));
          kept = λ a b p f. upper_other s' m j v a b (λ q. f (omega arith) (omega arith) (omega arith)) ∙ w.kept a b p (λ q g u. f q g (omega arith));
        }

  -- 64 bits hold the product that comes next, and what it leaves
  module _ {m : ℕ} {s' : List ℤ} (w : Subtracted s i j r m s') (d : Rowed s i j (suc j)) (h : Within factor_range r) (p : i < m) (q : m ≤ j) where
    pub product_fits : SFits w64 (upper s' i m *ℤ r)
    product_fits =
        let inside = d.inside in
        rw (w.kept i m (omega arith) (λ e u v. absurd (omega arith))) (fits_within (within-* (d.row m p (omega arith)) h) (omega arith))

    pub difference_fits : SFits w64 (upper s' m j -ℤ upper s' i m *ℤ r)
    difference_fits =
        let inside = d.inside in
        rw (taken_reads w p (omega arith)) (fits_within (within-- (d.heights m p q) (within-* (d.row m p (omega arith)) h)) (omega arith))

-- ---- a column
module _ {s : List ℤ} {i j : ℕ} (d : Rowed s i j j) (r : ℤ) where
  abbrev stored : List ℤ
  stored = set s (stride * j + i) r

  same : upper stored i j ≡ r
  same = upper-same s i j r (omega (arith, d.size, d.inside, d.before))

  other : (k l : ℕ) → k < greatest_order → (l ≡ j → i ≤ k → ⊥) → upper stored k l ≡ upper s k l
  other k l h f = upper_other s i j r k l (λ e. let inside = d.inside in let before = d.before in f (omega arith) (omega arith))

  -- the entry is stored
  pub column_rowed : Within factor_range r → Rowed stored i j (suc j)
  column_rowed h =
      let before = d.before in
      record {
        size = length-set s (stride * j + i) r ∙ d.size;
        inside = d.inside;
        before = d.before;
        row = λ k p q. by_cases (ℕ_discrete k j) (λ e. rw (e, same) h) (λ e. rw (upper_other s i j r i k (omega arith)) (d.row k p (omega arith)));
        heights = λ k p q. let inside = d.inside in rw (upper_other s i j r k j (omega arith)) (d.heights k p q);
      }

  -- the entry is out of a factor's range
  pub column_out : within factor_range r ≡ false → ColumnTaken s i j r false stored
  unfolding goes_on
  column_out e =
      record {
        answered = sym (and_first_false _ e);
        size = length-set s (stride * j + i) r ∙ d.size;
        stored = same;
        taken = λ q. absurd (subst T (sym q) tt);
        kept = other;
      }

  -- what is left of the diagonal entry
  pub column_in_lem : within factor_range r ≡ true → {s' : List ℤ} → Subtracted stored i j r (suc j) s' → ColumnTaken s i j r (le_z (pos 1) (upper s' j j)) s'
  unfolding goes_on
  column_in_lem e {s'} w =
      let before = d.before in
      record {
        answered = rw (e, taken j before (omega arith), entry) refl;
        size = w.size;
        stored = entry;
        taken = λ q. taken;
        kept = λ k l h f. w.kept k l h (λ e p q. f e (omega arith)) ∙ other k l h f;
      }
    where
      row : (k : ℕ) → upper s' i k ≡ upper stored i k
      row k = let inside = d.inside in let before = d.before in w.kept i k (omega arith) (λ e p q. absurd (omega arith))

      entry : upper s' i j ≡ r
      entry = row j ∙ same

      taken : (k : ℕ) → i < k → k ≤ j → upper s' k j ≡ upper s k j -ℤ upper s' i k *ℤ r
      taken k p q =
          let inside = d.inside in
          let before = d.before in
          w.taken k p (omega arith) ∙ ap₂ (λ (x y : ℤ). x -ℤ y *ℤ r) (upper_other s i j r k j (omega arith)) (sym (row k))

-- ---- a row: before column j
pub record RowGoing (s : List ℤ) (i e j : ℕ) (s' : List ℤ) : Type 0 where
  pub done : RowDone s i j s'
  pub todo : (a b : ℕ) → i ≤ a → a ≤ b → j ≤ b → b < e → upper s' a b ≡ upper s a b

module _ {s : List ℤ} {e i : ℕ} (z : Factorable s e i) where
  abbrev S : Matrix
  S = upper s

  -- the entries of a row that goes on
  small : {j k : ℕ} {s' : List ℤ} → RowDone s i j s' → i < k → k < j → Within factor_range (row_entry S i k)
  small {j} {k} w p q = record { size = (passes _ _ (of_true (w.tests k p q))).small }

  module _ {j : ℕ} (p : i < j) (q : j < e) {s' : List ℤ} (w : RowGoing s i e j s') where
    pub going_rowed : Rowed s' i j j
    going_rowed =
        let order = z.order in
        record {
          size = w.done.size;
          inside = omega arith;
          before = p;
          row = λ k u v. rw (w.done.row k u v) (small w.done u v);
          heights = λ k u v.
              rw (w.todo k j (omega arith) v (omega arith) q)
              (by_cases (ℕ_discrete k j) (λ x. rw x (within_more (omega arith) (z.on j (omega arith) q)))
              (λ x. within_more (omega (arith, z.order)) (z.off k j (omega arith) (omega arith) q)));
        }

    entry-is : floor_div (upper s' i j) (whole_root (S i i)) ≡ row_entry S i j
    unfolding row_entry
    entry-is = ap (λ (x : ℤ). floor_div x (whole_root (S i i))) (w.todo i j (omega arith) (omega arith) (omega arith) q)

    module _ {answer : Bool} {s'' : List ℤ} (c : ColumnTaken s' i j (floor_div (upper s' i j) (whole_root (S i i))) answer s'') where
      -- the column's test
      test-is : answer ≡ goes_on (row_entry S i j) (reduced S i j j)
      unfolding reduced
      test-is = rw (entry-is, w.todo j j (omega arith) (omega arith) (omega arith) q) at c.answered

      -- the columns before it are as they were
      before-is : RowDone s i j s''
      before-is =
          let order = z.order in
          record {
            size = c.size;
            row = λ k u v. c.kept i k (omega arith) (λ x l. absurd (omega arith)) ∙ w.done.row k u v;
            tests = w.done.tests;
            left = λ a b t u v. c.kept a b (omega arith) (λ x l. absurd (omega arith)) ∙ w.done.left a b t u v;
            above = λ k l t. c.kept k l (omega arith) (λ x m. absurd (omega arith)) ∙ w.done.above k l t;
          }

      pub going_stops : answer ≡ false → ColumnsTaken s i e j s''
      going_stops f = record { past = p; bound = omega arith; done = before-is; stop = λ h. (c.stored ∙ entry-is, sym test-is ∙ f) }

      module _ (goes : answer ≡ true) where
        row_at : (k : ℕ) → i < k → k < suc j → upper s'' i k ≡ row_entry S i k
        row_at k u v = by_cases (ℕ_discrete k j) (λ x. rw x (c.stored ∙ entry-is)) (λ x. before-is.row k u (omega arith))

        left_at : (a b : ℕ) → i < a → a ≤ b → b < suc j → upper s'' a b ≡ reduced S i a b
        unfolding reduced
        left_at a b t u v =
            by_cases (ℕ_discrete b j)
            (λ x. rw x (c.taken goes a t (omega arith) ∙ rw (w.todo a j (omega arith) (omega arith) (omega arith) q, row_at a t (omega arith), entry-is) refl))
            (λ x. before-is.left a b t u (omega arith))

        pub going_on : RowGoing s i e (suc j) s''
        going_on =
            let order = z.order in
            record {
              done = record {
                size = c.size;
                row = row_at;
                tests = λ k u v. by_cases (ℕ_discrete k j) (λ x. rw x (sym test-is ∙ goes)) (λ x. before-is.tests k u (omega arith));
                left = left_at;
                above = before-is.above;
              };
              todo = λ a b t u v l. c.kept a b (omega arith) (λ x m. absurd (omega arith)) ∙ w.todo a b t u (omega arith) l;
            }

  -- the root is stored
  pub row-taken : {r : ℕ} {s' : List ℤ} {v : ℤ} → i < e → v ≡ whole_root (S i i) → ColumnsTaken s i e r s' → RowTaken s i e r (set s' (stride * i + i) v)
  row-taken {r} {s'} {v} h x c =
      let order = z.order in
      let w = c.done in
      record {
        columns = record {
          past = c.past;
          bound = c.bound;
          done = record {
            size = length-set s' (stride * i + i) v ∙ w.size;
            row = λ k p q. upper_other s' i i v i k (omega arith) ∙ w.row k p q;
            tests = w.tests;
            left = λ a b p q l. upper_other s' i i v a b (omega (arith, c.bound)) ∙ w.left a b p q l;
            above = λ k l p. upper_other s' i i v k l (omega arith) ∙ w.above k l p;
          };
          stop = λ l. (upper_other s' i i v i r (omega (arith, c.past)) ∙ (c.stop l).0, (c.stop l).1);
        };
        root = upper-same s' i i v (omega (arith, w.size)) ∙ x;
      }

  -- 64 bits hold what is left
  pub left_factorable : {r : ℕ} {s' : List ℤ} → r ≤ e → RowDone s i r s' → Factorable s' r (suc i)
  unfolding reduced
  left_factorable {r} h w =
      let room = z.order in
      record {
        size = w.size;
        order = omega arith;
        off = λ a b p q l.
            rw (w.left a b (omega arith) (omega arith) l)
            (within_more (omega arith) (within-- (z.off a b (omega arith) q (omega arith)) (within-* (small w (omega arith) (omega arith)) (small w (omega arith) l))));
        on = λ a p q.
            rw (w.left a a (omega arith) (omega arith) q)
            (within_more {m = product_range} (omega arith)
            (within_in (order (reduced S i a a ∷ []) (passes _ _ (of_true (w.tests a (omega arith) q))).some (search solver depth 40 fits 20000) (omega arith)) (top a p q)));
        top = λ a p q. rw (w.left a a (omega arith) (omega arith) q) (top a p q);
      }
    where
      top : (a : ℕ) → suc i ≤ a → a < r → reduced S i a a ≤ℤ pos product_range
      top a p q = ≤ℤ_trans (reduced-≤ S i a) (z.top a (omega arith) (omega arith))

-- fewer columns
pub factorable_less : {s : List ℤ} {n m i : ℕ} → m ≤ n → Factorable s n i → Factorable s m i
factorable_less h z =
    let o = z.order in
    record {
      size = z.size;
      order = omega arith;
      off = λ a b k l m. z.off a b k l (omega arith);
      on = λ a k l. z.on a k (omega arith);
      top = λ a k l. z.top a k (omega arith);
    }
