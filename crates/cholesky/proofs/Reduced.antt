-- Factoring ends exactly where the walk by Schur complements does.
use mathlib.Core.Path.{◌≡◌, refl, ap, ap₂, ◌∙◌, subst}
use mathlib.Core.Bool.{true, ◌&&◌}
use mathlib.Core.Logic.{by_cases}
use mathlib.Core.List.{List, [], ◌∷◌, ◌++◌}
use Prim.Native.Nat.{ℕ, zero, suc, ◌+◌, ◌≤◌, ◌<◌}
use native.Mathlib.Omega.{arith}
use native.Mathlib.Decide.{dec_lt, ℕ_discrete}
use lib.Dec.{T, T_not}
use lib.IntN.{ℤ, pos, ◌-ℤ◌, ◌*ℤ◌}
use lib.Signed.{◌≤ℤ◌, le_z, ≤ℤ_refl}
use lib.ListN.{length}
use Rattle.integers.specs.Sum.{sum}
use Rattle.integers.specs.Division.{floor_div}
use Rattle.integers.specs.Root.{whole_root}
use Rattle.integers.proofs.Parts.{≤ℤ_trans, square_nonneg}
use Rattle.integers.proofs.Solver.{ring, order, solver}
use Rattle.integers.proofs.Sums.{sum_ext}
use Rattle.tables.specs.Matrix.{Matrix, nth}
use Rattle.tables.proofs.Checks.{of_true, true_of, bool_ext, and_left, and_right, and_of, le_of}
use Rattle.cholesky.specs.Factoring.{entries, next_entry, goes_on, next_column, factoring}
use Rattle.cholesky.specs.Reduced.{row_entry, reduced, row_from, ends_from}
use Rattle.cholesky.proofs.Lists.{length_snoc, nth-before, nth_last, entries-before, entries-last}
use Rattle.cholesky.proofs.Loops.{Passes, passes, goes_on_lem, rows_ind, rows-done, column_ind, columns_ind, columns_end}
use Rattle.cholesky.proofs.Columns.{columns-length}

-- what is left of H after the rows before i
unfoldable pub left_of : Matrix → ℕ → Matrix
left_of H zero = H
left_of H (suc i) = reduced (left_of H i) i

-- equal entries, on and above the diagonal, in the rows and columns from i to n - 1
pub record Agree (n i : ℕ) (S S' : Matrix) : Type 0 where
  pub entries : (a b : ℕ) → i ≤ a → a ≤ b → b < n → S a b ≡ S' a b

-- ---- the tests of a row, and of all rows, entry by entry
pub record RowPasses (S : Matrix) (i n : ℕ) : Type 0 where
  pub first : pos 1 ≤ℤ S i i
  pub later : (j : ℕ) → i < j → j < n → Passes (row_entry S i j) (reduced S i j j)

module _ (S : Matrix) (i : ℕ) where
  pub row-passes : (m j l : ℕ) → row_from S i j m ≡ true → j ≤ l → l < j + m → Passes (row_entry S i l) (reduced S i l l)
  unfolding row_from
  row-passes zero j l e h k = absurd (omega arith)
  row-passes (suc m) j l e h k =
      by_cases (ℕ_discrete l j) (λ q. rw q (passes _ _ (of_true (and_left (goes_on (row_entry S i j) (reduced S i j j)) (row_from S i (suc j) m) e))))
      (λ q. row-passes m (suc j) l (and_right (goes_on (row_entry S i j) (reduced S i j j)) _ e) (omega arith) (omega arith))

  pub row_of : (m j : ℕ) → ((l : ℕ) → j ≤ l → l < j + m → Passes (row_entry S i l) (reduced S i l l)) → row_from S i j m ≡ true
  unfolding row_from
  row_of zero j f = refl
  row_of (suc m) j f =
      and_of {a = goes_on (row_entry S i j) (reduced S i j j)} (true_of _ (goes_on_lem _ _ (f j (omega arith) (omega arith))))
      (row_of m (suc j) (λ l h k. f l (omega arith) (omega arith)))

-- the rows from i on, of what is left of H
module _ (H : Matrix) (n : ℕ) where
  pub ends-passes : (m i l : ℕ) → i + m ≡ n → ends_from m (left_of H i) i ≡ true → i ≤ l → l < n → RowPasses (left_of H l) l n
  unfolding ends_from left_of
  ends-passes zero i l s e h k = absurd (omega arith)
  ends-passes (suc m) i l s e h k =
      by_cases (ℕ_discrete l i)
      (λ q. rw q (record {
        first = le_of (pos 1) (left_of H i i i) (and_left _ _ e);
        later = λ j p r. row-passes (left_of H i) i m (suc i) j (and_left _ _ (and_right (le_z (pos 1) (left_of H i i i)) _ e)) p (omega arith);
      }))
      (λ q. ends-passes m (suc i) l (omega arith) (and_right (row_from (left_of H i) i (suc i) m) _ (and_right (le_z (pos 1) (left_of H i i i)) _ e)) (omega arith) k)

  pub ends_of_lem : (m i : ℕ) → i + m ≡ n → ((l : ℕ) → i ≤ l → l < n → RowPasses (left_of H l) l n) → ends_from m (left_of H i) i ≡ true
  unfolding ends_from left_of
  ends_of_lem zero i s f = refl
  ends_of_lem (suc m) i s f =
      let p = f i (omega arith) (omega arith) in
      and_of {a = le_z (pos 1) (left_of H i i i)} (true_of _ p.first.le)
      (and_of {a = row_from (left_of H i) i (suc i) m} (row_of (left_of H i) i m (suc i) (λ l h k. p.later l h (omega arith)))
      (ends_of_lem m (suc i) (omega arith) (λ l h k. f l (omega arith) k)))

-- ---- only the entries that are left are read
module _ (n : ℕ) where
  module _ {i : ℕ} {S S' : Matrix} (g : Agree n i S S') where
    pub entry_ext : (j : ℕ) → i ≤ j → j < n → row_entry S i j ≡ row_entry S' i j
    unfolding row_entry
    entry_ext j h k = rw (g.entries i j (omega arith) h k, g.entries i i (omega arith) (omega arith) (omega arith)) refl

    pub reduced_ext : Agree n (suc i) (reduced S i) (reduced S' i)
    unfolding reduced
    reduced_ext =
        record {
          entries = λ a b h k l.
              rw (g.entries a b (omega arith) k l, entry_ext a (omega arith) (omega arith), entry_ext b (omega arith) l) refl;
        }

    row-ext : (m j : ℕ) → i < j → j + m ≡ n → row_from S i j m ≡ row_from S' i j m
    unfolding row_from
    row-ext zero j h e = refl
    row-ext (suc m) j h e =
        ap₂ ◌&&◌ (ap₂ goes_on (entry_ext j (omega arith) (omega arith)) (reduced_ext.entries j j h (omega arith) (omega arith))) (row-ext m (suc j) (omega arith) (omega arith))

  pub ends_ext : (m i : ℕ) {S S' : Matrix} → i + m ≡ n → Agree n i S S' → ends_from m S i ≡ ends_from m S' i
  unfolding ends_from
  ends_ext zero i e g = refl
  ends_ext (suc m) i e g =
      ap₂ ◌&&◌ (ap (le_z (pos 1)) (g.entries i i (omega arith) (omega arith) (omega arith)))
      (ap₂ ◌&&◌ (row-ext g m (suc i) (omega arith) (omega arith)) (ends_ext m (suc i) (omega arith) (reduced_ext g)))

-- ---- rests only fall
pub reduced-≤ : (S : Matrix) (i j : ℕ) → reduced S i j j ≤ℤ S j j
unfolding reduced
reduced-≤ S i j = order (S j j ∷ row_entry S i j ∷ []) (square_nonneg (row_entry S i j)) (search solver depth 40 fits 20000) (omega arith)

pub left_falls : (H : Matrix) (j i m : ℕ) → i ≤ m → left_of H m j j ≤ℤ left_of H i j j
unfolding left_of
left_falls H j i zero h = let e : i ≡ 0 = omega arith in rw e (≤ℤ_refl _)
left_falls H j i (suc m) h =
    by_cases (ℕ_discrete i (suc m)) (λ e. rw e (≤ℤ_refl _)) (λ q. ≤ℤ_trans (reduced-≤ (left_of H m) m j) (left_falls H j i m (omega arith)))

-- where it ends, each diagonal entry is at least 1
pub ends-diagonal : (S : Matrix) (m i j : ℕ) → ends_from m S i ≡ true → i ≤ j → j < i + m → pos 1 ≤ℤ S j j
unfolding ends_from
ends-diagonal S zero i j e h k = absurd (omega arith)
ends-diagonal S (suc m) i j e h k =
    by_cases (ℕ_discrete j i) (λ f. rw f (le_of (pos 1) (S i i) (and_left _ _ e)))
    (λ q. ≤ℤ_trans (row-passes S i m (suc i) j (and_left _ _ (and_right (le_z (pos 1) (S i i)) _ e)) (omega arith) (omega arith)).some (reduced-≤ S i j))

-- ---- factoring by columns works out the same entries
module _ (H : Matrix) where
  -- r(k,j)
  abbrev r : ℕ → ℕ → ℤ
  r k j = row_entry (left_of H k) k j

  pub left_is : (i a b : ℕ) → H a b -ℤ sum i (λ k. r k a *ℤ r k b) ≡ left_of H i a b
  unfolding left_of reduced sum
  left_is zero a b = ring (H a b ∷ []) (search solver depth 40 fits 20000) refl
  left_is (suc i) a b =
      rw (← left_is i a b) (ring (H a b ∷ sum i (λ k. r k a *ℤ r k b) ∷ r i a ∷ r i b ∷ []) (search solver depth 40 fits 20000) refl)

  -- the tests of column j
  record ColumnPasses (j : ℕ) : Type 0 where
    top : pos 1 ≤ℤ H j j
    above : (k : ℕ) → k < j → Passes (r k j) (left_of H (suc k) j j)

  -- the columns that are done
  record Held (cs : List (List ℤ)) : Type 0 where
    off : (k l : ℕ) → k < l → l < length cs → entries cs k l ≡ r k l
    on : (l : ℕ) → l < length cs → entries cs l l ≡ whole_root (left_of H l l l)
    tests : (l : ℕ) → l < length cs → ColumnPasses l

  -- the column that is being made
  record Growing (cs : List (List ℤ)) (rest : ℤ) (c : List ℤ) : Type 0 where
    now : (k : ℕ) → k < length c → nth c k ≡ r k (length cs)
    rest_is : rest ≡ left_of H (length c) (length cs) (length cs)
    above : (k : ℕ) → k < length c → Passes (r k (length cs)) (left_of H (suc k) (length cs) (length cs))

  module _ (cs : List (List ℤ)) (d : Held cs) where
    abbrev j : ℕ
    j = length cs

    next-is : (rest : ℤ) (c : List ℤ) → length c < j → Growing cs rest c → next_entry H cs j c ≡ r (length c) j
    unfolding next_entry row_entry
    next-is rest c h g =
        let i = length c in
        ap₂ floor_div
        (ap (λ (z : ℤ). H i j -ℤ z) (sum_ext i _ _ (λ k m. ap₂ (λ (u v : ℤ). u *ℤ v) (d.off k i m h) (g.now k m))) ∙ left_is i i j)
        (d.on i h)

    left-more : (rest : ℤ) (c : List ℤ) → length c < j → Growing cs rest c →
        rest -ℤ next_entry H cs j c *ℤ next_entry H cs j c ≡ left_of H (suc (length c)) j j
    unfolding left_of reduced
    left-more rest c h g = rw (next-is rest c h g, g.rest_is) refl

    grow : (rest : ℤ) (c : List ℤ) → length c < j → Growing cs rest c →
        (let x : ℤ = next_entry H cs j c in Passes x (rest -ℤ x *ℤ x) → Growing cs (rest -ℤ x *ℤ x) (c ++ (x ∷ [])))
    grow rest c h g p =
        let x = next_entry H cs j c in
        let e = length_snoc c x in
        record {
          now = λ k l.
              by_cases (dec_lt k (length c)) (λ q. nth-before c x k q ∙ g.now k q)
              (λ q. let f : k ≡ length c = omega (arith, e) in rw f (nth_last c x ∙ next-is rest c h g));
          rest_is = rw e (left-more rest c h g);
          above = λ k l.
              by_cases (dec_lt k (length c)) (g.above k)
              (λ q. let f : k ≡ length c = omega (arith, e) in rw (f, ← next-is rest c h g, ← left-more rest c h g) p);
        }

    start : Growing cs (H j j) []
    unfolding left_of
    start = record { now = λ k l. absurd (omega arith); rest_is = refl; above = λ k l. absurd (omega arith) }

    finish : pos 1 ≤ℤ H j j → (rest : ℤ) (c : List ℤ) → length c ≡ j → Growing cs rest c → Held (cs ++ ((c ++ (whole_root rest ∷ [])) ∷ []))
    finish top rest c h g =
        let e = length_snoc cs (c ++ (whole_root rest ∷ [])) in
        record {
          off = λ k l m p.
              by_cases (dec_lt l j) (λ q. entries-before cs _ k l q ∙ d.off k l m q)
              (λ q. let f : l ≡ j = omega (arith, e) in rw f (entries-last cs _ k ∙ nth-before c (whole_root rest) k (omega arith) ∙ g.now k (omega arith)));
          on = λ l m.
              by_cases (dec_lt l j) (λ q. entries-before cs _ l l q ∙ d.on l q)
              (λ q. let f : l ≡ j = omega (arith, e) in
              rw f (entries-last cs _ j ∙ subst (λ (k : ℕ). nth (c ++ (whole_root rest ∷ [])) k ≡ whole_root rest) h (nth_last c (whole_root rest))
              ∙ ap whole_root (g.rest_is ∙ ap (λ (k : ℕ). left_of H k j j) h)));
          tests = λ l m.
              by_cases (dec_lt l j) (d.tests l)
              (λ q. let f : l ≡ j = omega (arith, e) in rw f (record { top = top; above = λ k p. g.above k (omega arith) }));
        }

    column-held : T (next_column H cs).done → Held (cs ++ ((next_column H cs).column ∷ []))
    column-held =
        column_ind H cs (λ o. T o.done → Held (cs ++ (o.column ∷ [])))
        (λ h. rows_ind H cs j (Growing cs) (λ c. Held (cs ++ (c ∷ []))) grow (finish h) j (H j j) [] (omega arith) start) (λ g t. absurd t)

    column-passes : ColumnPasses j → T (next_column H cs).done
    column-passes p =
        column_ind H cs (λ o. T o.done)
        (λ h. rows-done H cs j (Growing cs) grow
        (λ rest c h g. rw (left-more rest c h g, next-is rest c h g) (p.above (length c) h)) j (H j j) [] (omega arith) start)
        (λ g. absurd (T_not (le_z (pos 1) (H j j)) g p.top.le))

  -- no column at all
  held_none : Held []
  held_none = record { off = λ k l h m. absurd (omega arith); on = λ l h. absurd (omega arith); tests = λ l h. absurd (omega arith) }

  -- ---- in both directions
  module _ (n : ℕ) where
    columns-pass : T (factoring n H).ends → (j : ℕ) → j < n → ColumnPasses j
    unfolding factoring
    columns-pass t j h =
        (columns_ind H n Held (λ cs l d u. column-held cs d u) n [] (omega arith) held_none t).tests j (omega (arith, columns-length H n [] t))

    pass-columns : ((j : ℕ) → j < n → ColumnPasses j) → T (factoring n H).ends
    unfolding factoring
    pass-columns f =
        columns_end H n Held (λ cs l d u. column-held cs d u) (λ cs l d. column-passes cs d (f (length cs) l)) n [] (omega arith) held_none

    row-of-columns : ((j : ℕ) → j < n → ColumnPasses j) → (i : ℕ) → i < n → RowPasses (left_of H i) i n
    unfolding left_of
    row-of-columns f zero h = record { first = (f 0 h).top; later = λ j k l. (f j l).above 0 k }
    row-of-columns f (suc i) h = record { first = ((f (suc i) h).above i (omega arith)).some; later = λ j k l. (f j l).above (suc i) k }

    column-of-rows : ((i : ℕ) → i < n → RowPasses (left_of H i) i n) → (j : ℕ) → j < n → ColumnPasses j
    unfolding left_of
    column-of-rows f j h = record {
      top = by_cases (dec_lt 0 j) (λ q. ≤ℤ_trans ((f 0 (omega arith)).later j q h).some (reduced-≤ H 0 j))
          (λ q. let e : j ≡ 0 = omega arith in rw e (f 0 (omega arith)).first);
      above = λ k l. (f k (omega arith)).later j l h;
    }

    -- where factoring ends, each row passes
    pub ends-rows : (factoring n H).ends ≡ true → (i : ℕ) → i < n → RowPasses (left_of H i) i n
    ends-rows e = row-of-columns (columns-pass (of_true e))

    pub rows_end : ((i : ℕ) → i < n → RowPasses (left_of H i) i n) → (factoring n H).ends ≡ true
    rows_end f = true_of _ (pass-columns (column-of-rows f))

    pub factoring_by_rows : (factoring n H).ends ≡ ends_from n H 0
    unfolding left_of
    factoring_by_rows =
        bool_ext _ _ (λ e. ends_of_lem H n n 0 (omega arith) (λ l h k. ends-rows e l k)) (λ e. rows_end (λ i h. ends-passes H n n 0 i (omega arith) e (omega arith) h))
