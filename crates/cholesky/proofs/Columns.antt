-- What factoring keeps through its loops: where it ends, its columns are as Factored.antt says.
use mathlib.Core.Path.{◌≡◌, refl, sym, ap, ap₂, ◌∙◌, subst}
use mathlib.Core.Logic.{by_cases}
use mathlib.Core.List.{List, [], ◌∷◌, ◌++◌}
use Prim.Native.Nat.{ℕ, zero, suc, ◌+◌, ◌≤◌, ◌<◌}
use native.Mathlib.Omega.{arith}
use native.Mathlib.Decide.{dec_lt, ℕ_discrete}
use lib.Dec.{T}
use lib.IntN.{ℤ, pos, nat_abs, ◌+ℤ◌, ◌-ℤ◌, ◌*ℤ◌}
use lib.Signed.{◌≤ℤ◌}
use lib.ListN.{length, get_or, get_or-append}
use lib.Seq.{get_or-append_seam}
use Rattle.integers.specs.Sum.{sum}
use Rattle.integers.specs.Root.{whole_root}
use Rattle.integers.proofs.Parts.{≤ℤ_trans, square_nonneg, pos_nonneg}
use Rattle.integers.proofs.Solver.{◌&◌, ring, order, solver}
use Rattle.integers.proofs.Sums.{sum_zero, sum_suc, sum_ext, sum_nonneg}
use Rattle.integers.proofs.Division.{floor_rest}
use Rattle.integers.proofs.Roots.{root_law, root_one, root_≤}
use Rattle.tables.specs.Ranges.{factor_range}
use Rattle.tables.specs.Matrix.{Matrix, nth}
use Rattle.cholesky.specs.Factoring.{entries, next_entry, next_column, columns_from, factoring}
use Rattle.cholesky.proofs.Factored.{ρ, gap, OffDiagonal, OnDiagonal, Factored}
use Rattle.cholesky.proofs.Lists.{length_snoc, nth-before, nth_last, nth_past, entries-before, entries-last}
use Rattle.cholesky.proofs.Loops.{Passes, rows_ind, column_ind, columns_by, columns_ind}

-- ---- what is known of an entry rests on two columns down to its row
module _ (H R S : Matrix) (i j : ℕ) (p : (k : ℕ) → k ≤ i → R k i ≡ S k i) (q : (k : ℕ) → k ≤ i → R k j ≡ S k j) where
  pub gap_ext : gap H R i j ≡ gap H S i j
  unfolding gap
  gap_ext =
      ap (λ (z : ℤ). H i j -ℤ z) (sum_ext (suc i) _ _ (λ k h. ap₂ (λ (u v : ℤ). u *ℤ v) (p k (omega arith)) (q k (omega arith))))

  pub keep_off : OffDiagonal H R i j → OffDiagonal H S i j
  keep_off o =
      record {
        gaps = record { low = rw (← gap_ext) o.gaps.low; high = rw (← gap_ext, ← p i (omega arith)) o.gaps.high };
        small = rw (← q i (omega arith)) o.small;
      }

pub keep_on : (H R S : Matrix) (j : ℕ) → ((k : ℕ) → k ≤ j → R k j ≡ S k j) → OnDiagonal H R j → OnDiagonal H S j
keep_on H R S j p d =
    let e = gap_ext H R S j j p p in
    let s = p j (omega arith) in
    record {
      gaps = record { low = rw (← e) d.gaps.low; high = rw (← e, ← s) d.gaps.high };
      one = rw (← s) d.one;
      top = rw (← s) d.top;
    }

-- a sum with one term more
sum_more : (i : ℕ) (g g' : ℕ → ℤ) (x : ℤ) → ((k : ℕ) → k < i → g' k ≡ g k) → g' i ≡ x → sum (suc i) g' ≡ sum i g +ℤ x
sum_more i g g' x p q = sum_suc i g' ∙ ap₂ (λ (u v : ℤ). u +ℤ v) (sum_ext i g' g p) q

-- ---- the columns that are done, and the column that is being made, with its entries so far
pub record Done (H : Matrix) (cs : List (List ℤ)) : Type 0 where
  pub lengths : (l : ℕ) → l < length cs → length (get_or cs l []) ≡ suc l
  pub off : (a b : ℕ) → a < b → b < length cs → OffDiagonal H (entries cs) a b
  pub on : (b : ℕ) → b < length cs → OnDiagonal H (entries cs) b

pub record Making (H : Matrix) (cs : List (List ℤ)) (rest : ℤ) (c : List ℤ) : Type 0 where
  pub now : (a : ℕ) → a < length c → OffDiagonal H (entries (cs ++ (c ∷ []))) a (length cs)
  pub rest_is : rest ≡ H (length cs) (length cs) -ℤ sum (length c) (λ k. nth c k *ℤ nth c k)
  pub some : pos 1 ≤ℤ rest

module _ (H : Matrix) (cs : List (List ℤ)) (d : Done H cs) where
  abbrev j : ℕ
  j = length cs

  -- the matrix with c for its last column
  abbrev with : List ℤ → Matrix
  with c = entries (cs ++ (c ∷ []))

  -- one entry more keeps what is above it
  more_old : (c : List ℤ) (x : ℤ) (k l : ℕ) → l < j → with c k l ≡ with (c ++ (x ∷ [])) k l
  more_old c x k l h = entries-before cs c k l h ∙ sym (entries-before cs (c ++ (x ∷ [])) k l h)

  more_now : (c : List ℤ) (x : ℤ) (k : ℕ) → k < length c → with c k j ≡ with (c ++ (x ∷ [])) k j
  more_now c x k h = entries-last cs c k ∙ sym (nth-before c x k h) ∙ sym (entries-last cs (c ++ (x ∷ [])) k)

  keep_now : (c : List ℤ) (x : ℤ) → length c ≤ j → (a : ℕ) → a < length c → OffDiagonal H (with c) a j → OffDiagonal H (with (c ++ (x ∷ []))) a j
  keep_now c x hc a h o = keep_off H (with c) _ a j (λ k m. more_old c x k a (omega arith)) (λ k m. more_now c x k (omega arith)) o

  squares-more : (c : List ℤ) (x : ℤ) → sum (length (c ++ (x ∷ []))) (λ k. nth (c ++ (x ∷ [])) k *ℤ nth (c ++ (x ∷ [])) k) ≡ sum (length c) (λ k. nth c k *ℤ nth c k) +ℤ x *ℤ x
  squares-more c x =
      rw (length_snoc c x) (sum_more (length c) _ _ (x *ℤ x) (λ k h. ap (λ (z : ℤ). z *ℤ z) (nth-before c x k h)) (ap (λ (z : ℤ). z *ℤ z) (nth_last c x)))

  -- the new entry, from floor division
  new_off : (c : List ℤ) → length c < j → nat_abs (next_entry H cs j c) ≤ factor_range → OffDiagonal H (with (c ++ (next_entry H cs j c ∷ []))) (length c) j
  unfolding gap next_entry
  new_off c h s =
      let i = length c in
      let r = next_entry H cs j c in
      let c' = c ++ (r ∷ []) in
      let last : with c' i j ≡ r = entries-last cs c' i ∙ nth_last c r in
      let same : (k : ℕ) → with c' k i ≡ entries cs k i = λ k. entries-before cs c' k i h in
      let total : sum (suc i) (λ k. with c' k i *ℤ with c' k j) ≡ sum i (λ k. entries cs k i *ℤ nth c k) +ℤ entries cs i i *ℤ r =
      sum_more i _ _ _ (λ k m. ap₂ (λ (u v : ℤ). u *ℤ v) (same k) (entries-last cs c' k ∙ nth-before c r k m)) (ap₂ (λ (u v : ℤ). u *ℤ v) (same i) last) in
      let f = floor_rest (H i j -ℤ sum i (λ k. entries cs k i *ℤ nth c k)) (entries cs i i) (d.on i h).one in
      record {
        gaps = record {
          low = rw total (order (H i j ∷ sum i (λ k. entries cs k i *ℤ nth c k) ∷ entries cs i i ∷ r ∷ []) f.low (search solver depth 40 fits 20000) (omega arith));
          high = rw (total, same i) (order (H i j ∷ sum i (λ k. entries cs k i *ℤ nth c k) ∷ entries cs i i ∷ r ∷ []) f.high (search solver depth 40 fits 20000) (omega arith));
        };
        small = rw last s;
      }

  pub row_step : (rest : ℤ) (c : List ℤ) → length c < j → Making H cs rest c →
      (let r : ℤ = next_entry H cs j c in Passes r (rest -ℤ r *ℤ r) → Making H cs (rest -ℤ r *ℤ r) (c ++ (r ∷ [])))
  row_step rest c h m p =
      let r = next_entry H cs j c in
      record {
        now = λ a k.
            by_cases (ℕ_discrete a (length c)) (λ e. rw e (new_off c h p.small))
            (λ e. let l : a < length c = omega (arith, length_snoc c r) in keep_now c _ (omega arith) a l (m.now a l));
        rest_is = order (rest ∷ r ∷ H j j ∷ sum (length c) (λ k. nth c k *ℤ nth c k) ∷ sum (length (c ++ (r ∷ []))) (λ k. nth (c ++ (r ∷ [])) k *ℤ nth (c ++ (r ∷ [])) k) ∷ [])
            (m.rest_is & squares-more c r) (search solver depth 40 fits 20000) (omega arith);
        some = p.some;
      }

  -- ---- the column's end
  module _ (top : H j j ≤ℤ (ρ *ℤ ρ)) where
    new-on : (rest : ℤ) (c : List ℤ) → length c ≡ j → Making H cs rest c → OnDiagonal H (with (c ++ (whole_root rest ∷ []))) j
    unfolding gap
    new-on rest c h m =
        let s = whole_root rest in
        let c' = c ++ (s ∷ []) in
        let last : with c' j j ≡ s = entries-last cs c' j ∙ subst (λ (k : ℕ). nth c' k ≡ s) h (nth_last c s) in
        let total : sum (suc j) (λ k. with c' k j *ℤ with c' k j) ≡ sum j (λ k. nth c k *ℤ nth c k) +ℤ s *ℤ s =
        sum_more j _ _ _ (λ k l. ap (λ (z : ℤ). z *ℤ z) (entries-last cs c' k ∙ nth-before c s k (omega arith))) (ap (λ (z : ℤ). z *ℤ z) last) in
        let is : rest ≡ H j j -ℤ sum j (λ k. nth c k *ℤ nth c k) = subst (λ (k : ℕ). rest ≡ H j j -ℤ sum k (λ k. nth c k *ℤ nth c k)) h m.rest_is in
        let under : rest ≤ℤ (ρ *ℤ ρ) =
        order (rest ∷ H j j ∷ sum j (λ k. nth c k *ℤ nth c k) ∷ []) (is & top & sum_nonneg j _ (λ k l. square_nonneg (nth c k))) (search solver depth 40 fits 20000) (omega arith) in
        let law = root_law rest (≤ℤ_trans (pos_nonneg 1) m.some) in
        record {
          gaps = record {
            low = rw total (order (rest ∷ s ∷ H j j ∷ sum j (λ k. nth c k *ℤ nth c k) ∷ []) (is & law.low) (search solver depth 40 fits 20000) (omega arith));
            high = rw (total, last) (order (rest ∷ s ∷ H j j ∷ sum j (λ k. nth c k *ℤ nth c k) ∷ []) (is & law.high) (search solver depth 40 fits 20000) (omega arith));
          };
          one = rw last (root_one m.some law);
          top = rw last (root_≤ (pos_nonneg factor_range) under law);
        }

    column-end : (rest : ℤ) (c : List ℤ) → length c ≡ j → Making H cs rest c → Done H (cs ++ ((c ++ (whole_root rest ∷ [])) ∷ []))
    column-end rest c h m =
        let s = whole_root rest in
        let more = length_snoc cs (c ++ (s ∷ [])) in
        record {
          lengths = λ l k.
              by_cases (dec_lt l j) (λ e. ap length (get_or-append cs _ [] l e) ∙ d.lengths l e)
              (λ e. let q : l ≡ j = omega (arith, more) in rw q (ap length (get_or-append_seam cs _ [] []) ∙ length_snoc c s ∙ ap suc h));
          off = λ a b k l.
              by_cases (dec_lt b j)
              (λ e. keep_off H (entries cs) _ a b (λ i m. sym (entries-before cs _ i a (omega arith))) (λ i m. sym (entries-before cs _ i b e)) (d.off a b k e))
              (λ e. let q : b ≡ j = omega (arith, more) in rw q (keep_now c _ (omega arith) a (omega arith) (m.now a (omega arith))));
          on = λ b k.
              by_cases (dec_lt b j) (λ e. keep_on H (entries cs) _ b (λ i m. sym (entries-before cs _ i b e)) (d.on b e))
              (λ e. let q : b ≡ j = omega (arith, more) in rw q (new-on rest c h m));
        }

  -- before its first row
  pub started : pos 1 ≤ℤ H j j → Making H cs (H j j) []
  started h =
      record {
        now = λ a k. absurd (omega arith);
        rest_is = rw (sum_zero (λ k. nth [] k *ℤ nth [] k)) (ring (H j j ∷ []) (search solver depth 40 fits 20000) refl);
        some = h;
      }

  pub column_step : H j j ≤ℤ (ρ *ℤ ρ) → T (next_column H cs).done → Done H (cs ++ ((next_column H cs).column ∷ []))
  column_step top =
      column_ind H cs (λ o. T o.done → Done H (cs ++ (o.column ∷ [])))
      (λ h. rows_ind H cs j (Making H cs) (λ c. Done H (cs ++ (c ∷ []))) row_step (column-end top) j (H j j) [] (omega arith) (started h)) (λ g t. absurd t)

-- ---- all columns
pub done : (n : ℕ) (H : Matrix) → ((j : ℕ) → j < n → H j j ≤ℤ (ρ *ℤ ρ)) → T (factoring n H).ends → Done H (factoring n H).columns
unfolding factoring
done n H top =
    columns_ind H n (Done H) (λ cs h d t. column_step H cs d (top (length cs) h) t) n [] (omega arith)
    (record { lengths = λ l k. absurd (omega arith); off = λ a b k l. absurd (omega arith); on = λ b k. absurd (omega arith) })

pub columns-length : (H : Matrix) (k : ℕ) (cs : List (List ℤ)) → T (columns_from H k cs).ends → length (columns_from H k cs).columns ≡ length cs + k
unfolding columns_from
columns-length H zero cs t = omega arith
columns-length H (suc k) cs t =
    columns_by H k cs (λ o. T o.ends → length o.columns ≡ length cs + suc k)
    (λ g t. columns-length H k _ t ∙ omega (arith, length_snoc cs (next_column H cs).column)) (λ g t. absurd t) t

pub all-columns : (n : ℕ) (H : Matrix) → T (factoring n H).ends → length (factoring n H).columns ≡ n
unfolding factoring
all-columns n H t = columns-length H n [] t ∙ omega arith

below-diagonal : (cs : List (List ℤ)) (i j : ℕ) → j < i → length (get_or cs j []) ≡ suc j → entries cs i j ≡ pos 0
unfolding entries
below-diagonal cs i j h e = nth_past (get_or cs j []) i (omega arith)

pub columns-factored : (n : ℕ) (H : Matrix) → ((j : ℕ) → j < n → H j j ≤ℤ (ρ *ℤ ρ)) → T (factoring n H).ends → Factored n H (entries (factoring n H).columns)
columns-factored n H top t =
    let d = done n H top t in
    let e = all-columns n H t in
    record {
      off = λ i j h k. d.off i j h (omega arith);
      on = λ j h. d.on j (omega arith);
      below = λ i j h k. below-diagonal _ i j h (d.lengths j (omega arith));
    }
