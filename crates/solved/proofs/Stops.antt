-- Where factoring stops: the columns that were done are those of a factor, and the entries of the column that it stopped in are within
-- stop_range.
use mathlib.Core.Path.{◌≡◌, refl, sym, ap, subst}
use mathlib.Core.Bool.{Bool, true, false, not}
use mathlib.Core.Logic.{by_cases}
use mathlib.Core.List.{List, [], ◌∷◌, ◌++◌}
use Prim.Native.Nat.{ℕ, zero, suc, ◌+◌, ◌≤◌, ◌<◌}
use native.Mathlib.Omega.{arith}
use native.Mathlib.Decide.{dec_lt}
use lib.Dec.{T}
use lib.IntN.{ℤ, ◌*ℤ◌}
use lib.Signed.{◌≤ℤ◌, le_z_yes}
use lib.ListN.{length}
use Rattle.integers.specs.Numbers.{Within}
use Rattle.integers.proofs.Parts.{≤ℤ_trans}
use Rattle.integers.proofs.Machine.{within_more, within--, within-*, within-sum, within_floor, within_in}
use Rattle.tables.specs.Ranges.{greatest_order, factor_range}
use Rattle.tables.specs.Matrix.{Matrix, nth}
use Rattle.tables.specs.Bounds.{Bounds}
use Rattle.cholesky.specs.Scale.{scaled}
use Rattle.cholesky.specs.Factoring.{Factoring, entries, next_entry, rows, next_column, columns_from, factoring, factored}
use Rattle.std.specs.Prelude.{Err}
use Rattle.cholesky.specs.declared.factoring.Stop.{Stop as StopPlace}
use Rattle.cholesky.specs.Store.{upper, columns_of, outcome_of, Stored, Outcome, Ends, Stops}
use Rattle.cholesky.specs.Rows.{product_range}
use Rattle.cholesky.proofs.Factored.{ρ}
use Rattle.cholesky.proofs.Lists.{length_snoc, nth-before, nth_last}
use Rattle.cholesky.proofs.Loops.{passes, column_ind, columns_by, rows_by}
use Rattle.cholesky.proofs.Columns.{Done, column_step}
use Rattle.cholesky.proofs.Filling.{bounds_off, bounds_top}
use Rattle.cholesky.proofs.Store.{length-column_of, length-columns_of, entries-columns_of, nth-column_of}
use Rattle.solved.specs.Stopped.{stopped_at, stop_range, Stopped}

-- ---- lists within a bound
pub record AllWithin (b : ℕ) (c : List ℤ) : Type 0 where
  pub each : (k : ℕ) → k < length c → Within b (nth c k)

none_within : {b : ℕ} → AllWithin b []
none_within = record { each = λ k h. absurd (omega arith) }

one_more : {b : ℕ} {c : List ℤ} {x : ℤ} → AllWithin b c → Within b x → AllWithin b (c ++ (x ∷ []))
one_more {b} {c} {x} a w = record {
  each = λ k h.
      by_cases (dec_lt k (length c)) (λ l. rw (nth-before c x k l) (a.each k l))
      (λ l. let e : k ≡ length c = omega (arith, length_snoc c x) in rw (e, nth_last c x) w);
}

wider : {b b' : ℕ} {c : List ℤ} → b ≤ b' → AllWithin b c → AllWithin b' c
wider h a = record { each = λ k l. within_more h (a.each k l) }

-- ---- a column that it stops in, after the columns cs, and the whole factoring
pub record Cut (cs : List (List ℤ)) (c : List ℤ) : Type 0 where
  pub rows : length c ≤ length cs
  pub near : AllWithin stop_range c

pub record Stop (n : ℕ) (H : Matrix) (f : Factoring) : Type 0 where
  pub inside : length f.columns < n
  pub done : Done H f.columns
  pub cut : Cut f.columns f.stopped

module _ (n : ℕ) (H : Matrix) (o : n ≤ greatest_order) (off : (i j : ℕ) → i < j → j < n → Within product_range (H i j)) where
  module _ (cs : List (List ℤ)) (l : length cs < n) (d : Done H cs) where
    abbrev j : ℕ
    j = length cs

    -- H(i,j), less a product for each row before, divided
    entry-within : (c : List ℤ) → length c < j → AllWithin factor_range c → Within stop_range (next_entry H cs j c)
    unfolding next_entry
    entry-within c h a =
        within_floor (entries cs (length c) (length c))
        (within_more (omega arith)
        (within-- (off (length c) j h l)
        (within-sum (length c) product_range _
        (λ k p. within-* {x = entries cs k (length c)} (record { size = (d.off k (length c) p h).small }) (a.each k p)))))

    rows_cut : (k : ℕ) (rest : ℤ) (c : List ℤ) → length c + k ≡ j → AllWithin factor_range c →
        T (not (rows H cs j k rest c).done) → Cut cs (rows H cs j k rest c).column
    unfolding rows
    rows_cut zero rest c h a t = absurd t
    rows_cut (suc k) rest c h a t =
        let more = length_snoc c (next_entry H cs j c) in
        rows_by H cs j k rest c (λ q. T (not q.done) → Cut cs q.column)
        (λ g. rows_cut k _ _ (omega (arith, more)) (one_more a (record { size = (passes _ _ g).small })))
        (λ g t. record { rows = omega (arith, more); near = one_more (wider (omega arith) a) (entry-within c (omega arith) a) }) t

    column-cut : T (not (next_column H cs).done) → Cut cs (next_column H cs).column
    column-cut =
        column_ind H cs (λ q. T (not q.done) → Cut cs q.column) (λ h. rows_cut j (H j j) [] (omega arith) none_within)
        (λ g t. record { rows = omega arith; near = none_within })

  -- ---- all columns
  module _ (top : (j : ℕ) → j < n → H j j ≤ℤ (ρ *ℤ ρ)) where
    columns-cut : (k : ℕ) (cs : List (List ℤ)) → length cs + k ≡ n → Done H cs → T (not (columns_from H k cs).ends) →
        Stop n H (columns_from H k cs)
    unfolding columns_from
    columns-cut zero cs h d t = absurd t
    columns-cut (suc k) cs h d t =
        columns_by H k cs (λ q. T (not q.ends) → Stop n H q)
        (λ g.
        columns-cut k _ (omega (arith, length_snoc cs (next_column H cs).column))
        (column_step H cs d (top (length cs) (omega arith)) g))
        (λ g t. record { inside = omega arith; done = d; cut = column-cut cs (omega arith) d g }) t

    stop : T (not (factoring n H).ends) → Stop n H (factoring n H)
    unfolding factoring
    stop =
        columns-cut n [] (omega arith)
        (record { lengths = λ l k. absurd (omega arith); off = λ a b k l. absurd (omega arith); on = λ b k. absurd (omega arith) })

-- ---- where factoring of bounds does not end, it stops so
pub bounds_stop : {n : ℕ} {L U : Matrix} → Bounds n L U → n ≤ greatest_order → (factored n L U).ends ≡ false →
    Stop n (scaled n L U) (factored n L U)
bounds_stop {n} {L} {U} b o e =
    stop n (scaled n L U) o (bounds_off b o) (bounds_top b o) (subst (λ (q : Bool). T (not q)) (sym e) tt)

-- ---- the stop, by its table
record StoppedIn (f : Factoring) (j m : ℕ) : Type 0 where
  ends : f.ends ≡ false
  column : length f.columns ≡ j
  rows : length f.stopped ≡ m

one_stop : {s t : StopPlace} → ◌≡◌ {A = Outcome} (Err s) (Err t) → s ≡ t
one_stop e = cc e

stopped_in : (f : Factoring) (j m : ℕ) → Stops j m ≡ outcome_of f → StoppedIn f j m
unfolding outcome_of
stopped_in f j m e = go f.ends refl e
  where
    go : (b : Bool) → f.ends ≡ b →
        ◌≡◌ {A = Outcome} (Stops j m) (elim b [ true ↦ Ends | false ↦ Stops (length f.columns) (length f.stopped) ]) →
        StoppedIn f j m
    go true q e = record { ends = cc; column = cc; rows = cc }
    go false q e =
        let s = sym (one_stop e) in
        record { ends = q; column = ap (λ (s : StopPlace). s.column) s; rows = ap (λ (s : StopPlace). s.rows) s }

-- the factoring is the one of the table
pub stopped-at : {f : Factoring} {j m : ℕ} {t : List ℤ} → Stored f (Stops j m) t → f ≡ stopped_at t j m
unfolding stopped_at
stopped-at {f} {j} {m} {t} a =
    let s = stopped_in f j m a.outcome in
    rw (← s.column, ← s.rows, a.columns, a.stopped, ← s.ends) refl

-- the entries of the columns that were done
pub done-small : {H : Matrix} (t : List ℤ) (j : ℕ) → Done H (columns_of t j) → (i k : ℕ) → i ≤ k → k < j → Within factor_range (upper t i k)
done-small t j d i k h l =
    let inside : k < length (columns_of t j) = omega (arith, length-columns_of t j) in
    subst (Within factor_range) (entries-columns_of t j i k h l)
    (by_cases (dec_lt i k) (λ e. record { size = (d.off i k e inside).small })
    (λ e. let f : i ≡ k = omega arith in rw f (within_in (≤ℤ_trans (le_z_yes tt) (d.on k inside).one) (d.on k inside).top)))

table_ready : {n : ℕ} {H : Matrix} {t : List ℤ} {j m : ℕ} → n ≤ greatest_order → Stop n H (stopped_at t j m) → Stopped n t j m
unfolding stopped_at
table_ready {n} {H} {t} {j} {m} o s =
    let c = length-columns_of t j in
    let r = length-column_of t j m in
    record {
      order = o;
      inside = omega (arith, s.inside);
      rows = omega (arith, s.cut.rows);
      columns = λ l h. record { small = λ k p. done-small t j s.done k l (omega arith) h };
      diagonal = λ l h. rw (← entries-columns_of t j l l (omega arith) h) (s.done.on l (omega arith)).one;
      last = λ i h. rw (← nth-column_of t j m i h) (s.cut.near.each i (omega arith));
    }

-- the table of a factoring that stopped is as the code asks
pub stopped_ready : {n : ℕ} {L U : Matrix} {j m : ℕ} {t : List ℤ} → Bounds n L U → n ≤ greatest_order →
    Stored (factored n L U) (Stops j m) t → Stopped n t j m
stopped_ready {j = j} {m = m} b o a = table_ready o (rw (stopped-at a) at (bounds_stop b o (stopped_in _ j m a.outcome).ends))
