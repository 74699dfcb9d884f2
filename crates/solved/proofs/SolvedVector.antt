-- What a solved vector is: n entries within a vector's range, with s at the stopping column.
use mathlib.Core.Path.{◌≡◌, sym, ap, ◌∙◌}
use mathlib.Core.Bool.{true, false, false≢true}
use mathlib.Core.Logic.{by_cases}
use mathlib.Core.List.{List, [], ◌∷◌}
use Prim.Native.Nat.{ℕ, zero, suc, ◌+◌, ◌-◌, ◌≤◌, ◌<◌}
use native.Mathlib.Omega.{arith}
use native.Mathlib.Decide.{dec_lt}
use lib.IntN.{ℤ}
use lib.ListN.{length}
use borrow.Table.Steps.{cases}
use Rattle.integers.specs.Numbers.{Within}
use Rattle.integers.specs.Sum.{only}
use Rattle.integers.proofs.Machine.{within_more}
use Rattle.integers.proofs.Sums.{only_by}
use Rattle.tables.specs.Ranges.{vector_range}
use Rattle.tables.specs.Matrix.{Matrix, nth, tabulate}
use Rattle.tables.specs.Checks.{within}
use Rattle.tables.proofs.Matrix.{length-tabulate, nth-tabulate}
use Rattle.tables.proofs.Checks.{within_of}
use Rattle.cholesky.specs.Factoring.{Factoring}
use Rattle.cholesky.proofs.Store.{length-column_of}
use Rattle.solved.specs.Solved.{stopped_factor, solved_entry, solved_rows, solved}
use Rattle.solved.specs.Stopped.{stopped_at, Stopped, start_range}
use Rattle.solved.proofs.Solving.{rows_on, rows_none}

-- v has i entries more than xs, in front
record Prolongs (i : ℕ) (xs v : List ℤ) : Type 0 where
  size : length v ≡ i + length xs
  kept : (k : ℕ) → nth v (i + k) ≡ nth xs k
  small : (k : ℕ) → k < i → Within vector_range (nth v k)

one_only : {xs v : List ℤ} → ◌≡◌ {A = List (List ℤ)} (xs ∷ []) (v ∷ []) → xs ≡ v
one_only e = cc e

not_none : {v : List ℤ} → ◌≡◌ {A = List (List ℤ)} [] (v ∷ []) → ⊥
not_none e = let q : false ≡ true = cc e in false≢true q

prolongs_none : {xs v : List ℤ} → xs ≡ v → Prolongs 0 xs v
prolongs_none e =
    rw e
    (record { size = omega arith; kept = λ k. let f : 0 + k ≡ k = omega arith in rw f; small = λ k h. absurd (omega arith) })

prolongs_more : {i : ℕ} {x : ℤ} {xs v : List ℤ} → Within vector_range x → Prolongs i (x ∷ xs) v → Prolongs (suc i) xs v
prolongs_more {i} {x} {xs} {v} w p =
    record {
      size = let s = p.size in omega arith;
      kept = λ k. let e : suc i + k ≡ i + suc k = omega arith in rw e (p.kept (suc k));
      small = λ k h. by_cases (dec_lt k i) (p.small k) (λ l. let e : k ≡ i + 0 = omega arith in rw (e, p.kept 0) w);
    }

prolongs : (R : Matrix) (i : ℕ) (xs v : List ℤ) → solved_rows R i xs ≡ v ∷ [] → Prolongs i xs v
unfolding solved_rows
prolongs R zero xs v e = prolongs_none (one_only e)
prolongs R (suc i) xs v e =
    cases (within vector_range (solved_entry R i xs))
    (λ q.
    prolongs_more (within_of vector_range (solved_entry R i xs) q)
    (prolongs R i (solved_entry R i xs ∷ xs) v (sym (rows_on R i xs q) ∙ e)))
    (λ q. absurd (not_none (sym (rows_none R i xs q) ∙ e)))

-- ---- a vector of order n
pub record IsVector (n : ℕ) (v : List ℤ) : Type 0 where
  pub size : length v ≡ n
  pub small : (k : ℕ) → k < n → Within vector_range (nth v k)

-- the entries from m on
abbrev last : ℕ → Factoring → ℤ → List ℤ
last n f s = let m : ℕ = length f.stopped in tabulate (n - m) (λ k. only (m + k) (length f.columns) s)

module _ (n : ℕ) (f : Factoring) (s : ℤ) {v : List ℤ} (e : solved n f s ≡ v ∷ []) where
  whole : Prolongs (length f.stopped) (last n f s) v
  unfolding solved
  whole = prolongs (stopped_factor f) (length f.stopped) (last n f s) v e

  kept_at : (k : ℕ) → length f.stopped ≤ k → k < n → nth v k ≡ only k (length f.columns) s
  kept_at k h l =
      let m = length f.stopped in
      let p : k ≡ m + (k - m) = omega arith in
      ap (nth v) p ∙ whole.kept (k - m) ∙ nth-tabulate (n - m) _ (k - m) (omega arith) ∙ ap (λ (i : ℕ). only i (length f.columns) s) (sym p)

  -- n entries, each within ±2^15
  pub solved-vector : Within start_range s → length f.stopped ≤ n → IsVector n v
  solved-vector w h =
      let m = length f.stopped in
      record {
        size = whole.size ∙ rw (length-tabulate (n - m) (λ k. only (m + k) (length f.columns) s)) (omega arith);
        small = λ k l.
            by_cases (dec_lt k m) (whole.small k)
            (λ q. rw (kept_at k (omega arith) l)
            (only_by k (length f.columns) s (Within vector_range) (λ d. within_more (omega arith) w) (λ d. record { size = omega arith })));
      }

-- ---- the same, of a factoring's table
module _ {n : ℕ} {t : List ℤ} {j m : ℕ} (a : Stopped n t j m) (s : ℤ) {v : List ℤ} (e : solved n (stopped_at t j m) s ≡ v ∷ []) where
  pub stopped-vector : Within start_range s → IsVector n v
  unfolding stopped_at
  stopped-vector w = solved-vector n (stopped_at t j m) s e w (omega (arith, length-column_of t j m, a.rows, a.inside))
