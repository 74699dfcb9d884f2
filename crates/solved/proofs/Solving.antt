-- The walk of the code through the rows, from the last one back: what holds before each, and how the vector comes out.
use mathlib.Core.Path.{◌≡◌, refl, sym, ap, ap₂, ◌∙◌}
use mathlib.Core.Bool.{Bool, true, false}
use mathlib.Core.Logic.{by_cases}
use mathlib.Core.List.{List, [], ◌∷◌, ◌++◌}
use Prim.Native.Nat.{ℕ, zero, suc, ◌+◌, ◌-◌, ◌≤◌, ◌<◌}
use native.Mathlib.Omega.{arith}
use native.Mathlib.Decide.{ℕ_discrete}
use lib.IntN.{ℤ, pos, neg_ℤ, ◌+ℤ◌, ◌*ℤ◌, zero-*ℤ}
use lib.ListN.{length, set, replicate, length-set, length-replicate}
use lib.Seq.{get_or-set_same, get_or-set_other}
use Rattle.std.proofs.lemmas.List.{get_or-replicate}
use Rattle.std.specs.Prelude.{Some, None}
use Rattle.integers.specs.Numbers.{Within}
use Rattle.integers.specs.Sum.{sum, only}
use Rattle.integers.specs.Division.{floor_div}
use Rattle.integers.proofs.Sums.{sum_ext, sum_prefix, only_by, only_same, only_other}
use Rattle.tables.specs.Ranges.{greatest_order, vector_range}
use Rattle.tables.specs.Matrix.{Matrix, nth, tabulate}
use Rattle.tables.specs.Checks.{within}
use Rattle.tables.proofs.Matrix.{length-tabulate, nth-tabulate, tabulate_ext}
use Rattle.tables.proofs.Checks.{within_of}
use Rattle.cholesky.proofs.Store.{length-column_of, length-columns_of}
use Rattle.solved.specs.Solved.{solved_entry, solved_rows, solved}
use Rattle.solved.specs.Stopped.{stopped_at, Stopped, start_range, Ready, row_sum, entry_of, solved_of}
use Rattle.solved.proofs.StoppedFactor.{factor, factor-at, factor_past}

-- ---- the start: s at j, and 0 elsewhere
abbrev pub start_of : ℕ → ℤ → List ℤ
start_of j s = set (replicate greatest_order (pos 0)) j s

start_size : (j : ℕ) (s : ℤ) → length (start_of j s) ≡ greatest_order
start_size j s = length-set (replicate greatest_order (pos 0)) j s ∙ length-replicate greatest_order (pos 0)

start_entries : (j : ℕ) (s : ℤ) → j < greatest_order → (k : ℕ) → k < greatest_order → nth (start_of j s) k ≡ only k j s
start_entries j s h k l =
    let x = replicate greatest_order (pos 0) in
    only_by k j s (λ z. nth (start_of j s) k ≡ z) (λ e. rw e (get_or-set_same x j s (pos 0) h))
    (λ d. get_or-set_other x j k s (pos 0) d ∙ get_or-replicate greatest_order k (pos 0) (pos 0) l)

-- ---- one row
module _ (R : Matrix) (i : ℕ) (xs : List ℤ) where
  chosen : Bool → List (List ℤ)
  chosen b = elim b [ true ↦ solved_rows R i (solved_entry R i xs ∷ xs) | false ↦ [] ]

  pub rows_on : within vector_range (solved_entry R i xs) ≡ true → solved_rows R (suc i) xs ≡ solved_rows R i (solved_entry R i xs ∷ xs)
  unfolding solved_rows chosen
  rows_on e = ap chosen e

  pub rows_none : within vector_range (solved_entry R i xs) ≡ false → solved_rows R (suc i) xs ≡ []
  unfolding solved_rows chosen
  rows_none e = ap chosen e

-- ---- the entries from i on
abbrev pub from : ℕ → List ℤ → ℕ → List ℤ
from n x i = tabulate (n - i) (λ k. nth x (i + k))

tabulate_cons : (n : ℕ) (f : ℕ → ℤ) → tabulate (suc n) f ≡ f 0 ∷ tabulate n (λ k. f (suc k))
unfolding tabulate
tabulate_cons zero f = refl
tabulate_cons (suc n) f = ap (λ (s : List ℤ). s ++ (f (suc n) ∷ [])) (tabulate_cons n f)

-- the entry of row i, put in front of those after it
from_more : (n : ℕ) (x : List ℤ) (i : ℕ) (v : ℤ) → i < n → i < length x → v ∷ from n x (suc i) ≡ from n (set x i v) i
from_more n x i v h l =
    let e : n - i ≡ suc (n - suc i) = omega arith in
    rw e (ap₂ (λ (y : ℤ) (ys : List ℤ). y ∷ ys)
    (sym (get_or-set_same x i v (pos 0) l) ∙ ap (nth (set x i v)) (omega arith))
    (tabulate_ext (n - suc i) _ _
    (λ k q. sym (get_or-set_other x i (suc i + k) v (pos 0) (omega arith)) ∙ ap (nth (set x i v)) (omega arith)))
    ∙ sym (tabulate_cons (n - suc i) (λ k. nth (set x i v) (i + k))))

-- ---- before the rows from i - 1 down
pub record Solving (n : ℕ) (t : List ℤ) (j m : ℕ) (s : ℤ) (x : List ℤ) (i : ℕ) : Type 0 where
  pub size : length x ≡ greatest_order
  pub small : (k : ℕ) → i ≤ k → k < j → Within vector_range (nth x k)
  pub start : Within start_range (nth x j)
  pub here : solved n (stopped_at t j m) s ≡ solved_rows (factor t j m) i (from n x i)

module _ {n : ℕ} {t : List ℤ} {j m : ℕ} (a : Stopped n t j m) where
  -- before the first row
  begun : (s : ℤ) → solved n (stopped_at t j m) s ≡ solved_rows (factor t j m) m (from n (start_of j s) m)
  unfolding solved stopped_at
  begun s =
      let p = a.inside in
      let o = a.order in
      rw (length-column_of t j m, length-columns_of t j)
      (ap (solved_rows (factor t j m) m)
      (tabulate_ext (n - m) _ _ (λ k l. sym (start_entries j s (omega arith) (m + k) (omega arith)))))

  pub solving_start : {s : ℤ} → Within start_range s → Solving n t j m s (start_of j s) m
  solving_start {s} w =
      let p = a.inside in
      let o = a.order in
      record {
        size = start_size j s;
        small = λ k h l.
            rw (start_entries j s (omega arith) k (omega arith), only_other k j s (omega arith)) (record { size = omega arith });
        start = rw (start_entries j s (omega arith) j (omega arith), only_same j s) w;
        here = begun s;
      }

  -- T, and the entry, as the code has them
  module _ (x : List ℤ) (i : ℕ) (h : i < m) where
    sum_is : sum (length (from n x (suc i))) (λ k. factor t j m i (suc i + k) *ℤ nth (from n x (suc i)) k) ≡ row_sum t x i (suc j)
    unfolding row_sum
    sum_is =
        let p = a.inside in
        let q = a.rows in
        rw (length-tabulate (n - suc i) (λ k. nth x (suc i + k)))
        (sum_prefix (n - suc i) (suc j - suc i) _ (omega arith)
        (λ k u v.
        ap (λ (z : ℤ). z *ℤ nth (from n x (suc i)) k) (factor_past t j m i (suc i + k) (omega arith))
        ∙ zero-*ℤ (nth (from n x (suc i)) k))
        ∙ sum_ext (suc j - suc i) _ _
        (λ k u.
        ap₂ (λ (y z : ℤ). y *ℤ z) (factor-at t j m i (suc i + k) h (omega arith) (omega arith))
        (nth-tabulate (n - suc i) _ k (omega arith))))

    pub entry_is : solved_entry (factor t j m) i (from n x (suc i)) ≡ entry_of t x i j
    unfolding solved_entry entry_of
    entry_is =
        let q = a.rows in
        ap₂ (λ (z d : ℤ). neg_ℤ (floor_div (pos 2 *ℤ z +ℤ d) (pos 2 *ℤ d))) sum_is (factor-at t j m i i h (omega arith) (omega arith))

  module _ {s : ℤ} {x : List ℤ} {i : ℕ} (h : i < m) (w : Solving n t j m s x (suc i)) where
    pub solving_ready : Ready t x i j
    solving_ready =
        let p = a.inside in
        let q = a.order in
        let r = a.rows in
        record {
          inside = omega arith;
          before = omega arith;
          diagonal = a.diagonal i (omega arith);
          row = λ k u v. (a.columns k v).small i (omega arith);
          last = a.last i h;
          entries = λ k u v. w.small k (omega arith) v;
          start = w.start;
        }

    -- the entry is a vector's
    pub solving_row : within vector_range (entry_of t x i j) ≡ true → Solving n t j m s (set x i (entry_of t x i j)) i
    solving_row e =
        let p = a.inside in
        let q = a.order in
        let r = a.rows in
        let z = w.size in
        record {
          size = length-set x i (entry_of t x i j) ∙ w.size;
          small = λ k u v.
              by_cases (ℕ_discrete k i)
              (λ f. rw (f, get_or-set_same x i (entry_of t x i j) (pos 0) (omega arith)) (within_of vector_range _ e))
              (λ d. rw (get_or-set_other x i k (entry_of t x i j) (pos 0) (omega arith)) (w.small k (omega arith) v));
          start = rw (get_or-set_other x i j (entry_of t x i j) (pos 0) (omega arith)) w.start;
          here = w.here ∙ rows_on (factor t j m) i (from n x (suc i)) (rw (entry_is x i h) e)
              ∙ ap (solved_rows (factor t j m) i) (rw (entry_is x i h) (from_more n x i (entry_of t x i j) (omega arith) (omega arith)));
        }

    -- it passes the range
    pub solving_none : within vector_range (entry_of t x i j) ≡ false → solved_of n None ≡ solved n (stopped_at t j m) s
    unfolding solved_of
    solving_none e = sym (w.here ∙ rows_none (factor t j m) i (from n x (suc i)) (rw (entry_is x i h) e))

  pub solving_end : {s : ℤ} {x : List ℤ} → Solving n t j m s x 0 → solved_of n (Some x) ≡ solved n (stopped_at t j m) s
  unfolding solved_rows solved_of
  solving_end {x = x} w =
      let e : n - 0 ≡ n = omega arith in
      sym
      (w.here ∙ rw e (ap (λ (v : List ℤ). v ∷ []) (tabulate_ext n _ _ (λ k l. let f : 0 + k ≡ k = omega arith in rw f))))
