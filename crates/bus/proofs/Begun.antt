-- A start: the first n² numbers of the scratch tables, and the matrix H in the columns of the run area.
--
--   held_low, held_high   those numbers are the mended tables
--   front-fit             they fit 64 bits
--   begun-columns         H of those numbers is that of the scratch tables
--   begun_more            one column more of H is laid
use mathlib.Core.Path.{◌≡◌, refl, sym, ap, ap₂, ◌∙◌}
use mathlib.Core.Logic.{by_cases}
use mathlib.Core.List.{List}
use Prim.Native.Nat.{ℕ, zero, suc, ◌+◌, ◌*◌, ◌/◌, ◌%◌, ◌≤◌, ◌<◌}
use native.Mathlib.Decide.{ℕ_discrete}
use native.Mathlib.Omega.{arith}
use lib.IntN.{ℤ, pos, ◌-ℤ◌}
use lib.ListN.{length, take}
use lib.Seq.{take_all, ext_get_or, get_or-take, length-take-le}
use mir.Syntax.{w64}
use mir.Val.{SFits}
use Rattle.integers.specs.Numbers.{Within, min_ℤ, max_ℤ}
use Rattle.integers.proofs.Machine.{fits_within}
use Rattle.integers.proofs.Sums.{sum_ext}
use Rattle.words.proofs.Laws.{AllFit}
use Rattle.tables.specs.Ranges.{greatest_order, entry_range}
use Rattle.tables.specs.Matrix.{Matrix, at, tabulate, table, row_width}
use Rattle.tables.specs.Mending.{mended_low, mended_high}
use Rattle.tables.specs.Entering.{Held}
use Rattle.tables.proofs.Matrix.{inside, row_inside, column_inside, nth-at, nth-tabulate, length-tabulate, length-table, tabulate_ext}
use Rattle.tables.proofs.MendedTables.{mended-length}
use Rattle.cholesky.specs.Scale.{take_off, scaled_by, scaled}
use Rattle.cholesky.specs.Scaling.{Ranged, Scaled}
use Rattle.cholesky.specs.Store.{column_of}
use Rattle.cholesky.proofs.ScaledMatrix.{scaled_off, scaled_on}
use Rattle.cholesky.proofs.Filling.{doubled_fits, on_fits}
use Rattle.bus.specs.Area.{area_of, area_bytes, laid_column, laid_columns}
use Rattle.bus.proofs.Areas.{Area, area_column, tabulate_fit}

-- ---- the first n² numbers of a table
front-table : (n : ℕ) (t : List ℤ) → n * n ≤ length t → take (n * n) t ≡ table n (at n t)
unfolding table
front-table n t room =
    let size : length (take (n * n) t) ≡ n * n = length-take-le (n * n) t room in
    ext_get_or (pos 0) (take (n * n) t) (table n (at n t)) (size ∙ sym (length-table n (at n t)))
    (λ k l. let q : k < n * n = omega (arith, l, size) in
    get_or-take (n * n) t k (pos 0) q ∙ nth-at n k t ∙ sym (nth-tabulate (n * n) _ k q))

-- they are all of a table s of n² numbers that has the same entries
front_is : (n : ℕ) (t s : List ℤ) → n * n ≤ length t → length s ≡ n * n → at n t ≡ at n s → take (n * n) t ≡ s
front_is n t s room size e =
    let all : length s ≤ n * n = omega arith in
    front-table n t room ∙ ap (table n) e ∙ sym (front-table n s (omega arith)) ∙ take_all (n * n) s all

-- the mended tables, as the door leaves them
module _ {n : ℕ} {x y l u : List ℤ} (h : Held n x y l u) where
  pub held_low : length x ≡ n * n → take (n * n) l ≡ mended_low n x
  held_low e = front_is n l (mended_low n x) h.tables.low-length (mended-length max_ℤ n x (omega arith) ∙ e) h.low

  pub held_high : length y ≡ n * n → take (n * n) u ≡ mended_high n y
  held_high e = front_is n u (mended_high n y) h.tables.high-length (mended-length min_ℤ n y (omega arith) ∙ e) h.high

pub front_fit : (n : ℕ) (t : List ℤ) → n * n ≤ length t → ((i j : ℕ) → i < n → j < n → Within entry_range (at n t i j)) →
    AllFit w64 (take (n * n) t)
unfolding table
front_fit n t room w =
    rw (front-table n t room)
    (tabulate_fit (n * n) _ (λ k h. fits_within (w (k / n) (k % n) (row_inside n k h) (column_inside n k h)) (omega arith)))

at_front : (n : ℕ) (t : List ℤ) (i j : ℕ) → i < n → j < n → at n t i j ≡ at n (take (n * n) t) i j
unfolding at
at_front n t i j h k = sym (get_or-take (n * n) t (i * n + j) (pos 0) (inside h k))

-- ---- the entries of H fit 64 bits, and equal bounds give equal ones
scaled_fits : {n : ℕ} {L U : Matrix} → n ≤ greatest_order → Ranged n L U → (i j : ℕ) → i < n → j < n → SFits w64 (scaled n L U i j)
scaled_fits {n} {L} {U} o r i j h k =
    by_cases (ℕ_discrete i j) (λ e. rw (e, scaled_on (take_off n) n L U j) (on_fits o r k k))
    (λ d. rw (scaled_off (take_off n) n L U i j d) (doubled_fits o r h k))

module _ (n : ℕ) (L U K W : Matrix) (low : (i j : ℕ) → i < n → j < n → L i j ≡ K i j)
    (high : (i j : ℕ) → i < n → j < n → U i j ≡ W i j) where
  width_ext : (i : ℕ) → i < n → row_width n L U i ≡ row_width n K W i
  unfolding row_width
  width_ext i h = sum_ext n (λ j. U i j -ℤ L i j) (λ j. W i j -ℤ K i j) (λ j k. rw (low i j h k, high i j h k))

  scaled_ext : (i j : ℕ) → i < n → j < n → scaled n L U i j ≡ scaled n K W i j
  unfolding scaled_by
  scaled_ext i j h k = rw (low i j h k, high i j h k, width_ext i h)

-- ---- the columns of a run area
columns_ext : (H K : Matrix) (n : ℕ) (r : List ℤ) → ((i j : ℕ) → i ≤ j → j < n → H i j ≡ K i j) → laid_columns H n r ≡ laid_columns K n r
unfolding laid_columns
columns_ext H K zero r e = refl
columns_ext H K (suc k) r e =
    ap₂ (λ (x c : List ℤ). laid_column x k c) (columns_ext H K k r (λ i j h l. e i j h (omega arith)))
    (tabulate_ext (suc k) (λ i. H i k) (λ i. K i k) (λ i h. e i k (omega arith) (omega arith)))

pub begun-columns : (n : ℕ) (l u r : List ℤ) →
    laid_columns (scaled n (at n l) (at n u)) n r ≡ laid_columns (scaled n (at n (take (n * n) l)) (at n (take (n * n) u))) n r
begun-columns n l u r = columns_ext _ _ n r (λ i j h k. scaled_ext n _ _ _ _ (at_front n l) (at_front n u) i j (omega arith) k)

-- one column more, that of the table of H
pub begun_more : {n : ℕ} {L U : Matrix} {h : List ℤ} {s t : List ℕ} (r : List ℤ) (j : ℕ) → n ≤ greatest_order → Ranged n L U →
    Scaled n L U h n → j < n →
    Area s (laid_columns (scaled n L U) j r) → t ≡ area_bytes (laid_column (area_of s) j (column_of h j (suc j))) →
    Area t (laid_columns (scaled n L U) (suc j) r)
unfolding laid_columns column_of
begun_more {n} {L} {U} {h} {s} r j o g w k a e =
    let c : column_of h j (suc j) ≡ tabulate (suc j) (λ i. scaled n L U i j) =
    tabulate_ext (suc j) _ _ (λ i l. w.entries i j (omega arith) k) in
    area_column a j (tabulate (suc j) (λ i. scaled n L U i j)) (omega arith)
    (omega (arith, length-tabulate (suc j) (λ i. scaled n L U i j)))
    (tabulate_fit (suc j) _ (λ i l. scaled_fits o g i j (omega arith) k))
    (e ∙ ap (λ (x : List ℤ). area_bytes (laid_column (area_of s) j x)) c)
