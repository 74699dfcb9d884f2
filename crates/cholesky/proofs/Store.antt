-- The table in which the code keeps an upper triangular matrix: what stands in it, and what a store changes.
use mathlib.Core.Path.{◌≡◌, refl, ap, ◌∙◌}
use mathlib.Core.Logic.{◌≢◌}
use mathlib.Core.Bool.{Bool, true, false}
use mathlib.Core.List.{List, [], ◌∷◌, ◌++◌}
use Prim.Native.Nat.{ℕ, suc, ◌+◌, ◌*◌, ◌≤◌, ◌<◌}
use native.Mathlib.Omega.{arith}
use borrow.Author.Tests.{le-leb, lt-leb}
use lib.IntN.{ℤ, pos}
use lib.ListN.{length, set}
use lib.Seq.{get_or-set_same, get_or-set_other}
use Rattle.tables.specs.Matrix.{nth}
use Rattle.tables.proofs.Matrix.{length-tabulate, get_d_tabulate, nth-tabulate, tabulate_suc, tabulate_ext}
use Rattle.cholesky.specs.Factoring.{Factoring, entries}
use Rattle.std.specs.Prelude.{is_ok}
use Rattle.cholesky.specs.Store.{upper, triangle, column_of, columns_of, outcome_of, stride, Outcome, Ends, Stops}

-- ---- what is read
pub triangle_on : (t : List ℤ) (i j : ℕ) → i ≤ j → triangle t i j ≡ upper t i j
unfolding triangle
triangle_on t i j h = ap (λ (b : Bool). elim b as (λ z. ℤ) [ true ↦ upper t i j | false ↦ pos 0 ]) (le-leb i j h)

pub triangle-below : (t : List ℤ) (i j : ℕ) → j < i → triangle t i j ≡ pos 0
unfolding triangle
triangle-below t i j h = ap (λ (b : Bool). elim b as (λ z. ℤ) [ true ↦ upper t i j | false ↦ pos 0 ]) (lt-leb i j h)

pub length-column_of : (t : List ℤ) (j m : ℕ) → length (column_of t j m) ≡ m
unfolding column_of
length-column_of t j m = length-tabulate m _

pub nth-column_of : (t : List ℤ) (j m k : ℕ) → k < m → nth (column_of t j m) k ≡ upper t k j
unfolding column_of
nth-column_of t j m k h = nth-tabulate m _ k h

pub length-columns_of : (t : List ℤ) (j : ℕ) → length (columns_of t j) ≡ j
unfolding columns_of
length-columns_of t j = length-tabulate j _

pub columns_of_suc : (t : List ℤ) (j : ℕ) → columns_of t (suc j) ≡ columns_of t j ++ (column_of t j (suc j) ∷ [])
unfolding columns_of
columns_of_suc t j = tabulate_suc j _

pub entries-columns_of : (t : List ℤ) (j k l : ℕ) → k ≤ l → l < j → entries (columns_of t j) k l ≡ upper t k l
unfolding entries columns_of
entries-columns_of t j k l h m = ap (λ (c : List ℤ). nth c k) (get_d_tabulate j _ [] l m) ∙ nth-column_of t l (suc l) k (omega arith)

pub column_of_suc : (t : List ℤ) (j m : ℕ) → column_of t j (suc m) ≡ column_of t j m ++ (upper t m j ∷ [])
unfolding column_of
column_of_suc t j m = tabulate_suc m _

pub columns_of_ext : (s t : List ℤ) (j : ℕ) → ((k l : ℕ) → k ≤ l → l < j → upper s k l ≡ upper t k l) → columns_of s j ≡ columns_of t j
unfolding columns_of column_of
columns_of_ext s t j f = tabulate_ext j _ _ (λ l h. tabulate_ext (suc l) _ _ (λ k m. f k l (omega arith) h))

-- ---- what a store changes
module _ (t : List ℤ) (i j : ℕ) (v : ℤ) where
  pub upper-same : stride * j + i < length t → upper (set t (stride * j + i) v) i j ≡ v
  unfolding upper
  upper-same h = get_or-set_same t (stride * j + i) v (pos 0) h

  pub upper_other : (k l : ℕ) → stride * l + k ≢ stride * j + i → upper (set t (stride * j + i) v) k l ≡ upper t k l
  unfolding upper
  upper_other k l h = get_or-set_other t (stride * j + i) (stride * l + k) v (pos 0) h

-- ---- the outcome tells whether factoring ended
pub outcome_ends : (f : Factoring) → is_ok (outcome_of f) ≡ f.ends
unfolding outcome_of
outcome_ends f = go f.ends
  where
    go : (b : Bool) → is_ok (elim b as (λ z. Outcome) [ true ↦ Ends | false ↦ Stops (length f.columns) (length f.stopped) ]) ≡ b
    go true = refl
    go false = refl
