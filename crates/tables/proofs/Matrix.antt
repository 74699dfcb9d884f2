-- Laws of tables: what is read from a table is what was written, and zeros behind a list change no entry.
use mathlib.Core.Path.{◌≡◌, refl, sym, ap, ap₂, ◌∙◌, fun_ext}
use mathlib.Core.List.{List, [], ◌∷◌, ◌++◌}
use Prim.Native.Nat.{ℕ, zero, suc, ◌+◌, ◌*◌, ◌/◌, ◌%◌, ◌≤◌, ◌<◌}
use native.Mathlib.Omega.{arith}
use native.Mathlib.Decide.{ℕ_discrete}
use native.Mathlib.Numerals.{add-one}
use native.Mathlib.Nat.{mul-le-mul, mul-le-mul_right, mod-lt, div-lt_iff_lt-mul, div-add-mod', mul-add-div_right, mul-add-mod_self_right, div-eq_of_lt, mod-eq_of_lt}
use lib.IntN.{ℤ, pos}
use lib.ListN.{length, get_or, replicate, length-append, get_or-append}
use lib.Seq.{get_or_at}
use Rattle.tables.specs.Ranges.{greatest_order, table_room}
use Rattle.tables.specs.Matrix.{Matrix, nth, at, tabulate, table}

-- ---- where entry (i, j) stands, and which entry stands at k
pub inside : {i j n : ℕ} → i < n → j < n → i * n + j < n * n
inside {i} {j} {n} h k = omega (arith, mul-le-mul_right {m = suc i} n h)

pub table_fits : {n : ℕ} → n ≤ greatest_order → n * n ≤ table_room
table_fits h = omega (arith, mul-le-mul h h)

positive : {n k : ℕ} → k < n * n → 0 < n
positive {n = zero} h = omega arith
positive {n = suc n} h = omega arith

module _ (n k : ℕ) where
  pub row_inside : k < n * n → k / n < n
  row_inside h = (div-lt_iff_lt-mul (positive h)).1 h

  pub column_inside : k < n * n → k % n < n
  column_inside h = mod-lt k (positive h)

  pub nth-at : (t : List ℤ) → nth t k ≡ at n t (k / n) (k % n)
  unfolding at
  nth-at t = rw div-add-mod'

-- a place belongs to one entry
module _ {n : ℕ} (i j : ℕ) (h : j < n) where
  row_of : (i * n + j) / n ≡ i
  row_of = mul-add-div_right (omega arith) i j ∙ rw (div-eq_of_lt h) (omega arith)

  column_of_lem : (i * n + j) % n ≡ j
  column_of_lem = mul-add-mod_self_right i n j ∙ mod-eq_of_lt h

module _ {n : ℕ} (i j a b : ℕ) (h : j < n) (k : b < n) (e : a * n + b ≡ i * n + j) where
  pub same_row : a ≡ i
  same_row = sym (row_of a b k) ∙ ap (λ (m : ℕ). m / n) e ∙ row_of i j h

  pub same_column : b ≡ j
  same_column = sym (column_of_lem a b k) ∙ ap (λ (m : ℕ). m % n) e ∙ column_of_lem i j h

-- ---- f 0, .., f (n - 1)
module _ {A : Type 0} where
  pub length-tabulate : (n : ℕ) (f : ℕ → A) → length (tabulate n f) ≡ n
  unfolding tabulate
  length-tabulate zero f = refl
  length-tabulate (suc n) f = length-append (tabulate n f) (f n ∷ []) ∙ rw (length-tabulate n f) (add-one n)

  pub get_d_tabulate : (n : ℕ) (f : ℕ → A) (d : A) (k : ℕ) → k < n → get_or (tabulate n f) k d ≡ f k
  unfolding tabulate
  get_d_tabulate zero f d k h = absurd (omega arith)
  get_d_tabulate (suc n) f d k h = go (ℕ_discrete k n) (get_d_tabulate n f d k)
    where
      go : Dec (k ≡ n) → (k < n → get_or (tabulate n f) k d ≡ f k) → get_or (tabulate (suc n) f) k d ≡ f k
      go (yes e) ih = rw e (get_or_at (tabulate n f) (f n) [] d n (length-tabulate n f))
      go (no e) ih = get_or-append (tabulate n f) _ d k (omega (arith, length-tabulate n f)) ∙ ih (omega arith)

  pub tabulate_suc : (n : ℕ) (f : ℕ → A) → tabulate (suc n) f ≡ tabulate n f ++ (f n ∷ [])
  unfolding tabulate
  tabulate_suc n f = refl

  pub tabulate_ext : (n : ℕ) (f g : ℕ → A) → ((k : ℕ) → k < n → f k ≡ g k) → tabulate n f ≡ tabulate n g
  unfolding tabulate
  tabulate_ext zero f g h = refl
  tabulate_ext (suc n) f g h = ap₂ (λ (s : List A) (x : A). s ++ (x ∷ [])) (tabulate_ext n f g (λ k l. h k (omega arith))) (h n (omega arith))

pub nth-tabulate : (n : ℕ) (f : ℕ → ℤ) (k : ℕ) → k < n → nth (tabulate n f) k ≡ f k
nth-tabulate n f k h = get_d_tabulate n f (pos 0) k h

-- ---- the table of a matrix
pub length-table : (n : ℕ) (M : Matrix) → length (table n M) ≡ n * n
unfolding table
length-table n M = length-tabulate (n * n) _

pub at_table : (n : ℕ) (M : Matrix) (i j : ℕ) → i < n → j < n → at n (table n M) i j ≡ M i j
unfolding at table
at_table n M i j h k =
    nth-tabulate (n * n) _ (i * n + j) (inside h k)
    ∙ ap₂ M (row_of i j k) (column_of_lem i j k)

-- ---- zeros behind a list
nth-zeros : (m k : ℕ) → nth (replicate m (pos 0)) k ≡ pos 0
nth-zeros zero k = refl
nth-zeros (suc m) zero = refl
nth-zeros (suc m) (suc k) = nth-zeros m k

nth-padded-at : (x : List ℤ) (m k : ℕ) → nth (x ++ replicate m (pos 0)) k ≡ nth x k
nth-padded-at [] m k = nth-zeros m k
nth-padded-at (a ∷ x) m zero = refl
nth-padded-at (a ∷ x) m (suc k) = nth-padded-at x m k

pub nth-padded : (x : List ℤ) (m : ℕ) → nth (x ++ replicate m (pos 0)) ≡ nth x
nth-padded x m = fun_ext (nth-padded-at x m)

pub at-padded : (n : ℕ) (x : List ℤ) (m : ℕ) → at n (x ++ replicate m (pos 0)) ≡ at n x
unfolding at
at-padded n x m = fun_ext (λ i. fun_ext (λ j. nth-padded-at x m (i * n + j)))
