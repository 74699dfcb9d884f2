-- Laws of a buffer that is being filled: each store adds an entry, and a full buffer is a whole list; and a list of small numbers.
use mathlib.Core.Path.{◌≡◌, refl, sym, ap, ◌∙◌}
use mathlib.Core.List.{List, ◌++◌, append-nil}
use Prim.Native.Nat.{ℕ, suc, ◌≤◌, ◌<◌}
use native.Mathlib.Omega.{arith}
use native.Mathlib.Decide.{ℕ_discrete}
use lib.IntN.{ℤ, pos}
use lib.ListN.{length, set, take, drop, length-set, length-append, length-drop, drop_of_length-le}
use lib.Seq.{take_all, ext_get_or, get_or-set_same, get_or-set_other, get_or-take, length-take-le, take-suc, drop-cons, set_at, append_snoc}
use Rattle.integers.specs.Numbers.{Within}
use Rattle.tables.specs.Matrix.{nth, tabulate}
use Rattle.tables.specs.Buffers.{Filled}
use Rattle.tables.proofs.Matrix.{length-tabulate, nth-tabulate}

-- the numbers of a list, past its end too (where it reads 0), are within ±b
pub record Small (m b : ℕ) (x : List ℤ) : Type 0 where
  pub size : length x ≡ m
  pub small : (i : ℕ) → Within b (nth x i)

-- entry k of a list in which v was stored as entry m
pub entry_more : (x : List ℤ) (m : ℕ) (v : ℤ) (f : ℕ → ℤ) → m < length x → v ≡ f m → (k : ℕ) → k < suc m → (k < m → nth x k ≡ f k) → nth (set x m v) k ≡ f k
entry_more x m v f h e k l g = go (ℕ_discrete k m)
  where
    go : Dec (k ≡ m) → nth (set x m v) k ≡ f k
    go (yes q) = rw q (get_or-set_same x m v (pos 0) h ∙ e)
    go (no q) = get_or-set_other x m k v (pos 0) q ∙ g (omega arith)

module _ {s : ℕ} {f : ℕ → ℤ} {x : List ℤ} where
  pub filled_none : length x ≡ s → Filled s 0 f x
  filled_none h = record { size = h; entries = λ k l. absurd (omega arith) }

  pub filled_more : {m : ℕ} {v : ℤ} → m < s → v ≡ f m → Filled s m f x → Filled s (suc m) f (set x m v)
  filled_more {m} {v} h e w = record { size = length-set x m v ∙ w.size; entries = λ k l. entry_more x m v f (omega (arith, w.size)) e k l (w.entries k) }

-- a full buffer is the whole list
pub filled-whole : {n : ℕ} (f : ℕ → ℤ) (x : List ℤ) → Filled n n f x → x ≡ tabulate n f
filled-whole {n} f x w =
    ext_get_or (pos 0) x (tabulate n f) (w.size ∙ sym (length-tabulate n f))
    (λ k l. let m : k < n = omega (arith, l, w.size) in w.entries k m ∙ sym (nth-tabulate n f k m))

-- ---- a buffer o whose front is a copy of x
pub length-copied : (x o : List ℤ) (k : ℕ) → k ≤ length x → k ≤ length o → length (take k x ++ drop k o) ≡ length o
length-copied x o k h l = rw (length-append, length-take-le k x h, length-drop) (omega arith)

pub copied_more : (x o : List ℤ) (k : ℕ) → k < length x → k < length o → set (take k x ++ drop k o) k (nth x k) ≡ take (suc k) x ++ drop (suc k) o
copied_more x o k h l =
    rw (drop-cons o k (pos 0) l, take-suc x k (pos 0) h)
    (set_at (take k x) (nth o k) (drop (suc k) o) (nth x k) k (length-take-le k x (omega arith)) ∙ sym (append_snoc (take k x) (nth x k) (drop (suc k) o)))

-- the first entries of a list, by their places
pub front : {n : ℕ} (x : List ℤ) → n ≤ length x → take n x ≡ tabulate n (nth x)
front {n} x h =
    ext_get_or (pos 0) (take n x) (tabulate n (nth x)) (length-take-le n x h ∙ sym (length-tabulate n (nth x)))
    (λ k l. let m : k < n = omega (arith, l, length-take-le n x h) in get_or-take n x k (pos 0) m ∙ sym (nth-tabulate n (nth x) k m))

-- a buffer that is as long as what is stored in it: elements of the first numbers of x
pub stored-whole : {A : Type 0} (elements : List ℤ → ℕ → List A) {n m : ℕ} (x : List ℤ) (o : List A) → n ≤ length x → length o ≡ m →
    elements (take n x) n ++ drop m o ≡ elements (tabulate n (nth x)) n
stored-whole elements {n} {m} x o h e =
    let end : length o ≤ m = omega (arith, e) in rw (drop_of_length-le o end, append-nil) (ap (λ (y : List ℤ). elements y n) (front x h))

-- or these numbers themselves
pub copied-whole : {n : ℕ} (x o : List ℤ) → n ≤ length x → length o ≡ n → take n x ++ drop n o ≡ tabulate n (nth x)
copied-whole = stored-whole (λ x k. x)

-- and of the same length as what is copied
pub copied_all : {n : ℕ} (x o : List ℤ) → length x ≡ n → length o ≡ n → take n x ++ drop n o ≡ x
copied_all {n} x o e f = let end : length o ≤ n = omega (arith, f) in rw (take_all n x (omega (arith, e)), drop_of_length-le o end, append-nil) refl
