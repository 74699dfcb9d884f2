-- R28.8 of docs/RULES.md: the run area of a run by its parts, what is laid over it, and that its bytes hold it whole.
use mathlib.Core.Path.{◌≡◌, refl, sym, ap, ◌∙◌, subst}
use mathlib.Core.Logic.{◌≢◌, by_cases}
use mathlib.Core.List.{List, ◌∷◌, ◌++◌, append_assoc}
use Prim.Native.Nat.{ℕ, suc, ◌+◌, ◌*◌, ◌-◌, ◌/◌, ◌%◌, ◌^◌, ◌≤◌, ◌<◌}
use native.Mathlib.Omega.{arith}
use native.Mathlib.Decide.{dec_lt}
use lib.IntN.{ℤ, pos, nat_abs}
use lib.ListN.{length, take, drop, length-append, get_or-append}
use lib.Seq.{length-take-le, drop-append-le, take-append-add, take_at, drop_at, get_or-append-add, get_or-take, get_or-drop}
use mir.Syntax.{w64}
use mir.Val.{SFits}
use Rattle.integers.proofs.Machine.{fits_within}
use Rattle.words.proofs.Laws.{AllFit}
use Rattle.words.proofs.Lists.{drop_past}
use Rattle.tables.specs.Ranges.{greatest_order, table_room, entry_range}
use Rattle.tables.specs.Matrix.{nth, at}
use Rattle.tables.specs.Bounds.{Bounds}
use Rattle.tables.specs.Mending.{mended_low, mended_high}
use Rattle.tables.specs.Checks.{first_refusal, table_checks}
use Rattle.std.specs.Prelude.{Ok}
use Rattle.tables.proofs.Checks.{passed-bounds}
use Rattle.tables.proofs.Buffers.{filled-whole}
use Rattle.tables.proofs.Matrix.{table_fits, nth-at, row_inside, column_inside}
use Rattle.tables.proofs.Admission.{zeros, padded-nth, laid-zeros, over_room}
use Rattle.cholesky.specs.Store.{stride, upper, column_of}
use Rattle.cholesky.proofs.Lists.{nth_past}
use Rattle.bus.specs.Area.{low_at, high_at, columns_at, area_of, area_bytes, table_at, columns_to, laid_over, laid_column}
use Rattle.bus.proofs.Areas.{more_fit, append_fit, length-laid, area-read}

-- ---- lists of numbers that fit
pub fits_small : {m : ℕ} → m < 2 ^ 63 → SFits w64 (pos m)
fits_small {m} h = fits_within (record { size = omega arith }) h

pub fits_list : {x : List ℤ} → ((i : ℕ) → i < length x → SFits w64 (nth x i)) → AllFit w64 x
fits_list {x} f = record {
  each = λ i. by_cases (dec_lt i (length x)) (f i) (λ h. rw (nth_past x i (omega arith)) (fits_small (omega arith)));
}

-- ---- numbers laid over others
module _ (t : List ℤ) (f : ℕ) (c : List ℤ) (h : f + length c ≤ length t) where
  laid-before : (k : ℕ) → k < f → nth (laid_over t f c) k ≡ nth t k
  unfolding laid_over
  laid-before k l = get_or-append (take f t) _ (pos 0) k (omega (arith, length-take-le f t (omega arith))) ∙ get_or-take f t k (pos 0) l

  laid-here : (k : ℕ) → k < length c → nth (laid_over t f c) (f + k) ≡ nth c k
  unfolding laid_over
  laid-here k l =
      ap (λ (m : ℕ). nth (take f t ++ (c ++ drop (f + length c) t)) (m + k)) (sym (length-take-le f t (omega arith)))
      ∙ get_or-append-add (take f t) (c ++ drop (f + length c) t) k (pos 0) ∙ get_or-append c _ (pos 0) k l

  laid-after : (k : ℕ) → f + length c ≤ k → nth (laid_over t f c) k ≡ nth t k
  unfolding laid_over
  laid-after k l =
      let p : k ≡ length (take f t) + (length c + (k - (f + length c))) = omega (arith, length-take-le f t (omega arith)) in
      let q : f + length c + (k - (f + length c)) ≡ k = omega arith in
      ap (nth (take f t ++ (c ++ drop (f + length c) t))) p ∙ get_or-append-add (take f t) _ _ (pos 0) ∙ get_or-append-add c _ _ (pos 0)
      ∙ get_or-drop (f + length c) t (k - (f + length c)) (pos 0) ∙ ap (nth t) q

-- past a front of m numbers
laid_past : (h t c : List ℤ) (m f : ℕ) → length h ≡ m → laid_over (h ++ t) (m + f) c ≡ h ++ laid_over t f c
unfolding laid_over
laid_past h t c m f e =
    let a : m + f + length c ≡ m + (f + length c) = omega arith in
    rw (a, drop_past h t m (f + length c) e, ← e, take-append-add h t f, append_assoc h)

-- at the front of a part
pub laid-part : (h a b c : List ℤ) (m : ℕ) → length h ≡ m → length c ≤ length a →
    laid_over (h ++ (a ++ b)) m c ≡ h ++ ((c ++ drop (length c) a) ++ b)
unfolding laid_over
laid-part h a b c m e p = rw (take_at h (a ++ b) m e, drop_past h (a ++ b) m (length c) e, drop-append-le (length c) a b p, append_assoc c)

-- ---- a column laid over a table
module _ (t : List ℤ) (j : ℕ) (c : List ℤ) (size : length t ≡ table_room) (inside : j < greatest_order)
    (short : length c ≤ greatest_order) where
  room : stride * j + length c ≤ length t
  room = omega arith

  pub upper-laid : (k : ℕ) → k < length c → upper (laid_over t (stride * j) c) k j ≡ nth c k
  unfolding upper
  upper-laid k h = laid-here t (stride * j) c room k h

  pub upper-kept : (k l : ℕ) → k < greatest_order → l ≢ j → upper (laid_over t (stride * j) c) k l ≡ upper t k l
  unfolding upper
  upper-kept k l h d =
      by_cases (dec_lt l j) (λ p. laid-before t (stride * j) c room (stride * l + k) (omega arith))
      (λ p. laid-after t (stride * j) c room (stride * l + k) (omega arith))

  pub table-laid : length (laid_over t (stride * j) c) ≡ table_room
  table-laid = length-laid t (stride * j) c room ∙ size

-- ---- the columns of a table
pub column_is : (t c : List ℤ) (j : ℕ) → ((k : ℕ) → k < length c → upper t k j ≡ nth c k) → column_of t j (length c) ≡ c
unfolding column_of
column_is t c j f = sym (filled-whole _ c (record { size = refl; entries = λ k h. sym (f k h) }))

-- those to column j stand in its front
pub upper-front : (t : List ℤ) (j k l : ℕ) → k < greatest_order → l ≤ j → upper (take (stride * suc j) t) k l ≡ upper t k l
unfolding upper
upper-front t j k l h p = get_or-take (stride * suc j) t (stride * l + k) (pos 0) (omega arith)

-- ---- the area of a run on the mended tables l and u of order n
pub record Tables (n : ℕ) (l u : List ℤ) : Type 0 where
  pub order : n ≤ greatest_order
  pub some : 0 < n
  pub low : length l ≡ n * n
  pub high : length u ≡ n * n
  pub low-mended : mended_low n l ≡ l
  pub high-mended : mended_high n u ≡ u
  pub checked : first_refusal (table_checks n l u) ≡ Ok tt

table_fit : {n : ℕ} {x : List ℤ} → length x ≡ n * n → ((i j : ℕ) → i < n → j < n → nat_abs (at n x i j) ≤ entry_range) → AllFit w64 x
table_fit {n} {x} e f =
    fits_list (λ i h.
    let p : i < n * n = omega arith in
    rw (nth-at n i x) (fits_within (record { size = f (i / n) (i % n) (row_inside n i p) (column_inside n i p) }) (omega arith)))

-- they are bounds, and their numbers fit
module _ {n : ℕ} {l u : List ℤ} (a : Tables n l u) where
  pub tables-bounds : Bounds n (at n l) (at n u)
  tables-bounds = rw (a.low-mended, a.high-mended) at (passed-bounds n l u a.checked)

  low_fits : AllFit w64 l
  low_fits = table_fit a.low tables-bounds.low_range

  high_fits : AllFit w64 u
  high_fits = table_fit a.high tables-bounds.high_range

-- a table with zeros behind it
unfoldable pub filled : List ℤ → List ℤ
filled x = x ++ drop (length x) (zeros table_room)

module _ (x : List ℤ) (h : length x ≤ table_room) where
  pub filled_room : length (filled x) ≡ table_room
  unfolding filled
  filled_room = over_room x {t = x ++ drop (length x) (zeros table_room)} refl h refl

  filled_fits : AllFit w64 x → AllFit w64 (filled x)
  unfolding filled
  filled_fits f = record { each = λ i. subst (λ (g : ℕ → ℤ). SFits w64 (g i)) (sym (padded-nth (laid-zeros table_room x h))) (f.each i) }

take-filled : (x y : List ℤ) (m : ℕ) → length x ≡ m → take m (filled x ++ y) ≡ x
unfolding filled
take-filled x y m e = rw (append_assoc x) (take_at x _ m e)

module _ (n : ℕ) (l u : List ℤ) where
  unfoldable pub front : ℕ → ℕ → List ℤ
  front j p = pos n ∷ pos j ∷ pos p ∷ (filled l ++ filled u)

  unfoldable pub area : ℕ → ℕ → List ℤ → List ℤ
  area j p t = front j p ++ t

  module _ (b : Tables n l u) where
    pub low-short : length l ≤ table_room
    low-short = omega (arith, b.low, table_fits b.order)

    pub high-short : length u ≤ table_room
    high-short = omega (arith, b.high, table_fits b.order)

    front_length : (j p : ℕ) → length (front j p) ≡ columns_at
    unfolding front
    front_length j p = omega (arith, length-append (filled l) (filled u), filled_room l low-short, filled_room u high-short)

    -- its parts
    pub area-low : (j p : ℕ) (t : List ℤ) → table_at n (area j p t) low_at ≡ l
    unfolding table_at area front
    area-low j p t = rw (append_assoc (filled l)) (take-filled l _ (n * n) b.low)

    pub area-high : (j p : ℕ) (t : List ℤ) → table_at n (area j p t) high_at ≡ u
    unfolding table_at area front
    area-high j p t =
        rw (append_assoc (filled l), drop_at (filled l) (filled u ++ t) table_room (filled_room l low-short))
        (take-filled u t (n * n) b.high)

    pub area-columns : (j p : ℕ) (t : List ℤ) (i : ℕ) → columns_to (area j p t) i ≡ take (stride * suc i) t
    unfolding columns_to area
    area-columns j p t i = ap (take (stride * suc i)) (drop_at (front j p) t columns_at (front_length j p))

    pub area-laid : (j p : ℕ) (t : List ℤ) (i : ℕ) (c : List ℤ) → laid_column (area j p t) i c ≡ area j p (laid_over t (stride * i) c)
    unfolding laid_column area
    area-laid j p t i c = laid_past (front j p) t c columns_at (stride * i) (front_length j p)

    -- its bytes hold it
    front_fits : (j p : ℕ) → j < 2 ^ 63 → p < 2 ^ 63 → AllFit w64 (front j p)
    unfolding front
    front_fits j p h k =
        more_fit (fits_small (omega (arith, b.order)))
        (more_fit (fits_small h)
        (more_fit (fits_small k)
        (append_fit (filled l) (filled u) (filled_fits l low-short (low_fits b)) (filled_fits u high-short (high_fits b)))))

    pub area-kept : (j p : ℕ) (t : List ℤ) → j < 2 ^ 63 → p < 2 ^ 63 → length t ≡ table_room → AllFit w64 t →
        area_of (area_bytes (area j p t)) ≡ area j p t
    unfolding area
    area-kept j p t h k e f =
        area-read (record {
          spelled = refl;
          numbers = length-append (front j p) t ∙ omega (arith, front_length j p);
          fit = append_fit (front j p) t (front_fits j p h k) f;
        })
