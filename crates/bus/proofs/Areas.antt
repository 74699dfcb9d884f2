-- The run area: its bytes and its numbers spell each other, and what a store does to the one and to the other.
--
--   area_of       an area of any bytes            area-read      the numbers that are read back
--   area_set, area-laid, area-column              what a store of the module `area` leaves
--   area-blank    an area of zeros                area-bytes     its length in bytes
use mathlib.Core.Path.{◌≡◌, refl, sym, ap, subst, ◌∙◌}
use mathlib.Core.List.{List, [], ◌∷◌, ◌++◌, append_assoc, append-nil}
use Prim.Native.Nat.{ℕ, zero, suc, ◌+◌, ◌*◌, ◌≤◌, ◌<◌}
use native.Mathlib.Decide.{ℕ_discrete}
use native.Mathlib.Nat.{add-zero, mul-le-mul_right}
use native.Mathlib.Omega.{arith}
use lib.IntN.{ℤ, pos}
use lib.ListN.{length, take, drop, set, replicate, length-append, length-drop, length-set, length-replicate, take-append-drop}
use lib.ListN.{drop_of_length-le, replicate-append-replicate}
use lib.Seq.{take_all, take_at, set_at, length-take-le, take-append-le, drop-append-le, drop-cons, append_snoc, get_or-drop}
use lib.Seq.{get_or-set_same, get_or-set_other}
use mir.Syntax.{Width, w64}
use mir.Val.{bytes, SFits, of_z}
use Rattle.integers.proofs.Machine.{fits_literal}
use Rattle.words.specs.Numbers.{to_le_bytes, signed_at, with_unsigned, with_signed, numbers_of, bytes_of}
use Rattle.words.proofs.Laws.{AllBytes, AllFit, length-to_le_bytes, signed_at_fits, length-numbers_of, length-bytes_of}
use Rattle.words.proofs.Laws.{numbers_of-bytes_of, bytes_of-numbers_of}
use Rattle.words.proofs.Lists.{drop_past}
use Rattle.words.proofs.Sign.{narrow-of}
use Rattle.tables.specs.Ranges.{greatest_order}
use Rattle.tables.specs.Matrix.{nth, tabulate}
use Rattle.tables.proofs.Matrix.{nth-tabulate, nth-padded}
use Rattle.cholesky.specs.Store.{stride}
use Rattle.bus.specs.Area.{run_numbers, run_bytes, columns_at, area_of, area_bytes, blank_area, blank_bytes, laid_over, laid_column}

-- ---- lists of numbers of 64 bits
pub none_fit : AllFit w64 []
none_fit = record { each = λ i. fits_literal tt }

pub more_fit : {v : ℤ} {x : List ℤ} → SFits w64 v → AllFit w64 x → AllFit w64 (v ∷ x)
more_fit {v} {x} h a = record { each = go }
  where
    go : (i : ℕ) → SFits w64 (nth (v ∷ x) i)
    go zero = h
    go (suc i) = a.each i

rest_fit : {v : ℤ} {x : List ℤ} → AllFit w64 (v ∷ x) → AllFit w64 x
rest_fit a = record { each = λ i. a.each (suc i) }

pub append_fit : (x y : List ℤ) → AllFit w64 x → AllFit w64 y → AllFit w64 (x ++ y)
append_fit [] y a b = b
append_fit (v ∷ x) y a b = more_fit (a.each 0) (append_fit x y (rest_fit a) b)

pub take_fit : (k : ℕ) (x : List ℤ) → AllFit w64 x → AllFit w64 (take k x)
take_fit zero x a = none_fit
take_fit (suc k) [] a = none_fit
take_fit (suc k) (v ∷ x) a = more_fit (a.each 0) (take_fit k x (rest_fit a))

pub drop_fit : (k : ℕ) (x : List ℤ) → AllFit w64 x → AllFit w64 (drop k x)
drop_fit k x a = record { each = λ i. rw get_or-drop (a.each (k + i)) }

set_fit : (k : ℕ) (x : List ℤ) {v : ℤ} → SFits w64 v → AllFit w64 x → AllFit w64 (set x k v)
set_fit k [] h a = none_fit
set_fit zero (y ∷ x) h a = more_fit h (rest_fit a)
set_fit (suc k) (y ∷ x) h a = more_fit (a.each 0) (set_fit k x h (rest_fit a))

nth-zeros : (m k : ℕ) → nth (replicate m (pos 0)) k ≡ pos 0
nth-zeros m k = ap (λ (g : ℕ → ℤ). g k) (nth-padded [] m)

pub tabulate_fit : (n : ℕ) (g : ℕ → ℤ) → ((k : ℕ) → k < n → SFits w64 (g k)) → AllFit w64 (tabulate n g)
unfolding tabulate
tabulate_fit zero g h = none_fit
tabulate_fit (suc n) g h = append_fit (tabulate n g) _ (tabulate_fit n g (λ k l. h k (omega arith))) (more_fit (h n (omega arith)) none_fit)

-- the numbers of any bytes
numbers_tabulated : (s : List ℕ) (n : ℕ) → numbers_of w64 s n ≡ tabulate n (λ i. signed_at w64 s (i * bytes w64))
unfolding numbers_of tabulate
numbers_tabulated s zero = refl
numbers_tabulated s (suc n) = rw (numbers_tabulated s n)

numbers_fit : (s : List ℕ) (n : ℕ) → AllBytes s → AllFit w64 (numbers_of w64 s n)
numbers_fit s n b = rw (numbers_tabulated s n) (tabulate_fit n _ (λ k h. signed_at_fits w64 s (k * bytes w64) b))

-- ---- a number of a list is stored where its bytes are
module _ (w : Width) where
  -- behind the first n numbers
  set-behind : (r : List ℤ) (n k : ℕ) (v : ℤ) → n ≤ k → bytes_of w (set r k v) n ≡ bytes_of w r n
  unfolding bytes_of
  set-behind r zero k v h = refl
  set-behind r (suc n) k v h = rw (set-behind r n k v (omega arith), get_or-set_other r k n v (pos 0) (λ e. omega (arith, e)))

  -- in the front p of a list
  with-front : (p q : List ℕ) (at : ℕ) (v : ℤ) → at + bytes w ≤ length p → with_signed w (p ++ q) at v ≡ with_signed w p at v ++ q
  unfolding with_signed with_unsigned
  with-front p q at v h =
      rw (take-append-le at p q (omega arith), drop-append-le (at + bytes w) p q h)
      (sym (append_assoc (take at p ++ to_le_bytes (bytes w) (of_z w64 v)) (drop (at + bytes w) p) q))

  -- at the end
  with_end : (p q : List ℕ) (at : ℕ) (v : ℤ) → length p ≡ at → length q ≡ bytes w →
      with_signed w (p ++ q) at v ≡ p ++ to_le_bytes (bytes w) (of_z w64 v)
  unfolding with_signed with_unsigned
  with_end p q at v e f =
      rw (take_at p q at e, drop_past p q at (bytes w) e, drop_of_length-le q {i = bytes w} (omega (arith, f)), append-nil)

  bytes_set : (r : List ℤ) (n k : ℕ) (v : ℤ) → k < n → n ≤ length r →
      bytes_of w (set r k v) n ≡ with_signed w (bytes_of w r n) (k * bytes w) v
  unfolding bytes_of
  bytes_set r zero k v h l = absurd (omega (arith, h))
  bytes_set r (suc n) k v h l = go (ℕ_discrete k n) (λ i. bytes_set r n k v i (omega arith))
    where
      last : List ℕ
      last = to_le_bytes (bytes w) (of_z w64 (nth r n))

      go : Dec (k ≡ n) → (k < n → bytes_of w (set r k v) n ≡ with_signed w (bytes_of w r n) (k * bytes w) v)
          → bytes_of w (set r k v) (suc n) ≡ with_signed w (bytes_of w r (suc n)) (k * bytes w) v
      go (yes e) f =
          subst (λ (z : ℕ). bytes_of w (set r z v) (suc n) ≡ with_signed w (bytes_of w r (suc n)) (z * bytes w) v) (sym e)
          (rw (set-behind r n n v (omega arith), get_or-set_same r n v (pos 0) (omega arith))
          (sym (with_end (bytes_of w r n) last (n * bytes w) v (length-bytes_of w r n) (length-to_le_bytes _ _))))
      go (no e) f =
          let l : k < n = omega (arith, h, e) in
          let room : suc k * bytes w ≤ n * bytes w = mul-le-mul_right (bytes w) l in
          rw (f l, get_or-set_other r k n v (pos 0) (λ i. e (sym i)))
          (sym (with-front (bytes_of w r n) last (k * bytes w) v (omega (arith, room, length-bytes_of w r n))))

-- ---- s is the bytes of r, the numbers of an area
pub record Area (s : List ℕ) (r : List ℤ) : Type 0 where
  pub spelled : s ≡ area_bytes r
  pub numbers : length r ≡ run_numbers
  pub fit : AllFit w64 r

pub area_bytes_lem : {s : List ℕ} {r : List ℤ} → Area s r → length s ≡ run_bytes
area_bytes_lem {s} {r} a = ap length a.spelled ∙ length-bytes_of w64 r run_numbers

pub area-read : {s : List ℕ} {r : List ℤ} → Area s r → area_of s ≡ r
area-read {s} {r} a =
    rw (a.spelled, ← append-nil (area_bytes r))
    (numbers_of-bytes_of (narrow-of 8) r [] run_numbers a.fit (omega (arith, a.numbers))
    ∙ take_all run_numbers r (omega (arith, a.numbers)))

-- number k of any bytes
pub nth-area : (s : List ℕ) (k : ℕ) → k < run_numbers → nth (area_of s) k ≡ signed_at w64 s (k * bytes w64)
nth-area s k h = rw (numbers_tabulated s run_numbers) (nth-tabulate run_numbers _ k h)

pub area_of_lem : {s : List ℕ} → AllBytes s → length s ≡ run_bytes → Area s (area_of s)
area_of_lem {s} b e =
    record {
      spelled =
          sym (ap area_bytes (sym (append-nil (area_of s))) ∙ bytes_of-numbers_of (narrow-of 8) s [] run_numbers b (omega (arith, e))
          ∙ take_all run_bytes s (omega (arith, e)));
      numbers = length-numbers_of w64 s run_numbers;
      fit = numbers_fit s run_numbers b;
    }

-- ---- c laid over r from number f on
module _ (r : List ℤ) (f : ℕ) where
  pub laid_none : laid_over r f [] ≡ r
  unfolding laid_over
  laid_none = rw (add-zero f) (take-append-drop f r)

  pub length-laid : (c : List ℤ) → f + length c ≤ length r → length (laid_over r f c) ≡ length r
  unfolding laid_over
  length-laid c h = rw (length-append, length-append, length-take-le f r (omega arith), length-drop) (omega arith)

  pub laid_fit : (c : List ℤ) → AllFit w64 r → AllFit w64 c → AllFit w64 (laid_over r f c)
  unfolding laid_over
  laid_fit c a b = append_fit (take f r) _ (take_fit f r a) (append_fit c _ b (drop_fit (f + length c) r a))

  -- one number more
  pub laid_more : (c : List ℤ) (v : ℤ) → f + length c < length r → set (laid_over r f c) (f + length c) v ≡ laid_over r f (c ++ (v ∷ []))
  unfolding laid_over
  laid_more c v h =
      let p : List ℤ = take f r ++ c in
      let n : ℕ = f + length c in
      let e : length p ≡ n = length-append (take f r) c ∙ rw (length-take-le f r (omega arith)) in
      let m : f + length (c ++ (v ∷ [])) ≡ suc n = rw length-append (omega arith) in
      rw (
        m,
        drop-cons r n (pos 0) h,
        ← append_assoc (take f r) c (nth r n ∷ drop (suc n) r),
        append_snoc c v (drop (suc n) r),
        ← append_assoc (take f r) c (v ∷ drop (suc n) r),
      )
      (set_at p (nth r n) (drop (suc n) r) v n e)

-- ---- what the stores of the module `area` leave, from what they ensure: t of s
module _ {s t : List ℕ} {r : List ℤ} (a : Area s r) where
  area_by : (o : List ℤ → List ℤ) → t ≡ area_bytes (o (area_of s)) → length (o r) ≡ run_numbers → AllFit w64 (o r) → Area t (o r)
  area_by o e n f = record { spelled = e ∙ ap (λ (x : List ℤ). area_bytes (o x)) (area-read a); numbers = n; fit = f }

  pub area_set : (k : ℕ) (v : ℤ) → SFits w64 v → t ≡ area_bytes (set (area_of s) k v) → Area t (set r k v)
  area_set k v f e = area_by (λ x. set x k v) e (length-set r k v ∙ a.numbers) (set_fit k r f a.fit)

  pub area-laid : (f : ℕ) (c : List ℤ) → f + length c ≤ run_numbers → AllFit w64 c → t ≡ area_bytes (laid_over (area_of s) f c) →
      Area t (laid_over r f c)
  area-laid f c h b e =
      area_by (λ x. laid_over x f c) e (length-laid r f c (omega (arith, a.numbers, h)) ∙ a.numbers) (laid_fit r f c a.fit b)

  pub area_column : (j : ℕ) (c : List ℤ) → j < greatest_order → length c ≤ suc j → AllFit w64 c →
      t ≡ area_bytes (laid_column (area_of s) j c) → Area t (laid_column r j c)
  unfolding laid_column
  area_column j c h l b e = area-laid (columns_at + stride * j) c (omega (arith, h, l)) b e

-- ---- the store of one number
pub area_store : {s : List ℕ} {r : List ℤ} (k : ℕ) (v : ℤ) → k < run_numbers → Area s r →
    with_signed w64 s (k * bytes w64) v ≡ area_bytes (set r k v)
area_store {s} {r} k v h a = rw a.spelled (sym (bytes_set w64 r run_numbers k v h (omega (arith, a.numbers))))

-- behind those that are laid already
pub area-more : {s : List ℕ} (r : List ℤ) (f : ℕ) (c : List ℤ) (v : ℤ) {i : ℕ} → length c ≡ i → f + i < run_numbers →
    length r ≡ run_numbers → SFits w64 v
    → Area s (laid_over r f c) → Area (with_signed w64 s ((f + i) * bytes w64) v) (laid_over r f (c ++ (v ∷ [])))
area-more {s} r f c v e h n g a =
    let k : f + length c < run_numbers = omega (arith, e, h) in
    rw (← e, ← laid_more r f c v (omega (arith, k, n)))
    (area_set a (f + length c) v g (rw (area-read a) (area_store (f + length c) v k a)))

-- ---- an area of zeros
zero_bytes : (k : ℕ) → to_le_bytes k 0 ≡ replicate k 0
unfolding to_le_bytes
zero_bytes zero = refl
zero_bytes (suc k) = ap (λ (s : List ℕ). 0 ∷ s) (zero_bytes k)

zeros_bytes : (m n : ℕ) → bytes_of w64 (replicate m (pos 0)) n ≡ replicate (n * bytes w64) 0
unfolding bytes_of
zeros_bytes m zero = refl
zeros_bytes m (suc n) =
    let e : suc n * bytes w64 ≡ n * bytes w64 + bytes w64 = omega arith in
    rw (zeros_bytes m n, nth-zeros m n, zero_bytes (bytes w64), e) (replicate-append-replicate (n * bytes w64) (bytes w64) 0)

pub area_blank : Area blank_bytes blank_area
unfolding blank_bytes blank_area
area_blank =
    record {
      spelled = sym (zeros_bytes run_numbers run_numbers);
      numbers = length-replicate run_numbers (pos 0);
      fit = record { each = λ i. rw (nth-zeros run_numbers i) (fits_literal tt) };
    }
