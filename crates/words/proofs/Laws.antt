-- Laws of the definitions in specs/Numbers: lengths, and what is read where something was written. Over any number of bytes.
use mathlib.Core.Path.{◌≡◌, refl, sym, ap, ◌∙◌}
use mathlib.Core.List.{List, [], ◌∷◌, ◌++◌, append_assoc, append-nil}
use Prim.Native.Nat.{ℕ, zero, suc, ◌+◌, ◌-◌, ◌*◌, ◌/◌, ◌%◌, ◌^◌, ◌≤◌, ◌<◌}
use native.Mathlib.Nat.{pow-succ', one-le-pow, zero-mul}
use native.Mathlib.Numerals.{add-one}
use native.Mathlib.Omega.{arith}
use lib.ListN.{length, take, drop, get_or, length-append, length-drop, length-replicate, take-append-drop}
use lib.Seq.{take-add, take_all, take_at, take-suc, length-take-le, drop_at, drop-cons, drop-drop, get_or_at, get_or-drop, append_snoc}
use lib.IntN.{ℤ, pos, negsuc}
use mir.Syntax.{Width, w8, w16, w32, w64, w128}
use mir.Val.{bits, bytes, of_z, SFits, Fits}
use mir.Facts.{to_z-of_z, of_z-to_z, Fits-of_z, sfits_to_z}
use Rattle.words.specs.Numbers.{from_le_bytes, to_le_bytes, unsigned_at, signed_at, with_unsigned, with_signed, numbers_of, padded_numbers_of, bytes_of}
use Rattle.words.proofs.Sign.{Narrow}

-- every element is a byte (past the end `get_or` reads 0)
pub record AllBytes (s : List ℕ) : Type 0 where
  pub each : (i : ℕ) → get_or s i 0 < 256

-- every element is a signed number of width w
pub record AllFit (w : Width) (a : List ℤ) : Type 0 where
  pub each : (i : ℕ) → SFits w (get_or a i (pos 0))

-- parts of a list of bytes
tail_bytes : {b : ℕ} {s : List ℕ} → AllBytes (b ∷ s) → AllBytes s
tail_bytes h = record { each = λ i. h.each (suc i) }

drop_bytes : (at : ℕ) (s : List ℕ) → AllBytes s → AllBytes (drop at s)
drop_bytes at s h = record { each = λ i. rw get_or-drop (h.each (at + i)) }

take_bytes : (k : ℕ) (s : List ℕ) → AllBytes s → (i : ℕ) → get_or (take k s) i 0 < 256
take_bytes zero s h i = omega arith
take_bytes (suc k) [] h i = omega arith
take_bytes (suc k) (b ∷ s) h zero = h.each 0
take_bytes (suc k) (b ∷ s) h (suc i) = take_bytes k s (tail_bytes h) i

pub part_bytes : (k at : ℕ) (s : List ℕ) → AllBytes s → AllBytes (take k (drop at s))
part_bytes k at s h = record { each = take_bytes k (drop at s) (drop_bytes at s h) }

length_part : (k : ℕ) (s : List ℕ) (at : ℕ) → at + k ≤ length s → length (take k (drop at s)) ≡ k
length_part k s at h = length-take-le k (drop at s) (rw length-drop (omega arith))

-- the number of the k bytes of u is u
pub from_le_bytes-to_le_bytes : (k u : ℕ) → u < 256 ^ k → from_le_bytes (to_le_bytes k u) ≡ u
unfolding from_le_bytes to_le_bytes
from_le_bytes-to_le_bytes zero u h = omega arith
from_le_bytes-to_le_bytes (suc k) u h =
    let l : u / 256 < 256 ^ k = omega (arith, pow-succ' 256 k) in
    rw (from_le_bytes-to_le_bytes k (u / 256) l) (omega arith)

-- the bytes of the number of the bytes s are s
pub to_le_bytes-from_le_bytes : (s : List ℕ) → AllBytes s → to_le_bytes (length s) (from_le_bytes s) ≡ s
unfolding from_le_bytes to_le_bytes
to_le_bytes-from_le_bytes [] h = refl
to_le_bytes-from_le_bytes (b ∷ s) h =
    let l : b < 256 = h.each 0 in
    let m : (b + 256 * from_le_bytes s) % 256 ≡ b = omega arith in
    let d : (b + 256 * from_le_bytes s) / 256 ≡ from_le_bytes s = omega arith in
    rw (m, d, to_le_bytes-from_le_bytes s (tail_bytes h))

pub length-to_le_bytes : (k u : ℕ) → length (to_le_bytes k u) ≡ k
unfolding to_le_bytes
length-to_le_bytes zero u = refl
length-to_le_bytes (suc k) u = ap suc (length-to_le_bytes k (u / 256))

-- what stands above k bytes is not among them
to_le_bytes-above : (k u m : ℕ) → to_le_bytes k (u + 256 ^ k * m) ≡ to_le_bytes k u
unfolding to_le_bytes
to_le_bytes-above zero u m = refl
to_le_bytes-above (suc k) u m =
    let e : 256 ^ suc k * m ≡ 256 * (256 ^ k * m) = rw (pow-succ' 256 k) (omega arith) in
    let d : (u + 256 * (256 ^ k * m)) / 256 ≡ u / 256 + 256 ^ k * m = omega arith in
    let r : (u + 256 * (256 ^ k * m)) % 256 ≡ u % 256 = omega arith in
    rw (e, r, d, to_le_bytes-above k (u / 256) m)

-- unsigned numbers at a place
from_le_bytes-below : (k : ℕ) (s : List ℕ) → AllBytes s → from_le_bytes (take k s) < 256 ^ k
unfolding from_le_bytes
from_le_bytes-below zero s h = omega arith
from_le_bytes-below (suc k) [] h = one-le-pow (suc k) 256 (omega arith)
from_le_bytes-below (suc k) (b ∷ s) h = omega (arith, pow-succ' 256 k, h.each 0, from_le_bytes-below k s (tail_bytes h))

pub unsigned_at-below : (k : ℕ) (s : List ℕ) (at : ℕ) → AllBytes s → unsigned_at k s at < 256 ^ k
unfolding unsigned_at
unsigned_at-below k s at h = from_le_bytes-below k (drop at s) (drop_bytes at s h)

-- the lowest byte, and the number of the bytes behind it
pub unsigned_at_suc : (k : ℕ) (s : List ℕ) (at : ℕ) → at < length s → unsigned_at (suc k) s at ≡ get_or s at 0 + 256 * unsigned_at k s (suc at)
unfolding unsigned_at from_le_bytes
unsigned_at_suc k s at h = rw (drop-cons s at 0 h)

-- the number that was written is read again
unsigned_at-put : (k : ℕ) (p t : List ℕ) (at u : ℕ) → length p ≡ at → u < 256 ^ k → unsigned_at k (p ++ to_le_bytes k u ++ t) at ≡ u
unfolding unsigned_at
unsigned_at-put k p t at u e h =
    rw (append_assoc p, drop_at p (to_le_bytes k u ++ t) at e, take_at (to_le_bytes k u) t k (length-to_le_bytes k u), from_le_bytes-to_le_bytes k u h)

-- the number that was read, written where it was, changes nothing
bytes_at : (k : ℕ) (s : List ℕ) (at : ℕ) → AllBytes s → at + k ≤ length s → to_le_bytes k (unsigned_at k s at) ≡ take k (drop at s)
unfolding unsigned_at
bytes_at k s at b h =
    let p = take k (drop at s) in
    ap (λ (n : ℕ). to_le_bytes n (from_le_bytes p)) (sym (length_part k s at h))
    ∙ to_le_bytes-from_le_bytes p (record { each = take_bytes k (drop at s) (drop_bytes at s b) })

pub with_unsigned-same : (k : ℕ) (s : List ℕ) (at : ℕ) → AllBytes s → at + k ≤ length s → with_unsigned k s at (unsigned_at k s at) ≡ s
unfolding with_unsigned
with_unsigned-same k s at b h =
    rw (bytes_at k s at b h, append_assoc (take at s), ← drop-drop k at s, take-append-drop k (drop at s), take-append-drop at s)

pub pow_bytes : (w : Width) → 256 ^ bytes w ≡ 2 ^ bits w
pow_bytes w8 = refl
pow_bytes w16 = refl
pow_bytes w32 = refl
pow_bytes w64 = refl
pow_bytes w128 = refl

module _ (w : Width) where
  bits_below : {v : ℤ} → SFits w v → of_z w v < 256 ^ bytes w
  bits_below f = rw (pow_bytes w) (Fits-of_z f).fits

  pub unsigned_at_fits : (s : List ℕ) (at : ℕ) → AllBytes s → Fits w (unsigned_at (bytes w) s at)
  unsigned_at_fits s at b = record { fits = rw pow_bytes at (unsigned_at-below (bytes w) s at b) }

  bits-signed_at : (s : List ℕ) (at : ℕ) → AllBytes s → of_z w (signed_at w s at) ≡ unsigned_at (bytes w) s at
  unfolding signed_at
  bits-signed_at s at b = of_z-to_z (unsigned_at_fits s at b)

  -- signed numbers at a place
  pub signed_at_fits : (s : List ℕ) (at : ℕ) → AllBytes s → SFits w (signed_at w s at)
  unfolding signed_at
  signed_at_fits s at b = sfits_to_z (unsigned_at_fits s at b)

  -- lists of numbers
  pub length-numbers_of : (s : List ℕ) (k : ℕ) → length (numbers_of w s k) ≡ k
  unfolding numbers_of
  length-numbers_of s zero = refl
  length-numbers_of s (suc k) = rw (length-append, length-numbers_of s k) (add-one k)

  pub length-padded_numbers_of : (n : ℕ) (s : List ℕ) (k : ℕ) → k ≤ n → length (padded_numbers_of w n s k) ≡ n
  unfolding padded_numbers_of
  length-padded_numbers_of n s k h = rw (length-append, length-numbers_of, length-replicate) (omega arith)

  pub length-bytes_of : (a : List ℤ) (k : ℕ) → length (bytes_of w a k) ≡ k * bytes w
  unfolding bytes_of
  length-bytes_of a zero = omega arith
  length-bytes_of a (suc k) = rw (length-append, length-bytes_of a k, length-to_le_bytes) (omega arith)

-- what is read where something was written, at a width of at most 64 bits
module _ {w : Width} (n : Narrow w) where
  -- the low bytes of a number that fits are those of its own bits
  low_bytes : (v : ℤ) → SFits w v → to_le_bytes (bytes w) (of_z w64 v) ≡ to_le_bytes (bytes w) (of_z w v)
  low_bytes (pos m) f = refl
  low_bytes (negsuc m) f =
      let e : 2 ^ 64 - suc m ≡ 2 ^ bits w - suc m + 2 ^ bits w * n.turns = omega (arith, n.whole, n.halves, f.sfits) in
      rw (e, ← pow_bytes w) (to_le_bytes-above (bytes w) (256 ^ bytes w - suc m) n.turns)

  low_bytes_signed_at : (s : List ℕ) (at : ℕ) → AllBytes s → to_le_bytes (bytes w) (of_z w64 (signed_at w s at)) ≡ to_le_bytes (bytes w) (unsigned_at (bytes w) s at)
  low_bytes_signed_at s at b = low_bytes (signed_at w s at) (signed_at_fits w s at b) ∙ ap (to_le_bytes (bytes w)) (bits-signed_at w s at b)

  pub signed_at-same : (s : List ℕ) (at : ℕ) (v : ℤ) → SFits w v → at ≤ length s → signed_at w (with_signed w s at v) at ≡ v
  unfolding signed_at with_signed with_unsigned
  signed_at-same s at v f h =
      rw (low_bytes v f, unsigned_at-put (bytes w) (take at s) (drop (at + bytes w) s) at (of_z w v) (length-take-le at s h) (bits_below w f)) (to_z-of_z f)

  -- numbers that are written out and read again, whatever stands behind their bytes
  pub numbers_of-bytes_of : (a : List ℤ) (t : List ℕ) (k : ℕ) → AllFit w a → k ≤ length a → numbers_of w (bytes_of w a k ++ t) k ≡ take k a
  unfolding numbers_of bytes_of signed_at
  numbers_of-bytes_of a t zero f h = refl
  numbers_of-bytes_of a t (suc k) f h =
      let v = get_or a k (pos 0) in
      let u = of_z w v in
      let b = to_le_bytes (bytes w) u in
      let d = append_assoc (bytes_of w a k) (to_le_bytes (bytes w) (of_z w64 v)) t ∙ ap (λ (x : List ℕ). bytes_of w a k ++ (x ++ t)) (low_bytes v (f.each k)) in
      let e = unsigned_at-put (bytes w) (bytes_of w a k) t (k * bytes w) u (length-bytes_of w a k) (bits_below w (f.each k)) in
      let r = numbers_of-bytes_of a (b ++ t) k f (omega arith) in
      ap (λ (x : List ℕ). numbers_of w x (suc k)) d
      ∙ rw (← append_assoc (bytes_of w a k), e) (rw (r, to_z-of_z (f.each k), take-suc a k (pos 0) (omega arith)))

  -- and with nothing behind them
  pub read_whole : (a : List ℤ) {k : ℕ} → AllFit w a → length a ≡ k → numbers_of w (bytes_of w a k) k ≡ a
  read_whole a {k} f e =
      ap (λ (s : List ℕ). numbers_of w s k) (sym (append-nil (bytes_of w a k))) ∙ numbers_of-bytes_of a [] k f (omega (arith, e)) ∙ take_all k a (omega (arith, e))

  -- bytes that are read and written out again, whatever stands behind the numbers
  pub bytes_of-numbers_of : (s : List ℕ) (t : List ℤ) (k : ℕ) → AllBytes s → k * bytes w ≤ length s → bytes_of w (numbers_of w s k ++ t) k ≡ take (k * bytes w) s
  unfolding numbers_of bytes_of
  bytes_of-numbers_of s t zero b h = rw (zero-mul (bytes w))
  bytes_of-numbers_of s t (suc k) b h =
      let x = signed_at w s (k * bytes w) in
      let m : suc k * bytes w ≡ k * bytes w + bytes w = omega arith in
      let p = numbers_of w s k in
      let r = bytes_of-numbers_of s (x ∷ t) k b (omega arith) in
      ap (λ (y : List ℤ). bytes_of w y (suc k)) (append_snoc p x t)
      ∙ rw (get_or_at p x t (pos 0) k (length-numbers_of w s k), r, low_bytes_signed_at s (k * bytes w) b, bytes_at (bytes w) s (k * bytes w) b (omega arith), m, take-add)
