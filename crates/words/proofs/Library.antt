-- std's words for the bytes of a number, in the words of specs/Numbers.antt.
use mathlib.Core.Path.{◌≡◌, refl, sym}
use mathlib.Core.List.{List, append_assoc}
use Prim.Native.Nat.{ℕ, zero, suc, ◌+◌, ◌-◌, ◌/◌, ◌^◌, ◌≤◌}
use native.Mathlib.Nat.{pow-suc, div-one, div-div-eq-div-mul}
use native.Mathlib.Omega.{arith}
use lib.ListN.{take, drop}
use borrow.Rule.Slice.PartMut.{put_mid, Post-is}
use mir.Syntax.{w64}
use Rattle.std.specs.Int.{bytes_low_first, to_le_bytes as bytes_of_number}
use Rattle.words.specs.Numbers.{to_le_bytes, with_unsigned}

-- the first k of the bytes of u from byte i upward
low_first : (i k n u : ℕ) → k ≤ n → take k (bytes_low_first i n u) ≡ to_le_bytes k (u / 256 ^ i)
unfolding to_le_bytes
low_first i zero n u h = refl
low_first i (suc k) zero u h = absurd (omega arith)
low_first zero (suc k) (suc n) u h = rw (div-one, low_first 1 k n u (omega arith))
low_first (suc i) (suc k) (suc n) u h =
    let d : u / 256 ^ suc i / 256 ≡ u / 256 ^ suc (suc i) = rw (div-div-eq-div-mul, ← pow-suc) in
    rw (d, low_first (suc (suc i)) k n u (omega arith))

-- the low bytes of u put in the place of as many
pub with_low_bytes : (k : ℕ) (s p : List ℕ) (at u : ℕ) → k ≤ 8 → p ≡ take k (bytes_of_number w64 u) → put_mid at (at + k - at) s p ≡ with_unsigned k s at u
unfolding with_unsigned
with_low_bytes k s p at u h e =
    rw (e, low_first 0 k 8 u h, div-one, Post-is at (at + k) s (omega arith)) (sym (append_assoc (take at s) (to_le_bytes k u) (drop (at + k) s)))
