-- Numbers that stand in a buffer as bytes.
use mathlib.Core.Path.{◌≡◌, refl, sym, ap, ap₂}
use mathlib.Core.List.{List, ◌++◌}
use Prim.Native.Nat.{ℕ, zero, suc, ◌<◌}
use native.Mathlib.Omega.{arith}
use lib.IntN.{ℤ, pos}
use lib.ListN.{take}
use lib.Seq.{get_or-take}
use mir.Syntax.{Width, w64}
use mir.Val.{bytes, of_z}
use Rattle.words.specs.Numbers.{to_le_bytes, bytes_of}
use Rattle.tables.specs.Matrix.{nth}

-- the bytes of the first k numbers rest on these alone
pub bytes_of_ext : (w : Width) (a b : List ℤ) (k : ℕ) → ((i : ℕ) → i < k → nth a i ≡ nth b i) → bytes_of w a k ≡ bytes_of w b k
unfolding bytes_of
bytes_of_ext w a b zero h = refl
bytes_of_ext w a b (suc k) h =
    ap₂ (λ (x y : List ℕ). x ++ y) (bytes_of_ext w a b k (λ i l. h i (omega arith)))
    (ap (λ (z : ℤ). to_le_bytes (bytes w) (of_z w64 z)) (h k (omega arith)))

pub bytes_of_front : (w : Width) (a : List ℤ) (k : ℕ) → bytes_of w a k ≡ bytes_of w (take k a) k
bytes_of_front w a k = bytes_of_ext w a (take k a) k (λ i h. sym (get_or-take k a i (pos 0) h))
