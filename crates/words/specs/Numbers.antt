-- R1.6 of docs/RULES.md: numbers in lists of bytes, low byte first, signed ones in two's complement. Width w takes `bytes w` bytes.
use Rattle.std.specs.Prelude.{ℕ, zero, suc, ◌+◌, ◌-◌, ◌*◌, ◌/◌, ◌%◌, cond, List, [], ◌∷◌, ◌++◌, eqb, take, drop, get_or, replicate, ℤ, pos}
use Rattle.std.specs.Int.{Width, w32, w64}
use mir.Val.{bytes, to_z, of_z}

-- the width of a number of `size` bytes; `size ≡ bytes (width_of size)` says that they are 4 or 8
abbrev pub width_of : ℕ → Width
width_of size = cond (eqb size 4) w32 w64

-- the unsigned number that the bytes are
unfoldable pub from_le_bytes : List ℕ → ℕ
from_le_bytes [] = 0
from_le_bytes (b ∷ bs) = b + 256 * from_le_bytes bs

-- the k low bytes of u
unfoldable pub to_le_bytes : ℕ → ℕ → List ℕ
to_le_bytes zero u = []
to_le_bytes (suc k) u = u % 256 ∷ to_le_bytes k (u / 256)

-- the unsigned number of the k bytes of s at `at`
unfoldable pub unsigned_at : ℕ → List ℕ → ℕ → ℕ
unsigned_at k s at = from_le_bytes (take k (drop at s))

-- the signed number of width w in s at `at`
unfoldable pub signed_at : Width → List ℕ → ℕ → ℤ
signed_at w s at = to_z w (unsigned_at (bytes w) s at)

-- s with the k low bytes of u at `at`
unfoldable pub with_unsigned : ℕ → List ℕ → ℕ → ℕ → List ℕ
with_unsigned k s at u = take at s ++ to_le_bytes k u ++ drop (at + k) s

-- s with the signed number v at `at`, at width w: the low bytes of its 64 bits, which are its own where it fits w
unfoldable pub with_signed : Width → List ℕ → ℕ → ℤ → List ℕ
with_signed w s at v = with_unsigned (bytes w) s at (of_z w64 v)

-- the first k signed numbers of width w in s
unfoldable pub numbers_of : Width → List ℕ → ℕ → List ℤ
numbers_of w s zero = []
numbers_of w s (suc k) = numbers_of w s k ++ (signed_at w s (k * bytes w) ∷ [])

-- the same k numbers, and zeros up to n of them
unfoldable pub padded_numbers_of : Width → ℕ → List ℕ → ℕ → List ℤ
padded_numbers_of w n s k = numbers_of w s k ++ replicate (n - k) (pos 0)

-- the bytes of the first k numbers of a, each at width w
unfoldable pub bytes_of : Width → List ℤ → ℕ → List ℕ
bytes_of w a zero = []
bytes_of w a (suc k) = bytes_of w a k ++ to_le_bytes (bytes w) (of_z w64 (get_or a k (pos 0)))
