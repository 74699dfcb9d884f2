-- What the entries store: the bytes of a table, of a vector, of the sides or of one number; and what is read back from them.
use mathlib.Core.Path.{◌≡◌, sym, ap, ◌∙◌}
use mathlib.Core.List.{List, [], ◌++◌, append-nil}
use Prim.Native.Nat.{ℕ, ◌*◌, ◌^◌, ◌<◌}
use native.Mathlib.Omega.{arith}
use lib.IntN.{ℤ}
use lib.ListN.{length, drop}
use mir.Syntax.{w64}
use mir.Val.{bytes, SFits}
use Rattle.integers.specs.Numbers.{Within}
use Rattle.integers.proofs.Machine.{fits_within}
use Rattle.words.specs.Numbers.{with_unsigned, with_signed, numbers_of, bytes_of}
use Rattle.words.proofs.Laws.{signed_at-same, read_whole}
use Rattle.words.proofs.Sign.{narrow-of}
use Rattle.words.proofs.Lists.{append-drop_end}
use Rattle.tables.specs.Matrix.{nth, tabulate}
use Rattle.tables.proofs.Matrix.{nth-tabulate}
use Rattle.tables.proofs.Spelled.{bytes_of_ext}
use Rattle.buffers.specs.Buffers.{number_of, bytes_of_number}

-- a buffer of exactly their size is written whole
pub numbers-stored : (s : List ℕ) (n : ℕ) (x : List ℤ) → length s ≡ n * bytes w64 →
    bytes_of w64 x n ++ drop (n * bytes w64) s ≡ bytes_of w64 (tabulate n (nth x)) n
numbers-stored s n x e =
    append-drop_end (bytes_of w64 x n) s (n * bytes w64) (omega (arith, e)) ∙
    bytes_of_ext w64 x (tabulate n (nth x)) n (λ i h. sym (nth-tabulate n (nth x) i h))

-- and read back
pub read-numbers : {m b : ℕ} (x : List ℤ) → length x ≡ m → ((i : ℕ) → Within b (nth x i)) → b < 2 ^ 63 →
    numbers_of w64 (bytes_of w64 x m) m ≡ x
read-numbers {m} x e z h = read_whole (narrow-of 8) x (record { each = λ i. fits_within (z i) h }) e

-- ---- one number
-- a buffer of exactly its size is written whole, with z, which is v
pub number-stored : (s : List ℕ) {z v : ℤ} {o : List ℕ} → length s ≡ bytes w64 → z ≡ v → o ≡ with_signed w64 s 0 z → o ≡ bytes_of_number v
unfolding with_signed with_unsigned
number-stored s {v = v} h e q = q ∙ ap (with_signed w64 s 0) e ∙ append-drop_end (bytes_of_number v) s (bytes w64) (omega (arith, h))

-- and read back
pub read_number : (v : ℤ) → SFits w64 v → number_of (bytes_of_number v) ≡ v
unfolding with_signed with_unsigned
read_number v f = rw (append-nil) at (signed_at-same (narrow-of 8) [] 0 v f (omega arith))
