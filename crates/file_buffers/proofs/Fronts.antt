-- Numbers in front of a buffer and zeros behind them: the bytes of an array that has zeros there, and of an array that fills its buffer.
use mathlib.Core.Path.{◌≡◌, refl, sym, ap, ◌∙◌}
use mathlib.Core.List.{List, ◌++◌, append_assoc, append-nil}
use Prim.Native.Nat.{ℕ, zero, suc, ◌+◌, ◌-◌, ◌*◌, ◌≤◌}
use native.Mathlib.Omega.{arith}
use lib.IntN.{ℤ, pos}
use lib.ListN.{length, take, drop, replicate, replicate-append-replicate, get_or-eq_default}
use lib.Seq.{length-take-le}
use mir.Syntax.{w64}
use mir.Val.{bytes, of_z}
use Rattle.words.specs.Numbers.{to_le_bytes, bytes_of}
use Rattle.words.proofs.Lists.{append-drop_end}
use Rattle.tables.specs.Matrix.{nth}
use Rattle.tables.proofs.Matrix.{nth-padded}
use Rattle.summary.specs.Problems.{padded_to}
use Rattle.file_buffers.specs.Parts.{in_front, Numbers}

-- the bytes of 0 are zeros
zero_bytes : to_le_bytes (bytes w64) (of_z w64 (pos 0)) ≡ replicate (bytes w64) 0
unfolding to_le_bytes
zero_bytes = refl

-- m zeros behind k numbers
zeros-behind : (x : List ℤ) (k m : ℕ) → ((i : ℕ) → k ≤ i → nth x i ≡ pos 0) →
    bytes_of w64 x (k + m) ≡ bytes_of w64 x k ++ replicate (m * bytes w64) 0
unfolding bytes_of
zeros-behind x k zero z =
    let e : k + 0 ≡ k = omega arith in
    rw (e, append-nil)
zeros-behind x k (suc m) z =
    let e : k + suc m ≡ suc (k + m) = omega arith in
    let f : suc m * bytes w64 ≡ m * bytes w64 + bytes w64 = omega arith in
    ap (bytes_of w64 x) e
    ∙ rw (
      zeros-behind x k m z,
      z (k + m) (omega arith),
      zero_bytes,
      append_assoc (bytes_of w64 x k),
      replicate-append-replicate {A = ℕ} (m * bytes w64) (bytes w64) 0,
      f,
    )

-- an array with zeros behind its first k numbers
module _ (room k : ℕ) (x : List ℤ) (h : k ≤ length x) (e : padded_to room k x ≡ x) where
  past : (i : ℕ) → k ≤ i → nth x i ≡ pos 0
  past i l =
      ap (λ (y : List ℤ). nth y i) (sym e) ∙ ap (λ (f : ℕ → ℤ). f i) (nth-padded (take k x) (room - k))
      ∙ get_or-eq_default (take k x) (pos 0) (omega (arith, length-take-le k x h))

  pub padded_bytes : k ≤ room → bytes_of w64 x room ≡ in_front room k x
  padded_bytes l =
      let q : room ≡ k + (room - k) = omega arith in
      ap (bytes_of w64 x) q ∙ zeros-behind x k (room - k) past

-- a buffer of exactly their size is written whole
pub numbers-stored : {m : ℕ} {x : List ℤ} {s : List ℕ} → Numbers m x s → bytes_of w64 x m ++ drop (m * bytes w64) s ≡ bytes_of w64 x m
numbers-stored {m} {x} {s} z = append-drop_end (bytes_of w64 x m) s (m * bytes w64) (omega (arith, z.size))
