-- A list that is filled from the front: i numbers are in place, and the rest is as it was.
use mathlib.Core.Path.{◌≡◌, sym, ◌∙◌}
use mathlib.Core.List.{List, ◌++◌}
use Prim.Native.Nat.{ℕ, suc, ◌+◌, ◌*◌, ◌≤◌, ◌<◌}
use native.Mathlib.Numerals.{add-one}
use native.Mathlib.Omega.{arith}
use lib.ListN.{length, set, drop, get_or, replicate}
use lib.Seq.{drop-cons, set_at, append_snoc, take_at, drop-drop}
use lib.IntN.{ℤ, pos}
use mir.Syntax.{Width}
use mir.Val.{bytes}
use Rattle.words.specs.Numbers.{signed_at, with_unsigned, with_signed, numbers_of, padded_numbers_of, bytes_of}
use Rattle.words.proofs.Laws.{length-numbers_of, length-bytes_of}
use Rattle.words.proofs.Lists.{drop_past, drop-replicate}

module _ (w : Width) where
  -- number i is put behind the first i
  pub fill_number : (s : List ℕ) (o : List ℤ) (i : ℕ) → i < length o
      → set (numbers_of w s i ++ drop i o) i (signed_at w s (i * bytes w)) ≡ numbers_of w s (i + 1) ++ drop (i + 1) o
  unfolding numbers_of
  fill_number s o i h =
      let x = signed_at w s (i * bytes w) in
      rw (add-one i, drop-cons o i (pos 0) h)
      (set_at (numbers_of w s i) (get_or o i (pos 0)) (drop (suc i) o) x i (length-numbers_of w s i) ∙ sym (append_snoc (numbers_of w s i) x (drop (suc i) o)))

  -- zeros stay behind k numbers
  pub fill_zeros : (n : ℕ) (s : List ℕ) (k : ℕ) → k ≤ n → numbers_of w s k ++ drop k (replicate n (pos 0)) ≡ padded_numbers_of w n s k
  unfolding padded_numbers_of
  fill_zeros n s k h = rw (drop-replicate n k (pos 0))

  -- the bytes of number i are put behind those of the first i
  pub fill_bytes : (a : List ℤ) (o : List ℕ) (i : ℕ)
      → with_signed w (bytes_of w a i ++ drop (i * bytes w) o) (i * bytes w) (get_or a i (pos 0)) ≡ bytes_of w a (i + 1) ++ drop ((i + 1) * bytes w) o
  unfolding bytes_of with_signed with_unsigned
  fill_bytes a o i =
      let p = bytes_of w a i in
      let q = drop (i * bytes w) o in
      let e = length-bytes_of w a i in
      let n : suc i * bytes w ≡ i * bytes w + bytes w = omega arith in
      rw (add-one i, take_at p q (i * bytes w) e, drop_past p q (i * bytes w) (bytes w) e, drop-drop, n)
