-- The numbers that a list of bytes spells, number by number, and from one of them on.
use mathlib.Core.Path.{◌≡◌, sym, ap, ◌∙◌}
use mathlib.Core.List.{List, [], ◌∷◌}
use Prim.Native.Nat.{ℕ, zero, suc, ◌+◌, ◌*◌, ◌≤◌, ◌<◌}
use native.Mathlib.Decide.{ℕ_discrete}
use native.Mathlib.Omega.{arith}
use lib.IntN.{pos}
use lib.ListN.{length, drop, get_or-append}
use lib.Seq.{get_or-append_seam, drop-drop}
use mir.Syntax.{Width}
use mir.Val.{bytes}
use Rattle.words.specs.Numbers.{unsigned_at, signed_at, numbers_of}
use Rattle.words.proofs.Laws.{length-numbers_of}
use Rattle.tables.specs.Matrix.{nth}

-- number i of those that a buffer spells
nth-numbers : (w : Width) (s : List ℕ) (k i : ℕ) → i < k → nth (numbers_of w s k) i ≡ signed_at w s (i * bytes w)
unfolding numbers_of
nth-numbers w s zero i h = absurd (omega (arith, h))
nth-numbers w s (suc k) i h = go (ℕ_discrete i k) (λ l. nth-numbers w s k i l)
  where
    e : length (numbers_of w s k) ≡ k
    e = length-numbers_of w s k

    go : Dec (i ≡ k) → (i < k → nth (numbers_of w s k) i ≡ signed_at w s (i * bytes w)) →
        nth (numbers_of w s (suc k)) i ≡ signed_at w s (i * bytes w)
    go (yes q) f = rw q (ap (nth (numbers_of w s (suc k))) (sym e)
        ∙ get_or-append_seam (numbers_of w s k) (signed_at w s (k * bytes w)) [] (pos 0))
    go (no q) f = get_or-append (numbers_of w s k) (signed_at w s (k * bytes w) ∷ []) (pos 0) i (omega (arith, e, h, q))
        ∙ f (omega (arith, h, q))

signed-later : (w : Width) (s : List ℕ) (a b : ℕ) → signed_at w (drop a s) b ≡ signed_at w s (a + b)
unfolding signed_at unsigned_at
signed-later w s a b = rw drop-drop

-- and of those from number k on
pub spelled-later : (w : Width) (s : List ℕ) (k : ℕ) {j m i : ℕ} → k + j ≤ m → i < j →
    nth (numbers_of w (drop (k * bytes w) s) j) i ≡ nth (numbers_of w s m) (k + i)
spelled-later w s k {j} {m} {i} h l =
    nth-numbers w _ j i l ∙ signed-later w s (k * bytes w) (i * bytes w)
    ∙ ap (signed_at w s) (omega arith)
    ∙ sym (nth-numbers w s m (k + i) (omega (arith, h, l)))
